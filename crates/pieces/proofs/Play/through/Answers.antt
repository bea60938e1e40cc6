-- The answers for `pieces::Play::through`.
use Rattle.pieces.proofs.PieceLaws.{read_none, read_more}
use Rattle.pieces.proofs.Play.through.Goals as goal

pub loop-init : goal.loop-init
loop-init c = read_none _

pub loop-preserved : goal.loop-preserved
loop-preserved c = read_more _ _ _ _ c.loop.invariant c.more.ensures

pub returns-then-more : goal.returns-then-more
returns-then-more c = read_more _ _ _ _ c.loop.invariant c.more.ensures
