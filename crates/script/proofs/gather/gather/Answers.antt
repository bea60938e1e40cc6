-- `script::gather::gather` meets its contract. Assumes nothing.
use Rattle.script.proofs.GatherLaws.{gathered_none, line-none, line-more, gathered-whole, gathered-part}
use Rattle.script.proofs.gather.gather.Goals as goal

pub returns-then-piece-at : goal.returns-then-piece-at
returns-then-piece-at c = record { value = gathered_none _ _ _ c.if-piece-at.true; line_after = line-none _ _ _ _ c.if-piece-at.true }

pub returns-then-end-piece : goal.returns-then-end-piece
returns-then-end-piece c = record { value = gathered-whole _ _ _ _ _ c.find-end.ensures.0 c.if-end-piece.true c.held_with-held.ensures; line_after = line-more _ _ _ _ _ _ _ c.find-end.ensures.0 c.cut.ensures c.lay.ensures }

pub returns : goal.returns
returns c = record { value = gathered-part _ _ _ _ _ c.find-end.ensures.0 c.if-end-piece.false c.held_with-held.ensures; line_after = line-more _ _ _ _ _ _ _ c.find-end.ensures.0 c.cut.ensures c.lay.ensures }
