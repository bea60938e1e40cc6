-- `pieces::Play::fresh` meets its contract. Assumes nothing.
use Rattle.pieces.specs.Feeding.{fresh_stand}
use Rattle.pieces.proofs.Play.fresh.Goals as goal

pub returns : goal.returns
unfolding fresh_stand
returns c = simp (c.fresh.ensures, c.fresh-2.ensures)
