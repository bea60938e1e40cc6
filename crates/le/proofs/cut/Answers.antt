-- `le::cut` meets its contract. Assumes nothing.
use Rattle.le.specs.Splice.{part}
use Rattle.le.proofs.cut.Goals as goal

pub returns : goal.returns
unfolding part
returns c = simp (c.front.ensures, c.tail.ensures)
