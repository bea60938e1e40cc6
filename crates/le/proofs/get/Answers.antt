-- What `le::get` makes of a number of so many bytes is one that fits them, by the law over the width. Assumes nothing.
use Rattle.le.proofs.LeLaws.{le_at-lt}
use Rattle.le.proofs.get.Goals as goal

pub narrowed-requires : goal.narrowed-requires
narrowed-requires g c = rw c.read.ensures (le_at-lt _ _ _ c.type_inv.s)
