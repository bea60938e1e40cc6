-- `le::lay` meets its contract. Assumes nothing.
use native.Mathlib.Omega.{arith}
use lib.ListN.{length-take}
use Rattle.le.proofs.SpliceLaws.{laid-past, laid-clipped}
use Rattle.le.proofs.lay.Goals as goal

pub returns-then-dst-at : goal.returns-then-dst-at
returns-then-dst-at c = laid-past _ _ _ c.if-dst-at.true

pub copy_at-requires : goal.copy_at-requires
copy_at-requires c = rw (c.front.ensures, length-take) (omega arith)

pub returns : goal.returns
returns c = laid-clipped _ _ _ _ _ c.front.ensures c.copy_at.ensures
