-- `le::copy_at` meets its contract: what is left of `src`, written over what there is, gives the result. Assumes nothing.
use mathlib.Core.Path.{◌≡◌}
use Prim.Native.Nat.{◌+◌}
use lib.ListN.{drop}
use Rattle.le.specs.Splice.{splice}
use Rattle.le.proofs.copy_at.Given as goal

abbrev pub invariant-loop-i : goal.invariant-loop-i
invariant-loop-i l = splice l.dst (l.at + l.i) (drop l.i l.src) ≡ splice l.initial.dst l.at l.src
