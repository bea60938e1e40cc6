-- `le::put_le` meets its contract: what is left of the number, written over what there is, gives the result. Assumes nothing.
use mathlib.Core.Path.{◌≡◌}
use Prim.Native.Nat.{◌-◌, ◌+◌}
use Rattle.le.specs.Le.{le_bytes}
use Rattle.le.specs.Splice.{splice}
use Rattle.le.proofs.put_le.Given as goal

abbrev pub invariant-loop-i : goal.invariant-loop-i
invariant-loop-i l = splice l.s (l.at + l.i) (le_bytes (l.w - l.i) l.rest) ≡ splice l.initial.s l.at (le_bytes l.w l.v)
