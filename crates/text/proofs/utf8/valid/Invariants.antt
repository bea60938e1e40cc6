-- `text::utf8::valid` meets its contract: what is left, character by character, is UTF-8 just where the whole is. Assumes nothing.
use mathlib.Core.Path.{◌≡◌}
use Prim.Native.Nat.{◌-◌}
use lib.ListN.{length, drop}
use Rattle.text.specs.Utf8.{utf8}
use Rattle.text.proofs.utf8.valid.Given as goal

abbrev pub invariant-loop-i : goal.invariant-loop-i
invariant-loop-i l = utf8 (drop l.i l.s) ≡ utf8 l.s

abbrev pub decreases-loop-i : goal.decreases-loop-i
decreases-loop-i l = length l.s - l.i
