-- What it says that an argument record is there.
-- Assumes nothing.
use mathlib.Core.Path.{◌≡◌, sym, ◌∙◌}
use mathlib.Core.Bool.{Bool, true}
use mathlib.Core.List.{List}
use Prim.Native.Nat.{ℕ, ◌+◌, ◌%◌, ◌≤◌}
use lib.Dec.{eqb}
use lib.ListN.{length}
use Rattle.le.proofs.TestLaws.{and_right}
use Rattle.text.proofs.SpanLaws.{inside-end}
use Rattle.weave.specs.Args.{record_fine}

pub record-room : (m : List ℕ) (a n : ℕ) (b : Bool) → b ≡ record_fine m a n → b ≡ true → a + n ≤ length m
unfolding record_fine
record-room m a n b e q = inside-end a n (length m) (and_right (eqb (a % 8) 0) _ (sym e ∙ q))
