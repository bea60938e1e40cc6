-- What it says that a span is inside a memory.
-- Assumes nothing.
use mathlib.Core.Path.{◌≡◌}
use mathlib.Core.Bool.{true}
use Prim.Native.Nat.{ℕ, ◌+◌, ◌-◌, ◌≤◌}
use native.Mathlib.Omega.{arith}
use borrow.Author.Tests.{leb-true}
use lib.Dec.{leb}
use Rattle.le.proofs.TestLaws.{and_left, and_right}
use Rattle.text.specs.Span.{inside}

-- a span inside memory ends inside it
pub inside-end : (ptr len m : ℕ) → inside ptr len m ≡ true → ptr + len ≤ m
unfolding inside
inside-end ptr len m e =
    let p : leb ptr m ≡ true = and_left (leb ptr m) _ e in
    let q : leb len (m - ptr) ≡ true = and_left (leb len (m - ptr)) _ (and_right (leb ptr m) _ e) in
    omega (arith, leb-true ptr m p, leb-true len (m - ptr) q)
