-- What a module is handed is the value that was stored: decoded where it lies, and written again, it gives the same payload.
-- Assumes nothing.
use mathlib.Core.Path.{◌≡◌, refl, sym, ap, ap₂, ◌∙◌}
use mathlib.Core.Bool.{true, false}
use mathlib.Core.List.{List}
use Prim.Native.Nat.{ℕ, ◌+◌, ◌≤◌, ◌<◌, ◌^◌}
use native.Mathlib.Omega.{arith}
use borrow.Author.Tests.{ne_eqb}
use lib.ListN.{length, take, drop}
use lib.Seq.{drop-drop}
use Rattle.le.specs.Le.{Bytes, le_at, le_bytes}
use Rattle.le.specs.Splice.{splice, part}
use Rattle.le.proofs.SpliceLaws.{length-splice, part-within}
use Rattle.le.proofs.LeLaws.{length-le_bytes, le_at-splice-before, le_at-splice-after, le_at-put}
use Rattle.text.specs.Span.{inside}
use Rattle.value.specs.declared.cell.Cell.{Cell}
use Rattle.value.specs.declared.Value.{Value}
use Rattle.std.specs.Prelude.{Ok}
use Rattle.value.specs.Cells.{cell_at}
use Rattle.value.specs.Scalars.{kind_of}
use Rattle.value.specs.Values.{decoded, content_of, content_len, fault_of, value_fault}
use Rattle.value.specs.Forms.{cell_of, form_of, payload, good_stored}
use Rattle.value.specs.Shown.{Handed, pointed}
use Rattle.value.proofs.CellLaws.{of, read_fits, cell-there}
use Rattle.value.proofs.DecodeLaws.{Read, plain, text, array, wrong, reads}
use Rattle.value.proofs.ScalarLaws.{kind-lt}
use Rattle.value.proofs.FaultLaws.{inside_is}
use Rattle.value.proofs.FormLaws.{form-long}
use Rattle.value.proofs.MovedLaws.{moved}
use Rattle.value.proofs.GoodLaws.{good-is, good-kept, content-there}
use Rattle.value.proofs.ShownLaws.{shown_value, length-shown_at, shown-after, shown-plain, shown-moved}

-- ---- the 32 bytes where they stand

-- with another pointer
cell-moved : (b : List ℕ) (q : ℕ) → 32 ≤ length b → q < 256 ^ 8
    → cell_at (splice b 8 (le_bytes 8 q)) 0 ≡ of (cell_at b 0).kind (cell_at b 0).flags q (cell_at b 0).second
unfolding cell_at
cell-moved b q l h =
    let z = le_bytes 8 q in
    ap₂ (λ (i j : ℕ). of i j (le_at 8 (splice b 8 z) 8) (le_at 8 (splice b 8 z) 16)) (le_at-splice-before 4 b 8 z 0 (omega arith)) (le_at-splice-before 4 b 8 z 4 (omega arith))
    ∙ ap₂ (of (le_at 4 b 0) (le_at 4 b 4)) (le_at-put 8 b 8 q h (omega arith)) (le_at-splice-after 8 b 8 z 16 (omega (arith, length-le_bytes 8 q)))

not-pointed : (k : ℕ) → k < 5 → pointed k ≡ false
not-pointed k h = rw (ne_eqb k 5 (λ e. omega arith), ne_eqb k 9 (λ e. omega arith))

kind-of : (b : List ℕ) (c : Cell) → cell_at b 0 ≡ c → le_at 4 b 0 ≡ c.kind
unfolding cell_at
kind-of b c e = ap (λ (x : Cell). x.kind) e

-- shown at a: the numbers as stored, the pointer to a + 32
module _ (b : List ℕ) (a : ℕ) (l : 32 ≤ length b) (w : a + 32 < 2 ^ 64) where
  shown-pointer : (k : ℕ) → (cell_at b 0).kind ≡ k → pointed k ≡ true → cell_at (shown_value a b) 0 ≡ of k (cell_at b 0).flags (a + 32) (cell_at b 0).second
  shown-pointer k e p =
      ap (λ (x : List ℕ). cell_at x 0) (shown-moved a 0 b (ap pointed (kind-of b _ refl ∙ e) ∙ p)) ∙ cell-moved b (a + 32) l w
      ∙ ap (λ (i : ℕ). of i (cell_at b 0).flags (a + 32) (cell_at b 0).second) e

  shown-cell : (v : Value) → Read (cell_at b 0) v → cell_at b 0 ≡ cell_of (cell_at b 0).flags 32 v → cell_at (shown_value a b) 0 ≡ cell_of (cell_at b 0).flags (a + 32) v
  shown-cell v (plain s q) e = ap (λ (x : List ℕ). cell_at x 0) (shown-plain a 0 b (ap pointed (kind-of b _ e) ∙ not-pointed (kind_of s) (kind-lt s))) ∙ e
  shown-cell v text e = shown-pointer 5 (ap (λ (c : Cell). c.kind) e) refl
  shown-cell v array e = shown-pointer 9 (ap (λ (c : Cell). c.kind) e) refl
  shown-cell v wrong e = ap (λ (x : List ℕ). cell_at x 0) (shown-plain a 0 b (ap pointed (kind-of b _ e))) ∙ e

-- ---- handed

seen : (m b : List ℕ) (a : ℕ) → inside a 32 (length m) ≡ true → fault_of m (decoded (cell_at m a)) ≡ Ok tt → form_of m (cell_at m a) ≡ b → Handed m b a
unfolding value_fault payload
seen m b a i f s = record { fine = rw i f; same = rw (i, f) s }

-- what stands behind the pointer is shown as it is
content-shown : (a n : ℕ) (b : List ℕ) → part 32 n (shown_value a b) ≡ part 32 n b
unfolding part
content-shown a n b = ap (take n) (sym (drop-drop 16 16 (shown_value a b)) ∙ ap (drop 16) (shown-after a 0 b) ∙ drop-drop 16 16 b)

-- a good payload b, shown at a and put there into memory m: the value at a is the one that was stored
pub handed : (m b : List ℕ) (a : ℕ) → Bytes b → good_stored b ≡ true → 0 < a → a + length b ≤ length m → a + 32 < 2 ^ 64
    → Handed (splice m a (shown_value a b)) b a
unfolding form_of
handed m b a h g z l w =
    let B = shown_value a b in
    let M = splice m a B in
    let c = cell_at b 0 in
    let v = decoded c in
    let n = content_len v in
    let k = good-is b g in
    let r = reads c (read_fits b 0 h) in
    let e : c ≡ cell_of c.flags 32 v = good-kept b h k in
    let size : length b ≡ 32 + n = sym (ap length k.same) ∙ form-long b c k.fine in
    let there : length M ≡ length m = length-splice m a B in
    let long : length B ≡ length b = length-shown_at a 0 b in
    let x : part (a + 32) n M ≡ content_of b v = part-within m a B 32 n (omega arith) (omega arith) ∙ content-shown a n b ∙ sym (content-there b c v r e) in
    let d : cell_at M a ≡ cell_of c.flags (a + 32) v = cell-there m a B (omega arith) (omega arith) ∙ shown-cell b a k.long w v r e in
    let s = moved b c M a (a + 32) v r k.fine d (inside_is (a + 32) n (length M) (omega arith) (omega arith)) x in
    seen M b a (inside_is a 32 (length M) z (omega arith)) s.fine (s.same ∙ k.same)
