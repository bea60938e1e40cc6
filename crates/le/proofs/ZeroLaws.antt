-- `all_zero`, many bytes at once.
-- Assumes nothing.
use mathlib.Core.Path.{◌≡◌, refl, sym, ap, ◌∙◌}
use mathlib.Core.Bool.{Bool, true, false, ◌&&◌}
use mathlib.Core.List.{List, [], ◌∷◌}
use Prim.Native.Nat.{ℕ, zero, suc, ◌+◌, ◌-◌, ◌*◌, ◌/◌, ◌≤◌, ◌<◌}
use native.Mathlib.Nat.{add-zero}
use native.Mathlib.Omega.{arith}
use lib.Dec.{eqb}
use lib.ListN.{length, get_or, take, drop, length-drop}
use lib.Seq.{drop-drop}
use Rattle.std.specs.List.{list_all}
use Rattle.std.specs.Cmp.Lexicographic.{pointwise}
use Rattle.std.specs.Simd.{first_chunks}
use Rattle.le.specs.Le.{Bytes, le_at}
use Rattle.le.specs.Splice.{zeros, part, all_zero}
use Rattle.le.proofs.SpliceLaws.{part-head}
use Rattle.le.proofs.OnceLaws.{asked-at-once, no_bytes, same_word, same-by-bytes}
use Rattle.le.proofs.TestLaws.{and_assoc}

-- no bytes are the number 0
nothing_read : (w a : ℕ) → le_at w [] a ≡ 0
unfolding le_at
nothing_read zero a = refl
nothing_read (suc w) a = rw (nothing_read w (suc a))

-- the bytes from i up to `to` are all 0 where the first w are one 0, and the others are all 0
pub zero-at-once : (w : ℕ) (s : List ℕ) (i to : ℕ) → Bytes s → i + w ≤ to → to ≤ length s
    → all_zero (part i (to - i) s) ≡ eqb (le_at w s i) 0 && all_zero (part (i + w) (to - (i + w)) s)
unfolding all_zero
zero-at-once w s i to h l m =
    rw (add-zero i, nothing_read w 0) at (asked-at-once eqb same_word same-by-bytes s [] h no_bytes w i 0 (λ j. all_zero (part (i + j) (to - (i + j)) s)) step)
  where
    step : (j : ℕ) → j < w → all_zero (part (i + j) (to - (i + j)) s) ≡ eqb (get_or s (i + j) 0) 0 && all_zero (part (i + suc j) (to - (i + suc j)) s)
    step j q = rw (part-head s (i + j) (to - (i + j)) (i + suc j) (to - (i + suc j)) (omega arith) (omega arith) (omega arith))

-- ---- as the code tests them: so many chunks of w bytes, each at once, and the others byte by byte

bytes-zero : (s : List ℕ) → list_all (λ b. eqb b 0) s ≡ all_zero s
unfolding all_zero
bytes-zero [] = refl
bytes-zero (b ∷ s) = ap (λ (r : Bool). eqb b 0 && r) (bytes-zero s)

-- the first w bytes at once
chunk-zero : (w : ℕ) (s : List ℕ) → w ≤ length s → pointwise eqb (take w s) (zeros w) && all_zero (drop w s) ≡ all_zero s
unfolding all_zero
chunk-zero zero s h = refl
chunk-zero (suc w) [] h = absurd (omega arith)
chunk-zero (suc w) (b ∷ s) h =
    and_assoc (eqb b 0) (pointwise eqb (take w s) (zeros w)) (all_zero (drop w s)) ∙ ap (λ (r : Bool). eqb b 0 && r) (chunk-zero w s (omega arith))

abbrev pub chunks_zero : ℕ → ℕ → List ℕ → Bool
chunks_zero w n s = list_all (λ e. pointwise eqb e (zeros w)) (first_chunks w n s)

abbrev pub rest_zero : ℕ → List ℕ → Bool
rest_zero k s = list_all (λ b. eqb b 0) (drop k s)

chunks-zero : (w n : ℕ) (s : List ℕ) → n * w ≤ length s → chunks_zero w n s && rest_zero (n * w) s ≡ all_zero s
chunks-zero w zero s h = let z : 0 * w ≡ 0 = omega arith in rw z (bytes-zero s)
chunks-zero w (suc n) s h =
    let k : w + n * w ≡ suc n * w = omega arith in
    let there : drop (n * w) (drop w s) ≡ drop (suc n * w) s = drop-drop (n * w) w s ∙ ap (λ (j : ℕ). drop j s) k in
    and_assoc (pointwise eqb (take w s) (zeros w)) (chunks_zero w n (drop w s)) (rest_zero (suc n * w) s)
    ∙ ap (λ (r : Bool). pointwise eqb (take w s) (zeros w) && r)
    (ap (λ (l : List ℕ). chunks_zero w n (drop w s) && list_all (λ b. eqb b 0) l) (sym there) ∙ chunks-zero w n (drop w s) (omega (arith, length-drop w s)))
    ∙ chunk-zero w s (omega arith)

module _ (s : List ℕ) where
  pub eights-zero : chunks_zero 8 (length s / 8) s ≡ true → rest_zero (length s / 8 * 8) s ≡ all_zero s
  eights-zero q = rw q at (chunks-zero 8 (length s / 8) s (omega arith))

  pub eights-not : chunks_zero 8 (length s / 8) s ≡ false → false ≡ all_zero s
  eights-not q = rw q at (chunks-zero 8 (length s / 8) s (omega arith))
