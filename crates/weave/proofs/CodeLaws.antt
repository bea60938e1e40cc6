-- The laws of codes and of findings: the order of checks, and return codes.
-- Assumes nothing.
use mathlib.Core.Path.{◌≡◌, refl, sym, ap, ◌∙◌}
use mathlib.Core.Bool.{Bool, true, false, cond, true≢false}
use mathlib.Core.List.{List, [], ◌∷◌}
use Prim.Native.Nat.{ℕ, zero, suc}
use native.Mathlib.Omega.{arith}
use borrow.Author.Tests.{lt-leb}
use lib.IntN.{ℤ, pos, negsuc}
use lib.ListN.{get_or}
use mir.Syntax.{w64}
use mir.Val.{SFits, of_z, to_z}
use mir.Facts.{to_z-of_z}
use Rattle.weave.specs.declared.Code.{Code}
use Rattle.weave.specs.declared.Code.TheVariants.{Fine, Bad}
use Rattle.weave.specs.declared.Finding.{Finding}
use Rattle.weave.specs.Codes.{is_fine, first_by, first_of_by, first, first_of, need, reason_of}
use Rattle.weave.specs.Findings.{plain, is_clear, first_found, found}

-- where no check of a list finds fault, each of them finds none; of whatever checks find
module _ {A : Type 0} (fine : A → Bool) where
  left_by : (a b : A) → fine (first_by fine a b) ≡ true → fine a ≡ true
  unfolding first_by
  left_by a b e = go (fine a) refl e
    where
      go : (t : Bool) → fine a ≡ t → fine (cond t b a) ≡ true → fine a ≡ true
      go true q e = q
      go false q e = e

  right_by : (a b : A) → fine (first_by fine a b) ≡ true → fine b ≡ true
  unfolding first_by
  right_by a b e = go (fine a) refl e
    where
      go : (t : Bool) → fine a ≡ t → fine (cond t b a) ≡ true → fine b ≡ true
      go true q e = e
      go false q e = absurd (true≢false (sym e ∙ q))

  fine-by : (none : A) → fine none ≡ true → (k : ℕ) (cs : List A) → fine (first_of_by fine none cs) ≡ true → fine (get_or cs k none) ≡ true
  fine-by none f k [] e = f
  fine-by none f zero (c ∷ []) e = e
  fine-by none f (suc k) (c ∷ []) e = f
  fine-by none f zero (c ∷ d ∷ ds) e = left_by c (first_of_by fine none (d ∷ ds)) e
  fine-by none f (suc k) (c ∷ d ∷ ds) e = fine-by none f k (d ∷ ds) (right_by c (first_of_by fine none (d ∷ ds)) e)

-- .. codes
pub first-left : (a b : Code) → is_fine (first a b) ≡ true → is_fine a ≡ true
first-left = left_by is_fine

pub first-right : (a b : Code) → is_fine (first a b) ≡ true → is_fine b ≡ true
first-right = right_by is_fine

pub fine-at : (k : ℕ) (cs : List Code) → is_fine (first_of cs) ≡ true → is_fine (get_or cs k Fine) ≡ true
fine-at = fine-by is_fine Fine refl

-- .. and findings
pub found_left : (f g : Finding) → is_clear (first_found f g) ≡ true → is_clear f ≡ true
found_left = left_by is_clear

pub found_right : (f g : Finding) → is_clear (first_found f g) ≡ true → is_clear g ≡ true
found_right = right_by is_clear

pub clear_at : (k : ℕ) (fs : List Finding) → is_clear (found fs) ≡ true → is_clear (get_or fs k (plain Fine)) ≡ true
clear_at = fine-by is_clear (plain Fine) refl

-- a check that finds nothing wrong has its test
pub need-test : (t : Bool) (c : Code) → is_fine c ≡ false → is_fine (need t c) ≡ true → t ≡ true
unfolding need
need-test true c f e = refl
need-test false c f e = sym f ∙ e

-- ---- return codes: any number that is none of the nine means -5
pub reason-other :
    (z : ℤ) → (z ≡ pos 0 → ⊥) → (z ≡ pos 1 → ⊥) → (z ≡ negsuc 0 → ⊥) → (z ≡ negsuc 1 → ⊥) → (z ≡ negsuc 2 → ⊥) → (z ≡ negsuc 3 → ⊥) → (z ≡ negsuc 4 → ⊥) → (z ≡ negsuc 5 → ⊥) → (z ≡ negsuc 6 → ⊥) → Bad ≡ reason_of z
unfolding reason_of
reason-other (pos zero) h0 h1 n0 n1 n2 n3 n4 n5 n6 = absurd (h0 refl)
reason-other (pos (suc zero)) h0 h1 n0 n1 n2 n3 n4 n5 n6 = absurd (h1 refl)
reason-other (pos (suc (suc n))) h0 h1 n0 n1 n2 n3 n4 n5 n6 = rw (lt-leb (suc (suc n)) 1 (omega arith))
reason-other (negsuc zero) h0 h1 n0 n1 n2 n3 n4 n5 n6 = absurd (n0 refl)
reason-other (negsuc (suc zero)) h0 h1 n0 n1 n2 n3 n4 n5 n6 = absurd (n1 refl)
reason-other (negsuc (suc (suc zero))) h0 h1 n0 n1 n2 n3 n4 n5 n6 = absurd (n2 refl)
reason-other (negsuc (suc (suc (suc zero)))) h0 h1 n0 n1 n2 n3 n4 n5 n6 = absurd (n3 refl)
reason-other (negsuc (suc (suc (suc (suc zero))))) h0 h1 n0 n1 n2 n3 n4 n5 n6 = absurd (n4 refl)
reason-other (negsuc (suc (suc (suc (suc (suc zero)))))) h0 h1 n0 n1 n2 n3 n4 n5 n6 = absurd (n5 refl)
reason-other (negsuc (suc (suc (suc (suc (suc (suc zero))))))) h0 h1 n0 n1 n2 n3 n4 n5 n6 = absurd (n6 refl)
reason-other (negsuc (suc (suc (suc (suc (suc (suc (suc n)))))))) h0 h1 n0 n1 n2 n3 n4 n5 n6 = refl

-- a signed number from its bits
pub bits_of : (z : ℤ) → SFits w64 z → (b : ℕ) → of_z w64 z ≡ b → z ≡ to_z w64 b
bits_of z f b e = sym (to_z-of_z f) ∙ ap (to_z w64) e
