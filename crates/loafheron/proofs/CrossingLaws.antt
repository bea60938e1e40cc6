-- What crossing needs: a mark comes back, a flag is its byte, and rooms are slots.
-- Assumes nothing.
use mathlib.Core.Path.{◌≡◌, refl, ap, ap₂, ◌∙◌}
use Prim.Native.Nat.{ℕ, suc, ◌<◌}
use native.Mathlib.Omega.{arith}
use mathlib.Core.Bool.{Bool, true, false}
use mathlib.Core.List.{List, [], ◌∷◌, map}
use borrow.Author.Tests.{ne_eqb}
use lib.IntN.{ℤ, pos, negsuc}
use lib.ListN.{length, get_or}
use mir.Syntax.{w64}
use mir.Val.{to_z, of_z, bool_byte}
use Rattle.weave.specs.declared.Code.{Code}
use Rattle.weave.specs.declared.Mark.{Mark}
use Rattle.weave.specs.declared.Spoiled.TheVariants.{Panicked}
use Rattle.weave.specs.Codes.{number, spoiled_code}
use Rattle.host.proofs.EndingLaws.{number-back}
use Rattle.loafheron.specs.Crossing.{flag, mark_of, mark_said}

-- a number that is some code's crosses as it is
pub crosses : (z : ℤ) (c : Code) → z ≡ number c → to_z w64 (of_z w64 z) ≡ number c
crosses z c e = ap (λ (x : ℤ). to_z w64 (of_z w64 x)) e ∙ number-back c

-- what is neither 0 nor -6 says panic
pub mark-other : (z : ℤ) → (z ≡ pos 0 → ⊥) → (z ≡ negsuc 5 → ⊥) → record { 0 = Panicked } ≡ mark_said z
unfolding mark_said
mark-other (pos n) z m = rw (ne_eqb n 0 (λ e. z (ap pos e)))
mark-other (negsuc n) z m = rw (ne_eqb n 5 (λ e. m (ap negsuc e)))

-- so does a mark's
pub mark-crosses : (z : ℤ) (m : Mark) → z ≡ mark_of m → to_z w64 (of_z w64 z) ≡ mark_of m
unfolding mark_of
mark-crosses z m e = crosses z (spoiled_code m) e

-- a flag is its byte
pub flag-byte : (t : Bool) → bool_byte t ≡ flag t
unfolding flag
flag-byte true = refl
flag-byte false = refl

-- a table whose every place is what f makes of that place
pub mapped : {A : Type 0} {B : Type 0} (f : A → B) (xs : List A) (ys : List B) → length ys ≡ length xs
    → ((i : ℕ) (d : A) (e : B) → i < length xs → get_or ys i e ≡ f (get_or xs i d)) → ys ≡ map f xs
mapped f [] [] h at = refl
mapped f [] (y ∷ ys) h at = absurd (omega (arith, h))
mapped f (x ∷ xs) [] h at = absurd (omega (arith, h))
mapped f (x ∷ xs) (y ∷ ys) h at =
    ap₂ (λ (b : _) (bs : _). b ∷ bs) (at 0 x y (omega arith)) (mapped f xs ys (omega (arith, h)) (λ i d e l. at (suc i) d e (omega (arith, l))))
