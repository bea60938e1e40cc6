-- A return's code: a number with its sign, in range.
-- Assumes nothing.
use mathlib.Core.Path.{◌≡◌, refl, sym, ◌∙◌, subst}
use mathlib.Core.Bool.{Bool, true, false}
use mathlib.Core.List.{List, [], ◌∷◌}
use Prim.Native.Nat.{ℕ, ◌+◌, ◌≤◌}
use native.Mathlib.Omega.{arith}
use lib.Dec.{leb, eqb}
use lib.IntN.{ℤ, pos}
use lib.ListN.{length, take, drop}
use lib.Pointwise.{pointwise}
use denote.Bor.{Bor}
use Rattle.std.specs.Prelude.{Option, None, Some}
use Rattle.std.specs.Option.{MatchOption, unwrap_or}
use Rattle.std.specs.List.{starts_with}
use Rattle.std.proofs.lemmas.Bool.Decides.{nat_tests}
use mir.Syntax.{w64}
use mir.Val.{SFits, to_z, of_z}
use mir.Facts.{to_z-of_z}
use borrow.Author.Tests.{leb-true}
use Rattle.std.specs.Prelude.{is_some, unwrap_or}
use Rattle.le.proofs.TestLaws.{and_left, and_right}
use Rattle.text.specs.Decimal.{number_of}
use Rattle.script.specs.Forms.{minus, unsigned, in_range, good_code, signed, code_of}

pub minus-first : (f : List ℕ) → starts_with eqb f (45 ∷ []) ≡ minus f
unfolding minus
minus-first [] = refl
minus-first (b ∷ bs) = grind (arith, nat_tests)

stripped : (f : List ℕ) → pointwise eqb (take 1 f) (45 ∷ []) ≡ minus f
unfolding minus
stripped [] = refl
stripped (b ∷ bs) = grind (arith, nat_tests)

pub unsigned-is : (f u : Bor (List ℕ)) (r : Option (Bor (List ℕ)))
    → MatchOption r (pointwise eqb (take 1 f.now) (45 ∷ []) ≡ false) (λ x. (pointwise eqb (take 1 f.now) (45 ∷ []) ≡ true) × (x.now ≡ drop 1 f.now) × (length x.now + 1 ≡ length f.now))
    → u ≡ unwrap_or r f → u.now ≡ unsigned f.now
unfolding unsigned
unsigned-is f u None h e = rw (← stripped f.now, h, e)
unsigned-is f u (Some x) h e = rw (← stripped f.now, h.0, e) h.1

-- ---- ranges

pub least-below : (t : Bool) (n : ℕ) → in_range t n ≡ true → t ≡ true → 1 ≤ n
least-below true n e h = leb-true 1 n (and_left (leb 1 n) (leb n 9223372036854775808) e)
least-below false n e h = let z : ◌≡◌ {A = ℕ} 0 1 = cc in absurd (omega arith)

pub most-below : (t : Bool) (n : ℕ) → in_range t n ≡ true → t ≡ true → n ≤ 9223372036854775808
most-below true n e h = leb-true n 9223372036854775808 (and_right (leb 1 n) (leb n 9223372036854775808) e)
most-below false n e h = let z : ◌≡◌ {A = ℕ} 0 1 = cc in absurd (omega arith)

pub most-above : (t : Bool) (n : ℕ) → in_range t n ≡ true → t ≡ false → n ≤ 9223372036854775807
most-above true n e h = let z : ◌≡◌ {A = ℕ} 0 1 = cc in absurd (omega arith)
most-above false n e h = leb-true n 9223372036854775807 e

-- ---- signs

pub signed-fits : (t : Bool) (n : ℕ) → in_range t n ≡ true → SFits w64 (signed t n)
signed-fits true n e = record { sfits = omega (arith, most-below true n e refl, least-below true n e refl) }
signed-fits false n e = record { sfits = omega (arith, most-above false n e refl) }

-- ---- a code

pub good-range : (f : List ℕ) → good_code f ≡ true → in_range (minus f) (unwrap_or (number_of (unsigned f)) 0) ≡ true
unfolding good_code
good-range f e = and_right (is_some (number_of (unsigned f))) (in_range (minus f) (unwrap_or (number_of (unsigned f)) 0)) e

pub code_is : (f : List ℕ) → good_code f ≡ true → code_of f ≡ signed (minus f) (unwrap_or (number_of (unsigned f)) 0)
unfolding code_of
code_is f e = rw e

pub code-none : (f : List ℕ) → good_code f ≡ false → code_of f ≡ pos 0
unfolding code_of
code-none f e = rw e

code_fits : (f : List ℕ) → SFits w64 (code_of f)
code_fits f = go (good_code f) refl
  where
    go : (b : Bool) → good_code f ≡ b → SFits w64 (code_of f)
    go true e = subst (SFits w64) (sym (code_is f e)) (signed-fits (minus f) (unwrap_or (number_of (unsigned f)) 0) (good-range f e))
    go false e = subst (SFits w64) (sym (code-none f e)) (record { sfits = omega arith })

-- as it is handed on
pub coded : (z : ℤ) (f : List ℕ) → z ≡ code_of f → to_z w64 (of_z w64 z) ≡ code_of f
coded z f e = to_z-of_z {w = w64} (subst (SFits w64) (sym e) (code_fits f)) ∙ e
