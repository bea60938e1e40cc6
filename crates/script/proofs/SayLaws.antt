-- Lines printed into a buffer, one piece behind the other.
-- Assumes nothing.
use mathlib.Core.Path.{◌≡◌, refl, ap, sym, ◌∙◌}
use mathlib.Core.Bool.{Bool, true, false}
use mathlib.Core.List.{List, [], ◌∷◌, ◌++◌, append_assoc}
use Prim.Native.Nat.{ℕ, zero, suc, ◌+◌, ◌/◌, ◌≤◌}
use native.Mathlib.Omega.{arith}
use lib.Dec.{ltb}
use lib.IntN.{nat_abs}
use lib.ListN.{length, set, length-append}
use borrow.Author.Tests.{le-leb}
use Rattle.le.specs.Splice.{wholly}
use Rattle.le.proofs.SpliceLaws.{length-splice, splice-nil, splice-then, set-splice}
use Rattle.text.specs.Decimal.{higher, decimal}
use Rattle.text.proofs.DigitLaws.{length_digits}
use Rattle.weave.specs.declared.Code.{Code}
use Rattle.weave.specs.declared.Code.TheVariants.{Fine, Denied, NotNow, Unsound, NoRoom, Bad, Budget, BadValue}
use Rattle.weave.specs.Codes.{is_fine, number}
use Rattle.script.specs.declared.say.Printer.{Printer}
use Rattle.script.specs.Saying.{Put, Prints, behind, printed, number_text, answer_text}

pub put-none : (s : List ℕ) (at : ℕ) → at ≤ length s → Put s s at [] at
put-none s at h = record { laid = sym (splice-nil s at); ends = omega arith; whole = h }

pub put_then : (s₀ s₁ s₂ : List ℕ) (at k r : ℕ) (xs ys : List ℕ) → Put s₀ s₁ at xs k → Put s₁ s₂ k ys r → Put s₀ s₂ at (xs ++ ys) r
put_then s₀ s₁ s₂ at k r xs ys p q =
    record {
      laid = splice-then s₀ s₁ s₂ at k xs ys p.laid p.ends q.laid;
      ends = rw length-append (omega (arith, p.ends, q.ends));
      whole = omega (arith, q.whole, ap length p.laid ∙ length-splice s₀ at xs);
    }

pub put-long : (s₀ s : List ℕ) (at r : ℕ) (xs : List ℕ) → Put s₀ s at xs r → length s ≡ length s₀
put-long s₀ s at r xs p = ap length p.laid ∙ length-splice s₀ at xs

pub put_as : (s₀ s : List ℕ) (at r : ℕ) (xs ys : List ℕ) → Put s₀ s at xs r → xs ≡ ys → Put s₀ s at ys r
put_as s₀ s at r xs ys p e = rw e at p

pub put_one : (s : List ℕ) (at b : ℕ) → at + 1 ≤ length s → Put s (set s at b) at (b ∷ []) (at + 1)
put_one s at b h = record { laid = set-splice s at b; ends = refl; whole = h }

pub prints-then : (p q r : Printer) (xs ys : List ℕ) → Prints p q xs → Prints q r ys → Prints p r (xs ++ ys)
prints-then p q r xs ys a b =
    record { same = b.same ∙ a.same; long = b.long ∙ a.long; put = put_then p.out.now q.out.now r.out.now p.at q.at r.at xs ys a.put b.put }

pub prints-from : (p p' q : Printer) (xs : List ℕ) → p ≡ p' → Prints p q xs → Prints p' q xs
prints-from p p' q xs e a = rw e at a

pub prints_as : (p q : Printer) (xs ys : List ℕ) → Prints p q xs → xs ≡ ys → Prints p q ys
prints_as p q xs ys a e = rw e at a

-- ---- digits

higher-most : (k n : ℕ) → higher k n ≤ k
unfolding higher
higher-most zero n = omega arith
higher-most (suc k) n = go (ltb n 10) refl (higher-most k (n / 10))
  where
    go : (b : Bool) → ltb n 10 ≡ b → higher k (n / 10) ≤ k → higher (suc k) n ≤ suc k
    go true e h = rw e (omega arith)
    go false e h = rw e (omega arith)

pub digits-most : (n : ℕ) → length (decimal n) ≤ 20
unfolding decimal
digits-most n = rw length_digits (omega (arith, higher-most 19 n))

pub digits-put : (s₀ s : List ℕ) (at n k : ℕ) → at + 20 ≤ length s₀ → k ≡ length (decimal n) → s ≡ wholly s₀ at (decimal n) → Put s₀ s at (decimal n) (at + k)
unfolding wholly
digits-put s₀ s at n k h e w =
    record {
      laid = w ∙ rw (le-leb (at + length (decimal n)) (length s₀) (omega (arith, digits-most n)));
      ends = omega arith;
      whole = omega (arith, digits-most n);
    }

-- ---- answers

answer-fine : (c : Code) (v : ℕ) → is_fine c ≡ true → answer_text c v ≡ decimal v
unfolding answer_text
answer-fine c v e = rw e

answer-refused : (c : Code) (v : ℕ) → is_fine c ≡ false → answer_text c v ≡ 45 ∷ decimal (nat_abs (number c))
unfolding answer_text number_text
answer-refused Fine v e = let z : ◌≡◌ {A = ℕ} 0 1 = cc in absurd (omega arith)
answer-refused Denied v e = refl
answer-refused NotNow v e = refl
answer-refused Unsound v e = refl
answer-refused NoRoom v e = refl
answer-refused Bad v e = refl
answer-refused Budget v e = refl
answer-refused BadValue v e = refl

pub number_put : (p q : Printer) (c : Code) (v : ℕ) (t : Bool) → t ≡ is_fine c → t ≡ true → Prints p q (9 ∷ decimal v) → Prints p q (9 ∷ answer_text c v)
number_put p q c v t e f a = prints_as p q _ _ a (ap (λ (l : List ℕ). 9 ∷ l) (sym (answer-fine c v (sym e ∙ f))))

pub code_put : (p q r : Printer) (c : Code) (v n : ℕ) (t : Bool) → t ≡ is_fine c → t ≡ false → n ≡ nat_abs (number c)
    → Prints p q (9 ∷ 45 ∷ []) → Prints q r (decimal n) → Prints p r (9 ∷ answer_text c v)
code_put p q r c v n t e f d a b =
    prints_as p r _ _ (prints-then p q r _ _ a b)
    (ap (λ (k : ℕ). 9 ∷ 45 ∷ decimal k) d ∙ ap (λ (l : List ℕ). 9 ∷ l) (sym (answer-refused c v (sym e ∙ f))))

-- ---- whole lines

pub printed-one : (word a : List ℕ) → (word ++ (9 ∷ a)) ++ (10 ∷ []) ≡ printed word (a ∷ [])
unfolding printed behind
printed-one word a = append_assoc word (9 ∷ a) (10 ∷ [])

pub printed-three : (word a b d : List ℕ) → (((word ++ (9 ∷ a)) ++ (9 ∷ b)) ++ (9 ∷ d)) ++ (10 ∷ []) ≡ printed word (a ∷ b ∷ d ∷ [])
unfolding printed behind
printed-three word a b d = simp append_assoc

pub line-put : (s₀ s₁ s₂ s₃ : List ℕ) (a b r : ℕ) (word f : List ℕ) → Put s₀ s₁ 0 word a → Put s₁ s₂ a (9 ∷ f) b → Put s₂ s₃ b (10 ∷ []) r
    → Put s₀ s₃ 0 (printed word (f ∷ [])) r
line-put s₀ s₁ s₂ s₃ a b r word f p q e =
    put_as s₀ s₃ 0 r _ _ (put_then s₀ s₂ s₃ 0 b r _ _ (put_then s₀ s₁ s₂ 0 a b _ _ p q) e) (printed-one word f)

-- a line of four fields, of which the first two are printed at once
pub four-put : (s₀ s₁ s₂ s₃ s₄ : List ℕ) (a b d r : ℕ) (word f g : List ℕ) → Put s₀ s₁ 0 word a → Put s₁ s₂ a (9 ∷ f) b → Put s₂ s₃ b (9 ∷ g) d
    → Put s₃ s₄ d (10 ∷ []) r → Put s₀ s₄ 0 (word ++ (9 ∷ (f ++ (9 ∷ (g ++ (10 ∷ [])))))) r
four-put s₀ s₁ s₂ s₃ s₄ a b d r word f g p q u e =
    put_as s₀ s₄ 0 r _ _
    (put_then s₀ s₃ s₄ 0 d r _ _ (put_then s₀ s₂ s₃ 0 b d _ _ (put_then s₀ s₁ s₂ 0 a b _ _ p q) u) e)
    (simp append_assoc)
