-- The laws of one line: those that the proofs of its reading cite, and what a line that is a grant is like.
-- Assumes nothing.
use mathlib.Core.Path.{◌≡◌, refl, sym, ap, ◌∙◌}
use mathlib.Core.Bool.{Bool, true, false, ◌&&◌, ◌||◌, cond, true≢false, and-false}
use mathlib.Core.List.{List, [], ◌∷◌, ◌++◌, Memᴰ}
use Prim.Native.Nat.{ℕ, zero, suc, ◌+◌, ◌-◌, ◌*◌, ◌≤◌, ◌<◌}
use native.Mathlib.Nat.{zero-add}
use native.Mathlib.Omega.{arith}
use borrow.Author.Tests.{leb-true, leb-false, eq-eqb, eqb-true, eqb-false, ne_eqb, lt-ltb, not-true}
use lib.Dec.{leb, ltb, eqb}
use lib.ListN.{length, get_or, take, drop, drop_of_length-le}
use Rattle.le.proofs.TestLaws.{and_left, and_right, and_both, and-no-right}
use Rattle.std.specs.Prelude.{Option, Some, None}
use Rattle.text.specs.declared.topic.Rule.TheVariants.{Called}
use Rattle.text.specs.Topic.{good_text, good_topic}
use Rattle.text.specs.Compare.{prefix_of, same_bytes}
use Rattle.text.specs.Decimal.{digit, digits, value_from, no_leading_zero, number_from, number_of}
use Rattle.text.specs.Lines.{before, line_at, fields, field, tabbed}
use Rattle.text.proofs.CompareLaws.{same_true}
use Rattle.text.proofs.DecimalLaws.{value-above}
use Rattle.text.proofs.LinesLaws.{before-short, line-none, line-take, field-here, fields-tabbed}
use Rattle.text.proofs.TopicLaws.{never-good}
use Rattle.manifest.specs.Words.{modules_word, charge_word, grant_word, in_word, out_word}
use Rattle.manifest.specs.Line.{at_most, one_to, number_in, modules_in, charge_in, grant_form, holder_in}

-- ---- a word and a number, by the tests that `number_in` makes: b says whether the line's first field, f, is the word, and `rest` stands behind the first tab

-- bytes with a tab among them are no number
tab-no-digit : (f rest : List ℕ) → digits (f ++ (9 ∷ rest)) ≡ false
unfolding digits
tab-no-digit [] rest = refl
tab-no-digit (x ∷ f) rest = and-no-right (digit x) _ (tab-no-digit f rest)

tab-no-number : (most : ℕ) (f rest : List ℕ) → one_to most (f ++ (9 ∷ rest)) ≡ 0
unfolding one_to number_of number_from
tab-no-number most f rest = rw (tab-no-digit f rest) (go (no_leading_zero (f ++ (9 ∷ rest))))
  where
    go : (z : Bool) → at_most most (cond z None None) ≡ 0
    go true = refl
    go false = refl

-- all that stands behind the first tab is a number just where it is the second field, that one is a number, and there are no more
number-alone : (most : ℕ) (ps : List (List ℕ)) → one_to most (tabbed (drop 1 ps)) ≡ cond (eqb (length ps) 2) (one_to most (get_or ps 1 [])) 0
unfolding one_to number_of no_leading_zero tabbed
number-alone most [] = refl
number-alone most (a ∷ []) = refl
number-alone most (a ∷ b ∷ []) = refl
number-alone most (a ∷ b ∷ c ∷ ps) =
    rw (ne_eqb (length (a ∷ b ∷ c ∷ ps)) 2 (λ e. omega arith)) (tab-no-number most b (tabbed (c ∷ ps)))

module _ (l f word : List ℕ) (ef : f ≡ field 0 l) (b : Bool) (eb : b ≡ same_bytes f word) (most : ℕ) where
  pub number_is : b ≡ true → (rest : List ℕ) → rest ≡ tabbed (drop 1 (fields l)) → (m : ℕ) → m ≡ one_to most rest → m ≡ number_in word most l
  unfolding number_in field
  number_is q rest er m em = em ∙ rw er (number-alone most (fields l)) ∙ asked (eqb (length (fields l)) 2) _ (rw (← ef, ← eb) q)
    where
      asked : (n t : Bool) → t ≡ true → cond n (one_to most (get_or (fields l) 1 [])) 0 ≡ cond (n && t) (one_to most (get_or (fields l) 1 [])) 0
      asked true t e = rw e
      asked false t e = refl

  pub number-none : b ≡ false → 0 ≡ number_in word most l
  unfolding number_in
  number-none q = rw (← ef, ← eb, q, and-false (eqb (length (fields l)) 2))

-- ---- the line `charge`, by the test that `charge_at` makes before it looks for the line's end

prefix-take : (k : ℕ) (s : List ℕ) → prefix_of (take k s) s ≡ true
unfolding prefix_of
prefix-take zero s = refl
prefix-take (suc k) [] = refl
prefix-take (suc k) (b ∷ s) = rw (eq-eqb b b refl) (prefix-take k s)

prefix-longer : (p s : List ℕ) (n : ℕ) → prefix_of p (take n s) ≡ true → prefix_of p s ≡ true
unfolding prefix_of
prefix-longer [] s n e = refl
prefix-longer (a ∷ p) s zero e = absurd (true≢false (sym e))
prefix-longer (a ∷ p) [] (suc n) e = e
prefix-longer (a ∷ p) (b ∷ s) (suc n) e =
    and_both (eqb a b) _ (and_left (eqb a b) _ e) (prefix-longer p s n (and_right (eqb a b) _ e))

-- a line begins with its first field, and the text at its place with it
line-begins : (text : List ℕ) (at : ℕ) → prefix_of (field 0 (line_at at text)) (drop at text) ≡ true
line-begins text at = go (leb (length text) at) refl
  where
    first : (l : List ℕ) → prefix_of (field 0 l) l ≡ true
    first l =
        rw (field-here l 0 (length (before 9 l)) (omega arith) (sym (zero-add (length (before 9 l)))) 0 (before-short 9 l) refl)
        (prefix-take (length (before 9 l) - 0) l)

    go : (b : Bool) → leb (length text) at ≡ b → prefix_of (field 0 (line_at at text)) (drop at text) ≡ true
    go true q =
        let h = leb-true (length text) at q in
        rw (← line-none text at h, drop_of_length-le text h) (first [])
    go false q =
        prefix-longer (field 0 (line_at at text)) (drop at text) (length (line_at at text))
        (ap (prefix_of (field 0 (line_at at text))) (sym (line-take text at (leb-false (length text) at q))) ∙ first (line_at at text))

-- so one that does not begin with the word is no such line
pub charge-none : (text : List ℕ) (at : ℕ) (t : List ℕ) → t ≡ drop at text → (b : Bool) → b ≡ prefix_of charge_word t → b ≡ false → 0 ≡ charge_in (line_at at text)
unfolding charge_in number_in
charge-none text at t et b eb q = go (same_bytes (field 0 (line_at at text)) charge_word) refl
  where
    go : (w : Bool) → same_bytes (field 0 (line_at at text)) charge_word ≡ w
        → 0 ≡ cond (eqb (length (fields (line_at at text))) 2 && w) (one_to 2 (field 1 (line_at at text))) 0
    go false e = rw (and-false (eqb (length (fields (line_at at text))) 2))
    go true e =
        let begins : prefix_of charge_word (drop at text) ≡ true = rw (same_true (field 0 (line_at at text)) charge_word e) at (line-begins text at) in
        absurd (true≢false (sym begins ∙ ap (prefix_of charge_word) (sym et) ∙ sym eb ∙ q))

-- ---- a grant, by the tests that `grant_form`, `holder_in` and `Grant::at` make

tab-among : (f rest : List ℕ) → Memᴰ 9 (f ++ (9 ∷ rest))
tab-among [] rest = Memᴰ.head refl
tab-among (x ∷ f) rest = Memᴰ.tail (tab-among f rest)

-- all that stands behind the third tab is a good topic just where it is the fourth field, that one is a good topic, and there are no more
topic-alone : (ps : List (List ℕ)) → good_topic (tabbed (drop 3 ps)) ≡ eqb (length ps) 4 && good_topic (get_or ps 3 [])
unfolding good_text tabbed
topic-alone [] = refl
topic-alone (a ∷ []) = refl
topic-alone (a ∷ b ∷ []) = refl
topic-alone (a ∷ b ∷ c ∷ []) = refl
topic-alone (a ∷ b ∷ c ∷ f ∷ []) = refl
topic-alone (a ∷ b ∷ c ∷ f ∷ g ∷ ps) =
    rw (ne_eqb (length (a ∷ b ∷ c ∷ f ∷ g ∷ ps)) 4 (λ e. omega arith))
    (never-good Called 9 refl 1 2048 (f ++ (9 ∷ tabbed (g ∷ ps))) (tab-among f (tabbed (g ∷ ps))))

asked-first : (n b d g : Bool) → b && (d && (n && g)) ≡ n && (b && (d && g))
asked-first true b d g = refl
asked-first false b d g = and-no-right b _ (and-no-right d false refl)

pub form-is : (l f₀ f₂ rest : List ℕ) → f₀ ≡ field 0 l → f₂ ≡ field 2 l → rest ≡ tabbed (drop 3 (fields l))
    → (b i o g : Bool) → b ≡ same_bytes f₀ grant_word → i ≡ same_bytes f₂ in_word → o ≡ same_bytes f₂ out_word → g ≡ good_topic rest
    → (b && ((i || o) && g)) ≡ grant_form l
unfolding grant_form field
form-is l f₀ f₂ rest e₀ e₂ e₃ b i o g eb ei eo eg =
    rw (← e₀, ← e₂, ← eb, ← ei, ← eo, eg, e₃, topic-alone (fields l)) (asked-first (eqb (length (fields l)) 4) b (i || o) (good_topic (get_or (fields l) 3 [])))

module _ (l : List ℕ) (modules : ℕ) (b : Bool) (eb : b ≡ grant_form l) where
  pub holder-is : b ≡ true → (s : List ℕ) → s ≡ field 1 l → (k : ℕ) → k ≡ one_to modules s → k ≡ holder_in modules l
  unfolding holder_in
  holder-is q s es k ek = rw (← eb, q, ← es) ek

  pub holder-none : b ≡ false → 0 ≡ holder_in modules l
  unfolding holder_in
  holder-none q = rw (← eb, q)

-- ---- no number is above its bound

one-most : (most : ℕ) (s : List ℕ) → one_to most s ≤ most
unfolding one_to
one-most most s = go (number_of s)
  where
    pick : (n : ℕ) (b : Bool) → leb n most ≡ b → cond b n 0 ≤ most
    pick n true e = leb-true n most e
    pick n false e = omega arith

    go : (n : Option ℕ) → at_most most n ≤ most
    go None = omega arith
    go (Some n) = pick n (leb n most) refl

-- nor is it where only a line of the right form has one
one-where : (b : Bool) (most : ℕ) (s : List ℕ) → cond b (one_to most s) 0 ≤ most
one-where true most s = one-most most s
one-where false most s = omega arith

pub number-most : (word : List ℕ) (most : ℕ) (l : List ℕ) → number_in word most l ≤ most
unfolding number_in
number-most word most l = one-where (eqb (length (fields l)) 2 && same_bytes (field 0 l) word) most (field 1 l)

pub modules-most : (l : List ℕ) → modules_in l ≤ 16
unfolding modules_in
modules-most l = number-most modules_word 16 l

pub charge-most : (l : List ℕ) → charge_in l ≤ 2
unfolding charge_in
charge-most l = number-most charge_word 2 l

pub holder-most : (modules : ℕ) (l : List ℕ) → holder_in modules l ≤ modules
unfolding holder_in
holder-most modules l = one-where (grant_form l) modules (field 1 l)

-- ---- a number from 1 to 9 has one spelling, and so has the line that names one

-- what a number that is not 0 was read from
record Spelt (s : List ℕ) (k : ℕ) : Type 0 where
  no_zero : no_leading_zero s ≡ true
  all_digits : digits s ≡ true
  value : value_from 0 s ≡ k

one-spelt : (most : ℕ) (s : List ℕ) (k : ℕ) → one_to most s ≡ k → 0 < k → Spelt s k
unfolding one_to number_of number_from
one-spelt most s k e h = go (no_leading_zero s) (digits s) (leb (value_from 0 s) 0xFFFF_FFFF_FFFF_FFFF) refl refl e
  where
    none : 0 ≡ k → Spelt s k
    none q = absurd (omega (arith, q))

    within : (b : Bool) → no_leading_zero s ≡ true → digits s ≡ true → cond b (value_from 0 s) 0 ≡ k → Spelt s k
    within true z d q = record { no_zero = z; all_digits = d; value = q }
    within false z d q = none q

    go : (z d f : Bool) → no_leading_zero s ≡ z → digits s ≡ d → at_most most (cond z (cond (d && f) (Some (value_from 0 s)) None) None) ≡ k → Spelt s k
    go true true true ez ed q = within (leb (value_from 0 s) most) ez ed q
    go true true false ez ed q = none q
    go true false f ez ed q = none q
    go false d f ez ed q = none q

-- more than one digit, and no 0 in front, is 10 or above
digit-spelt : (s : List ℕ) (k : ℕ) → Spelt s k → k < 10 → s ≡ (48 + k) ∷ []
unfolding no_leading_zero digits value_from
digit-spelt [] k w h = absurd (true≢false (sym w.no_zero))
digit-spelt (b ∷ []) k w h =
    let low = leb-true 48 b (and_left (leb 48 b) _ (and_left (digit b) _ w.all_digits)) in
    let e : b ≡ 48 + k = omega (arith, low, w.value) in
    ap (λ (x : ℕ). x ∷ []) e
digit-spelt (b ∷ c ∷ bs) k w h =
    let low = leb-true 48 b (and_left (leb 48 b) _ (and_left (digit b) _ w.all_digits)) in
    let first = and_right (leb 1 (length (b ∷ c ∷ bs))) _ w.no_zero in
    let many : eqb (length (b ∷ c ∷ bs)) 1 ≡ false = ne_eqb (length (b ∷ c ∷ bs)) 1 (λ e. omega arith) in
    let not-0 = eqb-false b 48 (not-true (eqb b 48) (rw many at first)) in
    absurd (omega (arith, low, not-0, w.value, value-above (10 * (10 * 0 + (b - 48)) + (c - 48)) bs))

two_fields : (word f : List ℕ) (ps : List (List ℕ)) → length ps ≡ 2 → get_or ps 0 [] ≡ word → get_or ps 1 [] ≡ f → tabbed ps ≡ word ++ (9 ∷ f)
unfolding tabbed
two_fields word f [] n a b = absurd (omega arith)
two_fields word f (p ∷ []) n a b = absurd (omega arith)
two_fields word f (p ∷ q ∷ []) n a b = rw (a, b)
two_fields word f (p ∷ q ∷ r ∷ ps) n a b = absurd (omega arith)

pub number-spelt : (word : List ℕ) (most : ℕ) (l : List ℕ) (k : ℕ) → number_in word most l ≡ k → 0 < k → k < 10 → l ≡ word ++ (9 ∷ (48 + k) ∷ [])
unfolding number_in field
number-spelt word most l k e low high = go (eqb (length (fields l)) 2) (same_bytes (field 0 l) word) refl refl e
  where
    go : (n b : Bool) → eqb (length (fields l)) 2 ≡ n → same_bytes (field 0 l) word ≡ b → cond (n && b) (one_to most (field 1 l)) 0 ≡ k
        → l ≡ word ++ (9 ∷ (48 + k) ∷ [])
    go true true en eb q =
        sym (fields-tabbed l)
        ∙ two_fields word _ (fields l) (eqb-true (length (fields l)) 2 en) (same_true (field 0 l) word eb) (digit-spelt (field 1 l) k (one-spelt most (field 1 l) k q low) high)
    go true false en eb q = absurd (omega (arith, q))
    go false b en eb q = absurd (omega (arith, q))

-- ---- a line that is a grant

pub holder-form : (modules : ℕ) (l : List ℕ) → ltb 0 (holder_in modules l) ≡ true → grant_form l ≡ true
unfolding holder_in
holder-form modules l h = go (grant_form l) h
  where
    go : (b : Bool) → ltb 0 (cond b (one_to modules (field 1 l)) 0) ≡ true → b ≡ true
    go true r = refl
    go false r = r

pub form-four : (l : List ℕ) → grant_form l ≡ true → length (fields l) ≡ 4
unfolding grant_form
form-four l q = eqb-true (length (fields l)) 4 (and_left (eqb (length (fields l)) 4) _ q)

pub form-topic : (l : List ℕ) → grant_form l ≡ true → good_topic (field 3 l) ≡ true
unfolding grant_form
form-topic l q =
    and_right (same_bytes (field 2 l) in_word || same_bytes (field 2 l) out_word) _
    (and_right (same_bytes (field 0 l) grant_word) _ (and_right (eqb (length (fields l)) 4) _ q))

-- its topic is all that stands behind the third tab
pub grant-rest : (l : List ℕ) (modules k : ℕ) → k ≡ holder_in modules l → (k ≡ 0 → ⊥) → tabbed (drop 3 (fields l)) ≡ field 3 l
unfolding field tabbed
grant-rest l modules k ek h =
    go (fields l) (form-four l (holder-form modules l (lt-ltb 0 (holder_in modules l) (rw ek at pos))))
  where
    pos : 0 < k
    pos = omega arith

    go : (ps : List (List ℕ)) → length ps ≡ 4 → tabbed (drop 3 ps) ≡ get_or ps 3 []
    go [] e = absurd (omega arith)
    go (a ∷ []) e = absurd (omega arith)
    go (a ∷ b ∷ []) e = absurd (omega arith)
    go (a ∷ b ∷ c ∷ []) e = absurd (omega arith)
    go (a ∷ b ∷ c ∷ f ∷ []) e = refl
    go (a ∷ b ∷ c ∷ f ∷ g ∷ ps) e = absurd (omega arith)

-- a grant is no line of two fields
pub grant-unnumbered : (word : List ℕ) (most modules : ℕ) (l : List ℕ) → ltb 0 (holder_in modules l) ≡ true → number_in word most l ≡ 0
unfolding number_in
grant-unnumbered word most modules l h =
    rw (ne_eqb (length (fields l)) 2 (λ e. omega (arith, e, form-four l (holder-form modules l h))))
