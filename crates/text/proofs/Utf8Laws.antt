-- The laws of `utf8`, for a loop over the characters, and of `utf8_from`, for the bytes of one.
-- Assumes nothing.
use mathlib.Core.Path.{◌≡◌, refl, sym, ap, ◌∙◌}
use mathlib.Core.Bool.{Bool, true, false, ◌&&◌}
use mathlib.Core.List.{List, [], ◌∷◌}
use Prim.Native.Nat.{ℕ, zero, suc, ◌+◌, ◌-◌, ◌≤◌, ◌<◌}
use native.Mathlib.Nat.{not-suc-le-zero, le_of_suc-le-suc}
use native.Mathlib.Omega.{arith}
use borrow.Author.Tests.{lt-ltb}
use Rattle.std.specs.List.{list_all}
use lib.Dec.{leb}
use lib.ListN.{length, get_or, take, drop, length-drop, drop_of_length-le}
use lib.Seq.{drop-drop}
use Rattle.le.specs.Splice.{part}
use Rattle.le.proofs.SpliceLaws.{drop_head, length_part}
use Rattle.le.proofs.TestLaws.{and_assoc, and-no-right}
use Rattle.text.specs.Utf8.{Range, to, within, after, utf8_from, utf8, tails, due}

-- ---- characters

after-low : (b : ℕ) → b < 128 → after b ≡ []
unfolding after
after-low b h = rw (lt-ltb b 128 h)

-- a byte below 128 is a character by itself
pub utf8-low : (b : ℕ) (bs : List ℕ) → b < 128 → utf8 (b ∷ bs) ≡ utf8 bs
unfolding utf8 utf8_from
utf8-low b bs h = ap (λ (r : List Range). utf8_from r bs) (after-low b h)

-- what is due, and then characters
utf8-parts : (rs : List Range) (bs : List ℕ) → utf8_from rs bs ≡ utf8_from rs (take (length rs) bs) && utf8 (drop (length rs) bs)
unfolding utf8_from utf8
utf8-parts [] bs = refl
utf8-parts (r ∷ rs) [] = refl
utf8-parts (r ∷ rs) (b ∷ bs) = rw (utf8-parts rs bs) (sym (and_assoc (within r b) (utf8_from rs (take (length rs) bs)) (utf8 (drop (length rs) bs))))

-- fewer bytes than are due
utf8-short : (rs : List Range) (bs : List ℕ) → length bs < length rs → utf8_from rs bs ≡ false
unfolding utf8_from
utf8-short [] bs h = absurd (not-suc-le-zero h)
utf8-short (r ∷ rs) [] h = refl
utf8-short (r ∷ rs) (b ∷ bs) h = and-no-right (within r b) (utf8_from rs bs) (utf8-short rs bs (le_of_suc-le-suc h))

length-tails : (n : ℕ) → length (tails n) ≡ n
length-tails zero = refl
length-tails (suc n) = ap suc (length-tails n)

length-due : (n lo hi : ℕ) → length (due n lo hi) ≡ n
length-due zero lo hi = refl
length-due (suc n) lo hi = ap suc (length-tails n)

-- for the loop over the characters: `all` is what the whole text gives
module _ (s : List ℕ) (i : ℕ) (all : Bool) (h : i < length s) (inv : utf8 (drop i s) ≡ all) where
  -- what its first byte asks for, and then characters
  begun : utf8_from (after (get_or s i 0)) (drop (i + 1) s) ≡ all
  unfolding utf8 utf8_from
  begun = rw (drop_head s i (i + 1) h (omega arith)) at inv

  pub ascii-passed : get_or s i 0 < 128 → utf8 (drop (i + 1) s) ≡ all
  ascii-passed l = rw (drop_head s i (i + 1) h (omega arith), utf8-low (get_or s i 0) (drop (i + 1) s) l) at inv

  module _ (left lo hi : ℕ) (e : due left lo hi ≡ after (get_or s i 0)) where
    -- the text ends inside the character
    pub cut_short : length s - i ≤ left → false ≡ all
    cut_short k = sym (utf8-short (due left lo hi) (drop (i + 1) s) (omega (arith, length-drop (i + 1) s, length-due left lo hi))) ∙ (rw (← e) at begun)

    -- the bytes that are asked for, and the text behind the character
    parted : utf8_from (due left lo hi) (part (i + 1) left s) && utf8 (drop (i + (1 + left)) s) ≡ all
    unfolding part
    parted =
        let n : i + 1 + left ≡ i + (1 + left) = omega arith in
        rw (length-due left lo hi, drop-drop left (i + 1) s, n) at (sym (utf8-parts (due left lo hi) (drop (i + 1) s)) ∙ (rw (← e) at begun))

    pub not-followed : utf8_from (due left lo hi) (part (i + 1) left s) ≡ false → false ≡ all
    not-followed z = rw z at parted

    pub followed : utf8_from (due left lo hi) (part (i + 1) left s) ≡ true → utf8 (drop (i + (1 + left)) s) ≡ all
    followed o = rw o at parted

pub utf8-end : (s : List ℕ) (i : ℕ) (all : Bool) → length s ≤ i → utf8 (drop i s) ≡ all → true ≡ all
unfolding utf8 utf8_from
utf8-end s i all h inv = rw (drop_of_length-le s h) at inv

-- ---- the bytes that are due, p: the first, and the tails behind it

tails-met : (n : ℕ) (p : List ℕ) → length p ≡ n → utf8_from (tails n) p ≡ list_all (λ b. leb 0x80 b && leb b 0xBF) p
unfolding utf8_from
tails-met zero [] h = refl
tails-met zero (b ∷ p) h = absurd (omega arith)
tails-met (suc n) [] h = absurd (omega arith)
tails-met (suc n) (b ∷ p) h = ap (λ (r : Bool). (leb 0x80 b && leb b 0xBF) && r) (tails-met n p (omega arith))

none : (n lo hi : ℕ) (p : List ℕ) → length p ≡ n → length p < 1 → true ≡ utf8_from (due n lo hi) p
unfolding utf8_from
none zero lo hi [] h l = refl
none (suc n) lo hi [] h l = absurd (omega arith)
none n lo hi (b ∷ p) h l = absurd (omega arith)

some : (n lo hi : ℕ) (p : List ℕ) → length p ≡ n → 1 ≤ length p
    → utf8_from (due n lo hi) p ≡ within (to lo hi) (get_or p 0 0) && list_all (λ b. leb 0x80 b && leb b 0xBF) (drop 1 p)
unfolding utf8_from
some n lo hi [] h l = absurd (omega arith)
some zero lo hi (b ∷ p) h l = absurd (omega arith)
some (suc n) lo hi (b ∷ p) h l = ap (λ (r : Bool). within (to lo hi) b && r) (tails-met n p (omega arith))

-- what `&s[at..at + n]` is
pub lent-part : (s : List ℕ) (at n : ℕ) → take (at + n - at) (drop at s) ≡ part at n s
unfolding part
lent-part s at n = let k : at + n - at ≡ n = omega arith in rw k

module _ (s : List ℕ) (at n lo hi : ℕ) (h : at + n ≤ length s) (p : List ℕ) (e : p ≡ part at n s) where
  so_many : length p ≡ n
  so_many = rw e (length_part at n s h)

  pub none-due : length p < 1 → true ≡ utf8_from (due n lo hi) (part at n s)
  none-due l = none n lo hi p so_many l ∙ ap (utf8_from (due n lo hi)) e

  module _ (l : 1 ≤ length p) where
    pub not-begun : within (to lo hi) (get_or p 0 0) ≡ false → false ≡ utf8_from (due n lo hi) (part at n s)
    not-begun q = sym (rw q at (some n lo hi p so_many l)) ∙ ap (utf8_from (due n lo hi)) e

    pub due-begun : within (to lo hi) (get_or p 0 0) ≡ true → list_all (λ b. leb 0x80 b && leb b 0xBF) (drop 1 p) ≡ utf8_from (due n lo hi) (part at n s)
    due-begun q = sym (rw q at (some n lo hi p so_many l)) ∙ ap (utf8_from (due n lo hi)) e
