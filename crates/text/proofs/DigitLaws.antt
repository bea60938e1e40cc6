-- Numbers written in decimal: the laws of `digits_in` and `higher` for the loops that write, and `read_back`: what is written is read as the same number.
-- Assumes nothing.
use mathlib.Core.Path.{◌≡◌, refl, sym, ap, ◌∙◌}
use mathlib.Core.Bool.{Bool, true, false, ◌&&◌, cond, or-true}
use mathlib.Core.List.{List, [], ◌∷◌, ◌++◌}
use Prim.Native.Nat.{ℕ, zero, suc, ◌+◌, ◌-◌, ◌*◌, ◌/◌, ◌%◌, ◌^◌, ◌≤◌, ◌<◌}
use native.Mathlib.Nat.{pow-suc}
use native.Mathlib.Omega.{arith}
use borrow.Author.Tests.{le-leb, lt-leb, lt-ltb, le-ltb, ne_eqb, ltb-true, ltb-false}
use lib.Dec.{leb, ltb, eqb, lit<}
use lib.ListN.{length, get_or, set, length-append, get_or-append}
use Rattle.std.specs.Prelude.{Some}
use Rattle.le.specs.Splice.{splice, wholly}
use Rattle.le.proofs.SpliceLaws.{splice-append, splice-comm, set-splice}
use Rattle.text.specs.Decimal.{digit, digits, value_from, no_leading_zero, number_from, number_of, digits_in, higher, decimal}

pub length_digits : (k n : ℕ) → length (digits_in k n) ≡ k
unfolding digits_in
length_digits zero n = refl
length_digits (suc k) n = length-append (digits_in k (n / 10)) _ ∙ omega (arith, length_digits k (n / 10))

-- ---- the loop that counts: i digits are counted, and `rest` is what stands before them

higher-few : (k n : ℕ) → n < 10 → higher k n ≡ 0
unfolding higher
higher-few zero n h = refl
higher-few (suc k) n h = rw (lt-ltb n 10 h)

higher-more : (k j n : ℕ) → k ≡ suc j → 10 ≤ n → higher k n ≡ suc (higher j (n / 10))
unfolding higher
higher-more k j n e h = rw (e, le-ltb n 10 h)

higher-none : (k n : ℕ) → k ≡ 0 → higher k n ≡ 0
unfolding higher
higher-none k n e = rw e

module _ (n i rest : ℕ) (inv : i + higher (19 - i) rest ≡ higher 19 n) where
  counted : higher (19 - i) rest ≡ 0 → i + 1 ≡ length (decimal n)
  unfolding decimal
  counted z = omega (arith, inv, z, length_digits (suc (higher 19 n)) n)

  pub count-few : rest < 10 → i + 1 ≡ length (decimal n)
  count-few h = counted (higher-few (19 - i) rest h)

  pub count_turn : i < 19 → 10 ≤ rest → i + 1 + higher (19 - (i + 1)) (rest / 10) ≡ higher 19 n
  count_turn l h = omega (arith, inv, higher-more (19 - i) (19 - (i + 1)) rest (omega arith) h)

  pub count-all : 19 ≤ i → i + 1 ≡ length (decimal n)
  count-all l = counted (higher-none (19 - i) rest (omega arith))

-- ---- the loop that writes, the last digit first: what is left to write gives `all`

pub digits-turn : (xs : List ℕ) (at k i rest : ℕ) (all : List ℕ) → k ≡ suc i → splice xs at (digits_in k rest) ≡ all
    → splice (set xs (at + i) (48 + rest % 10)) at (digits_in i (rest / 10)) ≡ all
unfolding digits_in
digits-turn xs at k i rest all e h =
    let d : List ℕ = (48 + rest % 10) ∷ [] in
    let ys : List ℕ = digits_in i (rest / 10) in
    let n : length ys ≡ i = length_digits i (rest / 10) in
    ap (λ (l : List ℕ). splice l at ys) (set-splice xs (at + i) (48 + rest % 10))
    ∙ sym (splice-comm xs at ys (at + i) d (omega arith))
    ∙ ap (λ (j : ℕ). splice (splice xs at ys) (at + j) d) (sym n)
    ∙ sym (splice-append xs at ys d)
    ∙ (rw e at h)

pub digits-none : (k n : ℕ) → k ≡ 0 → digits_in k n ≡ []
unfolding digits_in
digits-none k n e = rw e

-- whole, or not at all
module _ (out : List ℕ) (at k n : ℕ) (e : k ≡ length (decimal n)) where
  pub no_room : length out < at + k → (false ≡ leb (at + length (decimal n)) (length out)) × (out ≡ wholly out at (decimal n))
  unfolding wholly
  no_room h = let l : leb (at + length (decimal n)) (length out) ≡ false = lt-leb (at + length (decimal n)) (length out) (omega arith) in (sym l, rw l)

  pub all-put : (out' : List ℕ) → at ≤ length out → k ≤ length out - at → out' ≡ splice out at (digits_in k n)
      → (true ≡ leb (at + length (decimal n)) (length out)) × (out' ≡ wholly out at (decimal n))
  unfolding wholly decimal
  all-put out' s h w =
      let l : leb (at + length (decimal n)) (length out) ≡ true = le-leb (at + length (decimal n)) (length out) (omega arith) in
      (sym l, rw l (w ∙ written))
    where
      written : splice out at (digits_in k n) ≡ splice out at (decimal n)
      written = ap (λ (j : ℕ). splice out at (digits_in j n)) (e ∙ length_digits (suc (higher 19 n)) n)

-- ---- what is written reads back

digits_append : (xs ys : List ℕ) → digits xs ≡ true → digits ys ≡ true → digits (xs ++ ys) ≡ true
unfolding digits
digits_append [] ys p q = q
digits_append (x ∷ xs) ys p q = go (digit x) (digits xs) p (λ r. digits_append xs ys r q)
  where
    go : (a b : Bool) → a && b ≡ true → (b ≡ true → digits (xs ++ ys) ≡ true) → a && digits (xs ++ ys) ≡ true
    go true b p f = f p
    go false b p f = p

digit-last : (n : ℕ) → digits ((48 + n % 10) ∷ []) ≡ true
unfolding digits
digit-last n = simp (le-leb 48 (48 + n % 10) (omega arith), le-leb (48 + n % 10) 57 (omega arith))

all_digits : (k n : ℕ) → digits (digits_in k n) ≡ true
unfolding digits_in digits
all_digits zero n = refl
all_digits (suc k) n = digits_append (digits_in k (n / 10)) ((48 + n % 10) ∷ []) (all_digits k (n / 10)) (digit-last n)

value-append : (a : ℕ) (xs : List ℕ) (b : ℕ) → value_from a (xs ++ (b ∷ [])) ≡ 10 * value_from a xs + (b - 48)
unfolding value_from
value-append a [] b = refl
value-append a (x ∷ xs) b = value-append (10 * a + (x - 48)) xs b

value-back : (k n : ℕ) → n < 10 ^ k → value_from 0 (digits_in k n) ≡ n
unfolding digits_in value_from
value-back zero n h = let p : 10 ^ 0 ≡ 1 = refl in omega arith
value-back (suc k) n h =
    let h' : n < 10 ^ k * 10 = rw (pow-suc 10 k) at h in
    value-append 0 (digits_in k (n / 10)) (48 + n % 10) ∙ omega (arith, value-back k (n / 10) (omega arith))

-- the digits counted are enough, and none is too many
high-enough : (f n : ℕ) → n < 10 ^ suc f → n < 10 ^ suc (higher f n)
unfolding higher
high-enough zero n h = h
high-enough (suc f) n h =
    let h' : n < 10 ^ suc f * 10 = rw (pow-suc 10 (suc f)) at h in
    go (ltb n 10) refl (high-enough f (n / 10) (omega arith))
  where
    go : (t : Bool) → ltb n 10 ≡ t → n / 10 < 10 ^ suc (higher f (n / 10)) → n < 10 ^ suc (cond t 0 (suc (higher f (n / 10))))
    go true e ih = let p : 10 ^ 1 ≡ 10 = refl in omega (arith, ltb-true n 10 e)
    go false e ih = rw (pow-suc 10 (suc (higher f (n / 10)))) (omega arith)

no-higher : (f n : ℕ) → 1 ≤ n → 10 ^ higher f n ≤ n
unfolding higher
no-higher zero n h = let p : 10 ^ 0 ≡ 1 = refl in omega arith
no-higher (suc f) n h = go (ltb n 10) refl (λ l. no-higher f (n / 10) l)
  where
    go : (t : Bool) → ltb n 10 ≡ t → (1 ≤ n / 10 → 10 ^ higher f (n / 10) ≤ n / 10) → 10 ^ cond t 0 (suc (higher f (n / 10))) ≤ n
    go true e ih = let p : 10 ^ 0 ≡ 1 = refl in omega arith
    go false e ih =
        let big : 10 ≤ n = ltb-false n 10 e in
        rw (pow-suc 10 (higher f (n / 10))) (omega (arith, ih (omega arith)))

-- the first of k + 1 digits of a number that has so many is not `0`
first-digit : (k n : ℕ) → 10 ^ k ≤ n → n < 10 ^ suc k → get_or (digits_in (suc k) n) 0 0 ≡ 48 → ⊥
unfolding digits_in
first-digit zero n l h e = let p : 10 ^ 0 ≡ 1 = refl in let q : 10 ^ 1 ≡ 10 = refl in omega arith
first-digit (suc k) n l h e =
    let l' : 10 ^ k * 10 ≤ n = rw (pow-suc 10 k) at l in
    let h' : n < 10 ^ suc k * 10 = rw (pow-suc 10 (suc k)) at h in
    let long : 0 < length (digits_in (suc k) (n / 10)) = omega (arith, length_digits (suc k) (n / 10)) in
    first-digit k (n / 10) (omega arith) (omega arith) (sym (get_or-append (digits_in (suc k) (n / 10)) ((48 + n % 10) ∷ []) 0 0 long) ∙ e)

zero-leads : no_leading_zero (decimal 0) ≡ true
unfolding no_leading_zero decimal higher digits_in
zero-leads = refl

decimal-leads : (n : ℕ) → n < 10 ^ 20 → no_leading_zero (decimal n) ≡ true
unfolding no_leading_zero decimal
decimal-leads zero h = zero-leads
decimal-leads (suc m) h =
    let k = higher 19 (suc m) in
    let head : eqb (get_or (digits_in (suc k) (suc m)) 0 0) 48 ≡ false =
    ne_eqb (get_or (digits_in (suc k) (suc m)) 0 0) 48 (first-digit k (suc m) (no-higher 19 (suc m) (omega arith)) (high-enough 19 (suc m) h)) in
    rw (head, le-leb 1 (length (digits_in (suc k) (suc m))) (omega (arith, length_digits (suc k) (suc m)))) (or-true (eqb (length (digits_in (suc k) (suc m))) 1))

pub read_back : (n : ℕ) → n ≤ 0xFFFF_FFFF_FFFF_FFFF → number_of (decimal n) ≡ Some n
unfolding number_of number_from decimal
read_back n h =
    let big : n < 10 ^ 20 = omega (arith, small) in
    let v : value_from 0 (digits_in (suc (higher 19 n)) n) ≡ n = value-back (suc (higher 19 n)) n (high-enough 19 n big) in
    rw (leads big, all_digits (suc (higher 19 n)) n, v, le-leb n 0xFFFF_FFFF_FFFF_FFFF h)
  where
    small : 0xFFFF_FFFF_FFFF_FFFF < 10 ^ 20
    small = lit< tt

    leads : n < 10 ^ 20 → no_leading_zero (digits_in (suc (higher 19 n)) n) ≡ true
    leads b = decimal-leads n b
