-- The laws of `splice` and `part`. None has a condition but where the buffer must be long enough for what is said.
-- Assumes nothing.
use mathlib.Core.Path.{◌≡◌, refl, sym, ap, ap₂, ◌∙◌}
use mathlib.Core.Bool.{true}
use mathlib.Core.List.{List, [], ◌∷◌, ◌++◌, append_assoc}
use Prim.Native.Nat.{ℕ, zero, suc, ◌+◌, ◌-◌, ◌≤◌, ◌<◌}
use native.Mathlib.Nat.{le_refl, le_of_suc-le-suc, not-suc-le-zero, suc-add, zero-add, sub-zero, zero-sub, suc-sub-suc}
use native.Mathlib.Omega.{arith}
use lib.ListN.{length, get_or, set, take, drop, length-append, length-take, length-drop}
use lib.Seq.{take_at, take-append-le, drop-append-le, drop-append-add, take-length, drop-cons, take_all, length-take-le, take-take, drop-drop, drop-nil, take-nil, take-add, drop_at}
use borrow.Author.Tests.{eqb-true}
use borrow.Rule.Slice.PartMut.{put_mid}
use lib.Dec.{eqb}
use Rattle.le.specs.Splice.{splice, zeros, part, all_zero}
use Rattle.le.proofs.TestLaws.{and_left, and_right}

-- ---- length

pub length-splice : (xs : List ℕ) (at : ℕ) (ys : List ℕ) → length (splice xs at ys) ≡ length xs
unfolding splice
length-splice [] at ys = refl
length-splice (x ∷ xs) zero [] = refl
length-splice (x ∷ xs) zero (y ∷ ys) = ap suc (length-splice xs zero ys)
length-splice (x ∷ xs) (suc at) ys = ap suc (length-splice xs at ys)

-- ---- nothing to write; one byte first; one run after another

pub splice-nil : (xs : List ℕ) (at : ℕ) → splice xs at [] ≡ xs
unfolding splice
splice-nil [] at = refl
splice-nil (x ∷ xs) zero = refl
splice-nil (x ∷ xs) (suc at) = ap (λ (r : List ℕ). x ∷ r) (splice-nil xs at)

-- a turn of a loop that writes upward
pub splice-cons : (xs : List ℕ) (at y : ℕ) (ys : List ℕ) → splice xs at (y ∷ ys) ≡ splice (set xs at y) (suc at) ys
unfolding splice
splice-cons [] at y ys = refl
splice-cons (x ∷ xs) zero y ys = refl
splice-cons (x ∷ xs) (suc at) y ys = ap (λ (r : List ℕ). x ∷ r) (splice-cons xs at y ys)

pub splice-append : (xs : List ℕ) (at : ℕ) (ys zs : List ℕ) → splice xs at (ys ++ zs) ≡ splice (splice xs at ys) (at + length ys) zs
unfolding splice
splice-append [] at ys zs = refl
splice-append (x ∷ xs) zero [] zs = refl
splice-append (x ∷ xs) zero (y ∷ ys) zs =
    ap (λ (r : List ℕ). y ∷ r) (splice-append xs zero ys zs ∙ ap (λ (k : ℕ). splice (splice xs zero ys) k zs) (zero-add (length ys)))
    ∙ ap (λ (k : ℕ). splice (y ∷ splice xs zero ys) k zs) (sym (zero-add (suc (length ys))))
splice-append (x ∷ xs) (suc at) ys zs =
    ap (λ (r : List ℕ). x ∷ r) (splice-append xs at ys zs)
    ∙ ap (λ (k : ℕ). splice (x ∷ splice xs at ys) k zs) (sym (suc-add at (length ys)))

-- A turn of a loop that writes upward. Its invariant: what is left to write, `rest`, written over what there is, gives `all`.
pub splice-turn : (xs : List ℕ) (k j b : ℕ) (rest rest' all : List ℕ) → j ≡ suc k → rest ≡ b ∷ rest'
    → splice xs k rest ≡ all → splice (set xs k b) j rest' ≡ all
splice-turn xs k j b rest rest' all ej e h = rw ej (sym (splice-cons xs k b rest') ∙ ap (splice xs k) (sym e) ∙ h)

-- where that loop ends: nothing is left
pub splice-done : (xs : List ℕ) (k : ℕ) (rest all : List ℕ) → rest ≡ [] → splice xs k rest ≡ all → xs ≡ all
splice-done xs k rest all e h = sym (splice-nil xs k) ∙ ap (splice xs k) (sym e) ∙ h

-- a list from i on, its head first
pub drop_head : (s : List ℕ) (i j : ℕ) → i < length s → j ≡ suc i → drop i s ≡ get_or s i 0 ∷ drop j s
drop_head s i j h e = rw e (drop-cons s i 0 h)

-- ---- a byte of the result

pub get_or-splice-before : (xs : List ℕ) (at : ℕ) (ys : List ℕ) (i d : ℕ) → i < at → get_or (splice xs at ys) i d ≡ get_or xs i d
unfolding splice
get_or-splice-before [] at ys i d h = refl
get_or-splice-before (x ∷ xs) zero ys i d h = absurd (not-suc-le-zero h)
get_or-splice-before (x ∷ xs) (suc at) ys zero d h = refl
get_or-splice-before (x ∷ xs) (suc at) ys (suc i) d h = get_or-splice-before xs at ys i d (le_of_suc-le-suc h)

pub get_or-splice-in : (xs : List ℕ) (at : ℕ) (ys : List ℕ) (i d : ℕ) → i < length ys → at + i < length xs → get_or (splice xs at ys) (at + i) d ≡ get_or ys i d
unfolding splice
get_or-splice-in [] at ys i d h l = absurd (not-suc-le-zero l)
get_or-splice-in (x ∷ xs) zero [] i d h l = absurd (not-suc-le-zero h)
get_or-splice-in (x ∷ xs) zero (y ∷ ys) zero d h l = refl
get_or-splice-in (x ∷ xs) zero (y ∷ ys) (suc i) d h l =
    ap (λ (k : ℕ). get_or (y ∷ splice xs zero ys) k d) (zero-add (suc i))
    ∙ ap (λ (k : ℕ). get_or (splice xs zero ys) k d) (sym (zero-add i))
    ∙ get_or-splice-in xs zero ys i d (le_of_suc-le-suc h) (omega arith)
get_or-splice-in (x ∷ xs) (suc at) ys i d h l =
    ap (λ (k : ℕ). get_or (x ∷ splice xs at ys) k d) (suc-add at i) ∙ get_or-splice-in xs at ys i d h (omega arith)

pub get_or-splice-after : (xs : List ℕ) (at : ℕ) (ys : List ℕ) (i d : ℕ) → at + length ys ≤ i → get_or (splice xs at ys) i d ≡ get_or xs i d
unfolding splice
get_or-splice-after [] at ys i d h = refl
get_or-splice-after (x ∷ xs) zero [] i d h = refl
get_or-splice-after (x ∷ xs) zero (y ∷ ys) zero d h = absurd (omega arith)
get_or-splice-after (x ∷ xs) zero (y ∷ ys) (suc i) d h = get_or-splice-after xs zero ys i d (omega arith)
get_or-splice-after (x ∷ xs) (suc at) ys zero d h = absurd (omega arith)
get_or-splice-after (x ∷ xs) (suc at) ys (suc i) d h = get_or-splice-after xs at ys i d (omega arith)

-- ---- what would lie past the end is lost

pub laid-past : (xs : List ℕ) (at : ℕ) (ys : List ℕ) → length xs ≤ at → xs ≡ splice xs at ys
unfolding splice
laid-past [] at ys h = refl
laid-past (x ∷ xs) zero ys h = absurd (not-suc-le-zero h)
laid-past (x ∷ xs) (suc at) ys h = ap (λ (r : List ℕ). x ∷ r) (laid-past xs at ys (le_of_suc-le-suc h))

splice-clip : (xs : List ℕ) (at : ℕ) (ys : List ℕ) → splice xs at (take (length xs - at) ys) ≡ splice xs at ys
unfolding splice
splice-clip [] at ys = refl
splice-clip (x ∷ xs) zero [] = rw sub-zero
splice-clip (x ∷ xs) zero (y ∷ ys) = rw sub-zero (ap (λ (r : List ℕ). y ∷ r) (rw sub-zero at (splice-clip xs zero ys)))
splice-clip (x ∷ xs) (suc at) ys = rw suc-sub-suc (ap (λ (r : List ℕ). x ∷ r) (splice-clip xs at ys))

pub laid-clipped : (xs : List ℕ) (at : ℕ) (ys q r : List ℕ) → q ≡ take (length xs - at) ys → r ≡ splice xs at q → r ≡ splice xs at ys
laid-clipped xs at ys q r qe re = re ∙ ap (splice xs at) qe ∙ splice-clip xs at ys

-- ---- parts of the result

pub take-splice-before : (n : ℕ) (xs : List ℕ) (at : ℕ) (ys : List ℕ) → n ≤ at → take n (splice xs at ys) ≡ take n xs
unfolding splice
take-splice-before zero xs at ys h = refl
take-splice-before (suc n) [] at ys h = refl
take-splice-before (suc n) (x ∷ xs) zero ys h = absurd (not-suc-le-zero h)
take-splice-before (suc n) (x ∷ xs) (suc at) ys h = ap (λ (r : List ℕ). x ∷ r) (take-splice-before n xs at ys (le_of_suc-le-suc h))

pub drop-splice-after : (n : ℕ) (xs : List ℕ) (at : ℕ) (ys : List ℕ) → at + length ys ≤ n → drop n (splice xs at ys) ≡ drop n xs
unfolding splice
drop-splice-after n [] at ys h = refl
drop-splice-after n (x ∷ xs) zero [] h = refl
drop-splice-after zero (x ∷ xs) zero (y ∷ ys) h = absurd (omega arith)
drop-splice-after (suc n) (x ∷ xs) zero (y ∷ ys) h = drop-splice-after n xs zero ys (omega arith)
drop-splice-after zero (x ∷ xs) (suc at) ys h = absurd (omega arith)
drop-splice-after (suc n) (x ∷ xs) (suc at) ys h = drop-splice-after n xs at ys (omega arith)

-- the splice reaches past n: what is left of it, over what is left
pub drop-splice : (n : ℕ) (xs : List ℕ) (at : ℕ) (ys : List ℕ) → drop n (splice xs (n + at) ys) ≡ splice (drop n xs) at ys
unfolding splice
drop-splice zero xs at ys = rw (zero-add at)
drop-splice (suc n) [] at ys = refl
drop-splice (suc n) (x ∷ xs) at ys = rw (suc-add n at) (drop-splice n xs at ys)

-- the splice ends before n
pub take-splice : (n : ℕ) (xs : List ℕ) (at : ℕ) (ys : List ℕ) → take n (splice xs at ys) ≡ splice (take n xs) at ys
unfolding splice
take-splice zero xs at ys = refl
take-splice (suc n) [] at ys = refl
take-splice (suc n) (x ∷ xs) zero [] = refl
take-splice (suc n) (x ∷ xs) zero (y ∷ ys) = ap (λ (r : List ℕ). y ∷ r) (take-splice n xs zero ys)
take-splice (suc n) (x ∷ xs) (suc at) ys = ap (λ (r : List ℕ). x ∷ r) (take-splice n xs at ys)

-- what was written, and what stands beside it
part-splice : (xs : List ℕ) (at : ℕ) (ys : List ℕ) → at + length ys ≤ length xs → take (length ys) (drop at (splice xs at ys)) ≡ ys
unfolding splice
part-splice xs at [] h = refl
part-splice [] zero (y ∷ ys) h = absurd (omega arith)
part-splice [] (suc at) (y ∷ ys) h = absurd (omega arith)
part-splice (x ∷ xs) zero (y ∷ ys) h = ap (λ (r : List ℕ). y ∷ r) (part-splice xs zero ys (omega arith))
part-splice (x ∷ xs) (suc at) (y ∷ ys) h = part-splice xs at (y ∷ ys) (omega arith)

part-splice-before : (k n : ℕ) (xs : List ℕ) (at : ℕ) (ys : List ℕ) → k + n ≤ at → take n (drop k (splice xs at ys)) ≡ take n (drop k xs)
part-splice-before k n xs at ys h =
    let e : at ≡ k + (at - k) = omega arith in
    ap (λ (j : ℕ). take n (drop k (splice xs j ys))) e ∙ ap (take n) (drop-splice k xs (at - k) ys)
    ∙ take-splice-before n (drop k xs) (at - k) ys (omega arith)

-- ---- as a cut and a paste: how a part that was lent as `&mut s[a..e]` comes back

pub splice_cut : (xs : List ℕ) (at : ℕ) (ys : List ℕ) → at + length ys ≤ length xs → splice xs at ys ≡ take at xs ++ (ys ++ drop (at + length ys) xs)
unfolding splice
splice_cut [] zero [] h = refl
splice_cut [] zero (y ∷ ys) h = absurd (omega arith)
splice_cut [] (suc at) ys h = absurd (omega arith)
splice_cut (x ∷ xs) zero [] h = refl
splice_cut (x ∷ xs) zero (y ∷ ys) h =
    let e : zero + suc (length ys) ≡ suc (zero + length ys) = omega arith in
    rw e (ap (λ (r : List ℕ). y ∷ r) (splice_cut xs zero ys (omega arith)))
splice_cut (x ∷ xs) (suc at) ys h = rw (suc-add at (length ys)) (ap (λ (r : List ℕ). x ∷ r) (splice_cut xs at ys (omega arith)))

-- what was written where a front ends, behind that front
pub take-splice-end : (xs : List ℕ) (at : ℕ) (ys : List ℕ) → at + length ys ≤ length xs → take (at + length ys) (splice xs at ys) ≡ take at xs ++ ys
take-splice-end xs at ys h =
    rw (splice_cut xs at ys h, ← append_assoc (take at xs) ys (drop (at + length ys) xs))
    (take_at (take at xs ++ ys) (drop (at + length ys) xs) (at + length ys) (rw (length-append, length-take-le at xs (omega arith))))

-- one byte
pub set-splice : (xs : List ℕ) (i v : ℕ) → set xs i v ≡ splice xs i (v ∷ [])
set-splice xs i v = sym (splice-cons xs i v [] ∙ splice-nil (set xs i v) (suc i))

-- ---- a splice of a splice: over the same place, and at places apart

pub splice-comm : (xs : List ℕ) (at : ℕ) (ys : List ℕ) (bt : ℕ) (zs : List ℕ) → at + length ys ≤ bt
    → splice (splice xs at ys) bt zs ≡ splice (splice xs bt zs) at ys
unfolding splice
splice-comm [] at ys bt zs h = refl
splice-comm (x ∷ xs) zero [] bt zs h = sym (splice-nil (splice (x ∷ xs) bt zs) zero)
splice-comm (x ∷ xs) zero (y ∷ ys) zero zs h = absurd (omega arith)
splice-comm (x ∷ xs) zero (y ∷ ys) (suc bt) zs h = ap (λ (r : List ℕ). y ∷ r) (splice-comm xs zero ys bt zs (omega arith))
splice-comm (x ∷ xs) (suc at) ys zero zs h = absurd (omega arith)
splice-comm (x ∷ xs) (suc at) ys (suc bt) zs h = ap (λ (r : List ℕ). x ∷ r) (splice-comm xs at ys bt zs (omega arith))

-- bytes written inside what was written: they could have been written into it before
within_first : (m r : List ℕ) (k : ℕ) (ys : List ℕ) → k + length ys ≤ length r → splice (splice m 0 r) k ys ≡ splice m 0 (splice r k ys)
unfolding splice
within_first [] r k ys h = refl
within_first (x ∷ m) [] zero [] h = refl
within_first (x ∷ m) [] zero (y ∷ ys) h = absurd (omega arith)
within_first (x ∷ m) [] (suc k) ys h = absurd (omega arith)
within_first (x ∷ m) (b ∷ r) zero [] h = refl
within_first (x ∷ m) (b ∷ r) zero (y ∷ ys) h = ap (λ (l : List ℕ). y ∷ l) (within_first m r zero ys (omega arith))
within_first (x ∷ m) (b ∷ r) (suc k) ys h = ap (λ (l : List ℕ). b ∷ l) (within_first m r k ys (omega arith))

pub splice-inner : (m : List ℕ) (at : ℕ) (r : List ℕ) (k : ℕ) (ys : List ℕ) → k + length ys ≤ length r
    → splice (splice m at r) (at + k) ys ≡ splice m at (splice r k ys)
unfolding splice
splice-inner m zero r k ys h = rw (zero-add k) (within_first m r k ys h)
splice-inner [] (suc at) r k ys h = refl
splice-inner (x ∷ m) (suc at) r k ys h = rw (suc-add at k) (ap (λ (l : List ℕ). x ∷ l) (splice-inner m at r k ys h))

-- one call that writes after another, where the first ended: what a run of writes comes to
pub splice-then : (s₀ s₁ s₂ : List ℕ) (at k : ℕ) (ys zs : List ℕ) → s₁ ≡ splice s₀ at ys → k ≡ at + length ys → s₂ ≡ splice s₁ k zs
    → s₂ ≡ splice s₀ at (ys ++ zs)
splice-then s₀ s₁ s₂ at k ys zs e ek h = h ∙ rw (e, ek) (sym (splice-append s₀ at ys zs))

-- ---- parts

-- a part, its head first; and an empty one
pub part-head : (s : List ℕ) (a n b m : ℕ) → a < length s → b ≡ suc a → n ≡ suc m → part a n s ≡ get_or s a 0 ∷ part b m s
unfolding part
part-head s a n b m h e k = rw (k, drop_head s a b h e)

pub part_none : (s : List ℕ) (a n : ℕ) → n ≡ 0 → part a n s ≡ []
unfolding part
part_none s a n e = rw e

pub length_part : (a n : ℕ) (s : List ℕ) → a + n ≤ length s → length (part a n s) ≡ n
unfolding part
length_part a n s h = length-take-le n (drop a s) (simp length-drop (omega arith))

pub part-of-part : (a n b m : ℕ) (s : List ℕ) → b + m ≤ n → part b m (part a n s) ≡ part (a + b) m s
unfolding part
part-of-part a n b m s h =
    ap (take m) (drop-take-swap n b (drop a s)) ∙ take-take m (n - b) (drop b (drop a s)) (omega arith) ∙ ap (take m) (drop-drop b a s)
  where
    drop-take-swap : (n b : ℕ) (l : List ℕ) → drop b (take n l) ≡ take (n - b) (drop b l)
    drop-take-swap n zero l = rw (sub-zero n)
    drop-take-swap zero (suc b) l = rw (zero-sub (suc b)) (drop-nil (suc b))
    drop-take-swap (suc n) (suc b) [] = sym (take-nil (suc n - suc b))
    drop-take-swap (suc n) (suc b) (x ∷ l) = drop-take-swap n b l ∙ ap (λ (k : ℕ). take k (drop b l)) (sym (suc-sub-suc n b))

-- what was written, and what stands beside it
pub part-of-splice : (s : List ℕ) (at : ℕ) (ys : List ℕ) → at + length ys ≤ length s → part at (length ys) (splice s at ys) ≡ ys
unfolding part
part-of-splice s at ys h = part-splice s at ys h

pub part-before : (a n : ℕ) (s : List ℕ) (at : ℕ) (ys : List ℕ) → a + n ≤ at → part a n (splice s at ys) ≡ part a n s
unfolding part
part-before a n s at ys h = part-splice-before a n s at ys h

-- ---- all_zero

pub zeros-all_zero : (n : ℕ) → all_zero (zeros n) ≡ true
unfolding all_zero
zeros-all_zero zero = refl
zeros-all_zero (suc n) = zeros-all_zero n

-- ---- a part that was lent as `&mut s[a..e]` and has come back: the borrow checker says `put_mid a (e - a) s ys`, with ys what the part is now

pub mid-splice : (a k : ℕ) (xs ys : List ℕ) → length ys ≡ k → a + k ≤ length xs → put_mid a k xs ys ≡ splice xs a ys
unfolding splice
mid-splice zero zero xs [] e h = sym (splice-nil xs 0)
mid-splice zero zero xs (y ∷ ys) e h = absurd (omega arith)
mid-splice zero (suc k) xs [] e h = absurd (omega arith)
mid-splice zero (suc k) [] (y ∷ ys) e h = absurd (omega arith)
mid-splice zero (suc k) (x ∷ xs) (y ∷ ys) e h = ap (λ (r : List ℕ). y ∷ r) (mid-splice zero k xs ys (omega arith) (omega arith))
mid-splice (suc a) k [] ys e h = absurd (omega arith)
mid-splice (suc a) k (x ∷ xs) ys e h = ap (λ (r : List ℕ). x ∷ r) (mid-splice a k xs ys e (omega arith))

-- what `&s[at..]` is
pub lent-tail : (s : List ℕ) (at : ℕ) → take (length s - at) (drop at s) ≡ drop at s
lent-tail s at = take_all (length s - at) (drop at s) (rw length-drop (le_refl (length s - at)))

-- a part, and no more than it says
pub length-part-most : (a n : ℕ) (s : List ℕ) → length (part a n s) ≤ n
unfolding part
length-part-most a n s = rw length-take (omega arith)

-- ---- a part of two runs: in the first, and in the second
pub part_left : (a n : ℕ) (xs ys : List ℕ) → a + n ≤ length xs → part a n (xs ++ ys) ≡ part a n xs
unfolding part
part_left a n xs ys h =
    ap (take n) (drop-append-le a xs ys (omega arith)) ∙ take-append-le n (drop a xs) ys (rw length-drop (omega arith))

pub part_right : (k n : ℕ) (xs ys : List ℕ) → part (length xs + k) n (xs ++ ys) ≡ part k n ys
unfolding part
part_right k n xs ys = ap (take n) (drop-append-add xs ys k)

-- all of a list, first in a longer one
pub part-first : (xs ys : List ℕ) → part 0 (length xs) (xs ++ ys) ≡ xs
unfolding part
part-first xs ys = take-append-le (length xs) xs ys (le_refl (length xs)) ∙ take-length xs

-- what stands behind the first n bytes, and all of them
pub part-behind : (n k : ℕ) (xs ys : List ℕ) → length xs ≡ n → length ys ≡ k → part n k (xs ++ ys) ≡ ys
unfolding part
part-behind n k xs ys e l = ap (take k) (drop_at xs ys n e) ∙ take_all k ys (omega arith)

pub part-whole : (n : ℕ) (s : List ℕ) → length s ≤ n → part 0 n s ≡ s
unfolding part
part-whole n s h = take_all n s h

-- two parts, one behind the other
pub part-add : (a n k b : ℕ) (s : List ℕ) → b ≡ a + n → part a n s ++ part b k s ≡ part a (n + k) s
unfolding part
part-add a n k b s e = rw e (ap (λ (r : List ℕ). take n (drop a s) ++ take k r) (sym (drop-drop n a s)) ∙ sym (take-add n k (drop a s)))

-- a part of what was written
pub part-within : (s : List ℕ) (at : ℕ) (ys : List ℕ) (j n : ℕ) → j + n ≤ length ys → at + length ys ≤ length s → part (at + j) n (splice s at ys) ≡ part j n ys
part-within s at ys j n h l = sym (part-of-part at (length ys) j n (splice s at ys) h) ∙ ap (part j n) (part-of-splice s at ys l)

-- bytes that are all 0 are zeros
pub zeros-are : (s : List ℕ) → all_zero s ≡ true → s ≡ zeros (length s)
unfolding all_zero
zeros-are [] e = refl
zeros-are (x ∷ s) e =
    ap₂ (λ (k : ℕ) (r : List ℕ). k ∷ r) (eqb-true x 0 (and_left (eqb x 0) (all_zero s) e)) (zeros-are s (and_right (eqb x 0) (all_zero s) e))
