-- The laws of `le_at` and `le_bytes`, over the width.
-- Assumes nothing.
use mathlib.Core.Path.{◌≡◌, refl, sym, ap, ap₂, ◌∙◌}
use mathlib.Core.List.{List, [], ◌∷◌, ◌++◌}
use Prim.Native.Nat.{ℕ, zero, suc, ◌+◌, ◌*◌, ◌/◌, ◌%◌, ◌^◌, ◌≤◌, ◌<◌, suc-le-suc}
use native.Mathlib.Nat.{pow-suc, pow-le-pow_right, lt_of_lt_of_le, le_of_suc-le-suc, not-suc-le-zero, zero-lt-suc, add-zero, add-suc, suc-add, add_assoc, mul-suc, mul_assoc}
use native.Mathlib.Numerals.{add-one}
use native.Mathlib.Omega.{arith}
use lib.ListN.{length, get_or, take, drop, get_or-append}
use lib.Seq.{get_or-take, get_or-drop, get_or-append-add}
use lib.Dec.{lit<}
use lib.Pow.{pow-add, shl_exact}
use Rattle.le.specs.Splice.{splice, part}
use Rattle.le.proofs.SpliceLaws.{get_or-splice-before, get_or-splice-in, get_or-splice-after, part_none, part-head}
use Rattle.le.specs.Le.{Bytes, le_at, le_bytes}

-- a number of w bytes is below 256 ^ w
pub le_at-lt : (w : ℕ) (s : List ℕ) (at : ℕ) → Bytes s → le_at w s at < 256 ^ w
unfolding le_at
le_at-lt zero s at h = lit< tt
le_at-lt (suc w) s at h =
    let ih : le_at w s (suc at) < 256 ^ w = le_at-lt w s (suc at) h in
    rw (pow-suc 256 w) (omega (arith, h at))

-- one of w bytes, w at most n, is below 256 ^ n
pub le_at-below : (n w : ℕ) (s : List ℕ) (at : ℕ) → Bytes s → w ≤ n → le_at w s at < 256 ^ n
le_at-below n w s at h l = lt_of_lt_of_le (le_at-lt w s at h) (pow-le-pow_right (lit< tt) l)

-- 0 is
pub zero-fits : (w : ℕ) → 0 < 256 ^ w
zero-fits w = let l : 0 ≤ w = omega arith in pow-le-pow_right (lit< tt) l

-- one byte more, in its place above the others
le_at-next : (w : ℕ) (s : List ℕ) (at : ℕ) → le_at (suc w) s at ≡ le_at w s at + get_or s (at + w) 0 * 2 ^ (8 * w)
unfolding le_at
le_at-next zero s at = rw (add-zero at) (omega arith)
le_at-next (suc w) s at =
    let p : 2 ^ (8 * suc w) ≡ 2 ^ (8 * w) * 256 = ap (λ (k : ℕ). 2 ^ k) (mul-suc 8 w) ∙ pow-add 2 (8 * w) 8 in
    let b = get_or s (suc (at + w)) 0 in
    let ih : le_at (suc w) s (suc at) ≡ le_at w s (suc at) + b * 2 ^ (8 * w) = rw (suc-add at w) at (le_at-next w s (suc at)) in
    rw (p, add-suc at w) (omega (arith, ih, mul_assoc b (2 ^ (8 * w)) 256))

-- a turn of the loop that reads the byte b: of eight bytes none is shifted out
pub le_at-turn : (i at : ℕ) (s : List ℕ) (v b : ℕ) → Bytes s → i < 8 → v ≡ le_at i s at → b ≡ get_or s (at + i) 0 → v + (b * 2 ^ (8 * i)) % 2 ^ 64 ≡ le_at (i + 1) s at
le_at-turn i at s v b h l e q =
    rw q (rw (shl_exact {a = get_or s (at + i) 0} 8 (8 * i) 64 (omega (arith, h (at + i))) (omega arith), e, add-one i) (sym (le_at-next i s at)))

-- ---- writing

pub le_bytes-cons : (w m v : ℕ) → w ≡ suc m → le_bytes w v ≡ v % 256 ∷ le_bytes m (v / 256)
unfolding le_bytes
le_bytes-cons w m v e = rw e

pub le_bytes-none : (w v : ℕ) → w ≡ 0 → le_bytes w v ≡ []
unfolding le_bytes
le_bytes-none w v e = rw e

pub length-le_bytes : (w v : ℕ) → length (le_bytes w v) ≡ w
unfolding le_bytes
length-le_bytes zero v = refl
length-le_bytes (suc w) v = ap suc (length-le_bytes w (v / 256))

-- ---- reading goes by the bytes alone

pub le_at-cong : (w : ℕ) (s t : List ℕ) (a b : ℕ) → ((i : ℕ) → i < w → get_or s (a + i) 0 ≡ get_or t (b + i) 0) → le_at w s a ≡ le_at w t b
unfolding le_at
le_at-cong zero s t a b h = refl
le_at-cong (suc w) s t a b h =
    ap₂ (λ (x y : ℕ). x + 256 * y)
    (simp add-zero at (h zero (zero-lt-suc w)))
    (le_at-cong w s t (suc a) (suc b)
    (λ i l. ap (λ (k : ℕ). get_or s k 0) (suc-add a i ∙ sym (add-suc a i)) ∙ h (suc i) (suc-le-suc l) ∙ ap (λ (k : ℕ). get_or t k 0) (add-suc b i ∙ sym (suc-add b i))))

pub le_at-drop : (w : ℕ) (s : List ℕ) (n at : ℕ) → le_at w (drop n s) at ≡ le_at w s (n + at)
le_at-drop w s n at = le_at-cong w (drop n s) s at (n + at) (λ i l. get_or-drop n s (at + i) 0 ∙ ap (λ (k : ℕ). get_or s k 0) (sym (add_assoc n at i)))

pub le_at-take : (w : ℕ) (s : List ℕ) (n at : ℕ) → at + w ≤ n → le_at w (take n s) at ≡ le_at w s at
le_at-take w s n at h = le_at-cong w (take n s) s at at (λ i l. get_or-take n s (at + i) 0 (omega arith))

-- a number inside a part; and a part of its width, read at its head
pub le_at-in-part : (w : ℕ) (s : List ℕ) (a n k : ℕ) → k + w ≤ n → le_at w (part a n s) k ≡ le_at w s (a + k)
unfolding part
le_at-in-part w s a n k h = le_at-take w (drop a s) n k h ∙ le_at-drop w s a k

pub le_at-part : (w : ℕ) (s : List ℕ) (n : ℕ) → le_at w (part n w s) 0 ≡ le_at w s n
le_at-part w s n = le_at-in-part w s n w 0 (omega arith) ∙ ap (le_at w s) (add-zero n)

-- a number in a run of bytes: in its first part, and in its second
pub le_at-left : (w : ℕ) (xs ys : List ℕ) (k : ℕ) → k + w ≤ length xs → le_at w (xs ++ ys) k ≡ le_at w xs k
le_at-left w xs ys k h = le_at-cong w (xs ++ ys) xs k k (λ i l. get_or-append xs ys 0 (k + i) (omega arith))

pub le_at-right : (w : ℕ) (xs ys : List ℕ) (n k j : ℕ) → length xs ≡ n → j ≡ n + k → le_at w (xs ++ ys) j ≡ le_at w ys k
le_at-right w xs ys n k j e ej =
    rw (ej, ← e) (le_at-cong w (xs ++ ys) ys (length xs + k) k
    (λ i l. ap (λ (q : ℕ). get_or (xs ++ ys) q 0) (add_assoc (length xs) k i) ∙ get_or-append-add xs ys (k + i) 0))

-- a number in front of what was written over, behind it, and inside it
pub le_at-splice-before : (w : ℕ) (s : List ℕ) (at : ℕ) (ys : List ℕ) (k : ℕ) → k + w ≤ at → le_at w (splice s at ys) k ≡ le_at w s k
le_at-splice-before w s at ys k h = le_at-cong w (splice s at ys) s k k (λ i l. get_or-splice-before s at ys (k + i) 0 (omega arith))

pub le_at-splice-after : (w : ℕ) (s : List ℕ) (at : ℕ) (ys : List ℕ) (k : ℕ) → at + length ys ≤ k → le_at w (splice s at ys) k ≡ le_at w s k
le_at-splice-after w s at ys k h = le_at-cong w (splice s at ys) s k k (λ i l. get_or-splice-after s at ys (k + i) 0 (omega arith))

pub le_at-splice-in : (w : ℕ) (s : List ℕ) (at : ℕ) (ys : List ℕ) (k : ℕ) → k + w ≤ length ys → at + length ys ≤ length s
    → le_at w (splice s at ys) (at + k) ≡ le_at w ys k
le_at-splice-in w s at ys k h l =
    le_at-cong w (splice s at ys) ys (at + k) k
    (λ i m. ap (λ (j : ℕ). get_or (splice s at ys) j 0) (add_assoc at k i) ∙ get_or-splice-in s at ys (k + i) 0 (omega arith) (omega arith))

-- ---- what was written reads back

pub le_at-cons : (w y : ℕ) (ys : List ℕ) (k : ℕ) → le_at w (y ∷ ys) (suc k) ≡ le_at w ys k
le_at-cons w y ys k = le_at-cong w (y ∷ ys) ys (suc k) k (λ i l. ap (λ (j : ℕ). get_or (y ∷ ys) j 0) (suc-add k i))

pub le_at-le_bytes : (w v : ℕ) → v < 256 ^ w → le_at w (le_bytes w v) 0 ≡ v
unfolding le_at le_bytes
le_at-le_bytes zero v h = let p : 256 ^ 0 ≡ 1 = refl in omega arith
le_at-le_bytes (suc w) v h =
    let h' : v < 256 ^ w * 256 = rw (pow-suc 256 w) at h in
    let e : le_at w (le_bytes (suc w) v) 1 ≡ v / 256 = le_at-cons w (v % 256) (le_bytes w (v / 256)) 0 ∙ le_at-le_bytes w (v / 256) (omega arith) in
    omega (arith, e)

pub le_at-put : (w : ℕ) (s : List ℕ) (at v : ℕ) → v < 256 ^ w → at + w ≤ length s → le_at w (splice s at (le_bytes w v)) at ≡ v
le_at-put w s at v h l =
    ap (le_at w (splice s at (le_bytes w v))) (sym (add-zero at))
    ∙ le_at-splice-in w s at (le_bytes w v) 0 (omega (arith, length-le_bytes w v)) (omega (arith, length-le_bytes w v))
    ∙ le_at-le_bytes w v h

-- numbers written one after the other: the first, and those behind it
pub number-first : (w v : ℕ) (ys : List ℕ) → v < 256 ^ w → le_at w (le_bytes w v ++ ys) 0 ≡ v
number-first w v ys h = le_at-left w (le_bytes w v) ys 0 (omega (arith, length-le_bytes w v)) ∙ le_at-le_bytes w v h

pub number-after : (w n v : ℕ) (ys : List ℕ) (k j : ℕ) → j ≡ n + k → le_at w (le_bytes n v ++ ys) j ≡ le_at w ys k
number-after w n v ys k j e = le_at-right w (le_bytes n v) ys n k j (length-le_bytes n v) e

-- a number read from bytes is written as those bytes
pub le_bytes-le_at : (w : ℕ) (s : List ℕ) (at : ℕ) → Bytes s → at + w ≤ length s → le_bytes w (le_at w s at) ≡ part at w s
unfolding le_at le_bytes
le_bytes-le_at zero s at h l = sym (part_none s at 0 refl)
le_bytes-le_at (suc w) s at h l =
    let b : get_or s at 0 < 256 = omega (arith, h at) in
    let r : (get_or s at 0 + 256 * le_at w s (suc at)) % 256 ≡ get_or s at 0 = omega arith in
    let q : (get_or s at 0 + 256 * le_at w s (suc at)) / 256 ≡ le_at w s (suc at) = omega arith in
    rw (r, q) (ap (λ (t : List ℕ). get_or s at 0 ∷ t) (le_bytes-le_at w s (suc at) h (omega arith))
    ∙ sym (part-head s at (suc w) (suc at) w (omega arith) refl refl))

-- the bytes of a number that was read, whatever stands above them: y
read_above : (n : ℕ) (s : List ℕ) (at y v : ℕ) → v ≡ le_at (suc n) s at + y * 256 ^ suc n → v ≡ get_or s at 0 + 256 * (le_at n s (suc at) + y * 256 ^ n)
unfolding le_at
read_above n s at y v e =
    let p = rw (pow-suc 256 n) at e in
    omega (arith, p, mul_assoc y (256 ^ n) 256)

pub byte-read : (n w : ℕ) (s : List ℕ) (at y v k : ℕ) → Bytes s → v ≡ le_at n s at + y * 256 ^ n → k < n → n ≤ w → get_or (le_bytes w v) k 0 ≡ get_or s (at + k) 0
unfolding le_bytes
byte-read zero w s at y v k h e l m = absurd (not-suc-le-zero l)
byte-read (suc n) zero s at y v k h e l m = absurd (not-suc-le-zero m)
byte-read (suc n) (suc w) s at y v zero h e l m = rw (add-zero at) (omega (arith, read_above n s at y v e, h at))
byte-read (suc n) (suc w) s at y v (suc k) h e l m =
    rw (add-suc at k, ← suc-add at k)
    (byte-read n w s (suc at) y (v / 256) k h (omega (arith, read_above n s at y v e, h at)) (le_of_suc-le-suc l) (le_of_suc-le-suc m))
