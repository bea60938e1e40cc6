-- The table of cursors, and what is found there after one slot was stored.
-- Assumes nothing.
use mathlib.Core.Path.{◌≡◌, refl, sym, ap, ◌∙◌}
use mathlib.Core.Bool.{Bool, true, false}
use mathlib.Core.List.{List, [], ◌∷◌}
use Prim.Native.Nat.{ℕ, zero, suc, ◌+◌, ◌≤◌, ◌<◌}
use native.Mathlib.Omega.{arith}
use native.Mathlib.Nat.{not-suc-le-zero, le_of_suc-le-suc}
use lib.Dec.{ltb}
use lib.ListN.{length, get_or, set, replicate}
use Rattle.le.proofs.TestLaws.{Tested, passes, fails, tested}
use Rattle.card.specs.Pick.{only}
use Rattle.weave.specs.Table.{slot_place}
use Rattle.weave.proofs.SumLaws.{leb-same}

-- a test as a number
abbrev pub one : Bool → ℕ
one true = 1
one false = 0

one-most : (b : Bool) → one b ≤ 1
one-most true = omega arith
one-most false = omega arith

module _ {A : Type 0} (p : A → Bool) (d : A) where
  -- ---- how many pass

  abbrev pub many : List A → ℕ
  many xs = length (only p xs)

  pub many-pass : (x : A) (xs : List A) → p x ≡ true → many (x ∷ xs) ≡ suc (many xs)
  unfolding only
  many-pass x xs e = rw e

  pub many-fail : (x : A) (xs : List A) → p x ≡ false → many (x ∷ xs) ≡ many xs
  unfolding only
  many-fail x xs e = rw e

  pub many-alike : (n : ℕ) (x : A) → p x ≡ false → many (replicate n x) ≡ 0
  unfolding only
  many-alike zero x e = refl
  many-alike (suc n) x e = many-fail x (replicate n x) e ∙ many-alike n x e

  pub many-tail : (x : A) (xs : List A) → many xs ≤ many (x ∷ xs)
  many-tail x xs = go (tested (p x))
    where
      go : Tested (p x) → many xs ≤ many (x ∷ xs)
      go (passes e) = rw (many-pass x xs e) (omega arith)
      go (fails e) = rw (many-fail x xs e) (omega arith)

  many-cons : (x : A) (xs ys : List A) → many xs ≤ many ys → many (x ∷ xs) ≤ many (x ∷ ys)
  many-cons x xs ys h = go (tested (p x))
    where
      go : Tested (p x) → many (x ∷ xs) ≤ many (x ∷ ys)
      go (passes e) = rw (many-pass x xs e, many-pass x ys e) (omega arith)
      go (fails e) = rw (many-fail x xs e, many-fail x ys e) h

  -- storing one that fails leaves no more
  pub stored-fewer : (xs : List A) (i : ℕ) (y : A) → p y ≡ false → many (set xs i y) ≤ many xs
  stored-fewer [] i y e = omega arith
  stored-fewer (x ∷ xs) zero y e = rw (many-fail y xs e) (many-tail x xs)
  stored-fewer (x ∷ xs) (suc i) y e = many-cons x (set xs i y) xs (stored-fewer xs i y e)

  -- storing one leaves at most one more
  pub stored_more : (xs : List A) (i : ℕ) (y : A) → many (set xs i y) ≤ suc (many xs)
  stored_more [] i y = omega arith
  stored_more (x ∷ xs) zero y = go (tested (p y))
    where
      go : Tested (p y) → many (y ∷ xs) ≤ suc (many (x ∷ xs))
      go (passes q) = rw (many-pass y xs q) (omega (arith, many-tail x xs))
      go (fails q) = rw (many-fail y xs q) (omega (arith, many-tail x xs))
  stored_more (x ∷ xs) (suc i) y = go (tested (p x)) (stored_more xs i y)
    where
      go : Tested (p x) → many (set xs i y) ≤ suc (many xs) → many (x ∷ set xs i y) ≤ suc (many (x ∷ xs))
      go (passes q) ih = rw (many-pass x (set xs i y) q, many-pass x xs q) (omega arith)
      go (fails q) ih = rw (many-fail x (set xs i y) q, many-fail x xs q) ih

  -- how many pass after one was stored, to a hair
  pub many-first : (x : A) (xs : List A) → many (x ∷ xs) ≡ one (p x) + many xs
  many-first x xs = go (tested (p x))
    where
      go : Tested (p x) → many (x ∷ xs) ≡ one (p x) + many xs
      go (passes e) = rw e (omega (arith, many-pass x xs e))
      go (fails e) = rw e (omega (arith, many-fail x xs e))

  pub stored-many : (xs : List A) (i : ℕ) (y : A) → i < length xs → many (set xs i y) + one (p (get_or xs i d)) ≡ many xs + one (p y)
  stored-many [] i y h = absurd (not-suc-le-zero h)
  stored-many (x ∷ xs) zero y h = omega (arith, many-first x xs, many-first y xs)
  stored-many (x ∷ xs) (suc i) y h = omega (arith, stored-many xs i y (le_of_suc-le-suc h), many-first x xs, many-first x (set xs i y))

  -- storing one where one passed leaves no more
  pub stored_same : (xs : List A) (i : ℕ) (y : A) → i < length xs → p (get_or xs i d) ≡ true → many (set xs i y) ≤ many xs
  stored_same xs i y h e = omega (arith, stored-many xs i y h, ap one e, one-most (p y))

  -- ---- where the first is that passes

  place-pass : (x : A) (xs : List A) → p x ≡ true → slot_place p (x ∷ xs) ≡ 0
  unfolding slot_place
  place-pass x xs e = rw e

  place-fail : (x : A) (xs : List A) → p x ≡ false → slot_place p (x ∷ xs) ≡ suc (slot_place p xs)
  unfolding slot_place
  place-fail x xs e = rw e

  -- none passes: the place is behind the end
  pub place_none : (xs : List A) → many xs ≡ 0 → length xs ≤ slot_place p xs
  unfolding slot_place
  place_none [] e = omega arith
  place_none (x ∷ xs) e = go (tested (p x)) (place_none xs)
    where
      go : Tested (p x) → (many xs ≡ 0 → length xs ≤ slot_place p xs) → suc (length xs) ≤ slot_place p (x ∷ xs)
      go (passes q) ih = absurd (omega (arith, many-pass x xs q))
      go (fails q) ih = rw (place-fail x xs q) (omega (arith, ih (sym (many-fail x xs q) ∙ e)))

  -- one is found exactly when one passes
  pub place-some : (xs : List A) → 1 ≤ many xs → slot_place p xs < length xs
  unfolding only
  place-some [] h = absurd (not-suc-le-zero h)
  place-some (x ∷ xs) h = go (tested (p x)) (place-some xs)
    where
      go : Tested (p x) → (1 ≤ many xs → slot_place p xs < length xs) → slot_place p (x ∷ xs) < suc (length xs)
      go (passes q) ih = rw (place-pass x xs q) (omega arith)
      go (fails q) ih = rw (place-fail x xs q) (omega (arith, ih (rw (many-fail x xs q) at h)))

  pub found-exactly : (xs : List A) → ltb (slot_place p xs) (length xs) ≡ ltb 0 (many xs)
  found-exactly xs = leb-same (suc (slot_place p xs)) (length xs) 1 (many xs) (λ h. go (many xs) refl h) (place-some xs)
    where
      go : (n : ℕ) → many xs ≡ n → slot_place p xs < length xs → 1 ≤ many xs
      go zero q h = absurd (omega (arith, place_none xs q))
      go (suc n) q h = omega arith

  -- the one that is found passes
  pub place-passes : (xs : List A) → slot_place p xs < length xs → p (get_or xs (slot_place p xs) d) ≡ true
  unfolding slot_place
  place-passes [] h = absurd (not-suc-le-zero h)
  place-passes (x ∷ xs) h = go (tested (p x)) (place-passes xs)
    where
      go : Tested (p x) → (slot_place p xs < length xs → p (get_or xs (slot_place p xs) d) ≡ true) → p (get_or (x ∷ xs) (slot_place p (x ∷ xs)) d) ≡ true
      go (passes q) ih = rw (place-pass x xs q) q
      go (fails q) ih = rw (place-fail x xs q) (ih (le_of_suc-le-suc (rw (place-fail x xs q) at h)))

  -- storing one that fails, where one failed, is not seen
  module _ (y : A) (e : p y ≡ false) where
    pub place_kept : (xs : List A) (i : ℕ) → (i < length xs → p (get_or xs i d) ≡ false) → slot_place p (set xs i y) ≡ slot_place p xs
    place_kept [] i q = refl
    place_kept (x ∷ xs) zero q = place-fail y xs e ∙ sym (place-fail x xs (q (omega arith)))
    place_kept (x ∷ xs) (suc i) q = go (tested (p x)) (place_kept xs i (λ h. q (omega arith)))
      where
        go : Tested (p x) → slot_place p (set xs i y) ≡ slot_place p xs → slot_place p (x ∷ set xs i y) ≡ slot_place p (x ∷ xs)
        go (passes t) ih = place-pass x (set xs i y) t ∙ sym (place-pass x xs t)
        go (fails t) ih = place-fail x (set xs i y) t ∙ ap suc ih ∙ sym (place-fail x xs t)

    pub got_kept : (xs : List A) (i : ℕ) → (i < length xs → p (get_or xs i d) ≡ false) → get_or (set xs i y) (slot_place p xs) d ≡ get_or xs (slot_place p xs) d
    got_kept [] i q = refl
    got_kept (x ∷ xs) zero q = rw (place-fail x xs (q (omega arith)))
    got_kept (x ∷ xs) (suc i) q = go (tested (p x)) (got_kept xs i (λ h. q (omega arith)))
      where
        go : Tested (p x) → get_or (set xs i y) (slot_place p xs) d ≡ get_or xs (slot_place p xs) d → get_or (x ∷ set xs i y) (slot_place p (x ∷ xs)) d ≡ get_or (x ∷ xs) (slot_place p (x ∷ xs)) d
        go (passes t) ih = rw (place-pass x xs t)
        go (fails t) ih = rw (place-fail x xs t) ih

    -- storing it over the one that is found: there is one fewer
    pub stored-gone : (xs : List A) → slot_place p xs < length xs → many (set xs (slot_place p xs) y) + 1 ≡ many xs
    stored-gone xs h = omega (arith, stored-many xs (slot_place p xs) y h, ap one (place-passes xs h), ap one e)

  -- storing one that passes over the one that is found
  module _ (y : A) (e : p y ≡ true) where
    pub place_same : (xs : List A) → slot_place p xs < length xs → slot_place p (set xs (slot_place p xs) y) ≡ slot_place p xs
    unfolding slot_place
    place_same [] h = absurd (not-suc-le-zero h)
    place_same (x ∷ xs) h = go (tested (p x)) (place_same xs)
      where
        go : Tested (p x) → (slot_place p xs < length xs → slot_place p (set xs (slot_place p xs) y) ≡ slot_place p xs) → slot_place p (set (x ∷ xs) (slot_place p (x ∷ xs)) y) ≡ slot_place p (x ∷ xs)
        go (passes t) ih = rw (place-pass x xs t) (place-pass y xs e)
        go (fails t) ih = rw (place-fail x xs t) (place-fail x (set xs (slot_place p xs) y) t ∙ ap suc (ih (le_of_suc-le-suc (rw (place-fail x xs t) at h))))

  -- storing one that passes where none did
  pub place-new : (xs : List A) (i : ℕ) (y : A) → many xs ≡ 0 → p y ≡ true → i < length xs → slot_place p (set xs i y) ≡ i
  place-new [] i y n e h = absurd (not-suc-le-zero h)
  place-new (x ∷ xs) zero y n e h = place-pass y xs e
  place-new (x ∷ xs) (suc i) y n e h = go (tested (p x)) (place-new xs i y)
    where
      go : Tested (p x) → (many xs ≡ 0 → p y ≡ true → i < length xs → slot_place p (set xs i y) ≡ i) → slot_place p (x ∷ set xs i y) ≡ suc i
      go (passes t) ih = absurd (omega (arith, many-pass x xs t))
      go (fails t) ih = place-fail x (set xs i y) t ∙ ap suc (ih (sym (many-fail x xs t) ∙ n) e (le_of_suc-le-suc h))

-- what was stored is there
pub got-stored : {A : Type 0} (xs : List A) (i : ℕ) (y d : A) → i < length xs → get_or (set xs i y) i d ≡ y
got-stored [] i y d h = absurd (not-suc-le-zero h)
got-stored (x ∷ xs) zero y d h = refl
got-stored (x ∷ xs) (suc i) y d h = got-stored xs i y d (le_of_suc-le-suc h)

pub length-stored : {A : Type 0} (xs : List A) (i : ℕ) (y : A) → length (set xs i y) ≡ length xs
length-stored [] i y = refl
length-stored (x ∷ xs) zero y = refl
length-stored (x ∷ xs) (suc i) y = ap suc (length-stored xs i y)
