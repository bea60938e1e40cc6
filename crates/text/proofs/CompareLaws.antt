-- The laws of `prefix_of` and `same_bytes`: that they are the library's, that short texts are the same by their ends, and what they say.
-- Assumes nothing.
use mathlib.Core.Path.{◌≡◌, refl, sym, ap, ap₂, ◌∙◌}
use mathlib.Core.Bool.{Bool, true, false, ◌&&◌}
use mathlib.Core.List.{List, [], ◌∷◌}
use Prim.Native.Nat.{ℕ, zero, suc, ◌+◌, ◌-◌, ◌*◌, ◌≤◌}
use native.Mathlib.Nat.{add-zero, zero-add}
use native.Mathlib.Omega.{arith}
use borrow.Author.Tests.{eq-eqb, ne_eqb, eqb-true}
use lib.Dec.{eqb}
use Rattle.std.specs.Bool.{Decides}
use Rattle.std.proofs.lemmas.Slice.Eq.{compares_Decides}
use borrow.Author.Rules.{rules}
use Rattle.std.specs.Cmp.Lexicographic.{pointwise}
use lib.ListN.{length, take, drop, drop_of_length-le, length-take, length-drop}
use lib.Seq.{drop-drop}
use Rattle.le.specs.Le.{Bytes, le_at}
use Rattle.le.proofs.SpliceLaws.{drop_head}
use Rattle.le.proofs.OnceLaws.{asked-at-once, same_word, same-by-bytes}
use Rattle.le.proofs.TestLaws.{and_left, and_right, and-no-right, and_assoc}
use Rattle.text.specs.Compare.{prefix_of, same_bytes}

-- ---- what the library's comparisons say

pub same-pointwise : (a b : List ℕ) → pointwise eqb a b ≡ same_bytes a b
unfolding same_bytes
same-pointwise [] [] = refl
same-pointwise [] (y ∷ b) = refl
same-pointwise (x ∷ a) [] = refl
same-pointwise (x ∷ a) (y ∷ b) = ap (λ (r : Bool). eqb x y && r) (same-pointwise a b)

pub prefix-pointwise : (f t : List ℕ) → pointwise eqb f (take (length f) t) ≡ prefix_of f t
unfolding prefix_of
prefix-pointwise [] t = refl
prefix-pointwise (x ∷ f) [] = refl
prefix-pointwise (x ∷ f) (y ∷ t) = ap (λ (r : Bool). eqb x y && r) (prefix-pointwise f t)

-- ---- short texts, by their ends

-- two texts of one length are the same where one is a prefix of the other
pub same-prefix : (a b : List ℕ) → length a ≡ length b → prefix_of a b ≡ same_bytes a b
unfolding prefix_of same_bytes
same-prefix [] [] h = refl
same-prefix [] (y ∷ b) h = absurd (omega arith)
same-prefix (x ∷ a) [] h = absurd (omega arith)
same-prefix (x ∷ a) (y ∷ b) h = ap (λ (r : Bool). eqb x y && r) (same-prefix a b (omega arith))

-- behind as many bytes of each, a prefix is one still
prefix-on : (d : ℕ) (f t : List ℕ) → prefix_of f t ≡ true → prefix_of (drop d f) (drop d t) ≡ true
unfolding prefix_of
prefix-on zero f t e = e
prefix-on (suc d) [] t e = refl
prefix-on (suc d) (x ∷ f) [] e = let z : ◌≡◌ {A = ℕ} 0 1 = cc in absurd (omega arith)
prefix-on (suc d) (x ∷ f) (y ∷ t) e = prefix-on d f t (and_right (eqb x y) (prefix_of f t) e)

-- of the ends x and y, the whole, and what stands behind each end's begin
ends-decide : (x y whole behind last : Bool) → whole ≡ x && behind → last ≡ y → (last ≡ true → behind ≡ true) → (whole ≡ true → last ≡ true) → x && y ≡ whole
ends-decide true true whole behind last p q back on = sym (p ∙ back q)
ends-decide true false true behind last p q back on = let z : ◌≡◌ {A = Bool} true false = sym (on refl) ∙ q in sym z
ends-decide true false false behind last p q back on = refl
ends-decide false y whole behind last p q back on = sym p

-- what is so of a text is so of its first k bytes and of the rest
prefix-parts : (k : ℕ) (f t : List ℕ) → length f ≡ length t → prefix_of f t ≡ prefix_of (take k f) (take k t) && prefix_of (drop k f) (drop k t)
unfolding prefix_of
prefix-parts zero f t h = refl
prefix-parts (suc k) [] [] h = refl
prefix-parts (suc k) [] (y ∷ t) h = absurd (omega arith)
prefix-parts (suc k) (x ∷ f) [] h = absurd (omega arith)
prefix-parts (suc k) (x ∷ f) (y ∷ t) h =
    ap (λ (r : Bool). eqb x y && r) (prefix-parts k f t (omega arith)) ∙ sym (and_assoc (eqb x y) (prefix_of (take k f) (take k t)) (prefix_of (drop k f) (drop k t)))

-- by the first k bytes and what stands from e on, which may share bytes
pub by-halves : (f t : List ℕ) (k e : ℕ) → length f ≡ length t → e ≤ k
    → same_bytes (take k f) (take k t) && same_bytes (drop e f) (drop e t) ≡ same_bytes f t
by-halves f t k e same over =
    let back : e + (k - e) ≡ k = omega arith in
    let lower : length (take k f) ≡ length (take k t) = rw (length-take k f, length-take k t, same) refl in
    let upper : length (drop e f) ≡ length (drop e t) = rw (length-drop e f, length-drop e t, same) refl in
    ap₂ (λ (x y : Bool). x && y) (sym (same-prefix (take k f) (take k t) lower)) (sym (same-prefix (drop e f) (drop e t) upper))
    ∙ ends-decide (prefix_of (take k f) (take k t)) (prefix_of (drop e f) (drop e t)) (prefix_of f t) (prefix_of (drop k f) (drop k t)) (prefix_of (drop e f) (drop e t))
    (prefix-parts k f t same)
    refl
    (λ q. rw back at (rw (drop-drop (k - e) e f, drop-drop (k - e) e t) at (prefix-on (k - e) (drop e f) (drop e t) q)))
    (prefix-on e f t)
    ∙ same-prefix f t same

and-true : (b : Bool) → b && true ≡ b
and-true true = refl
and-true false = refl

module _ (w : ℕ) (f t : List ℕ) (hf : Bytes f) (ht : Bytes t) where
  -- w bytes of both at once
  at_once : (i : ℕ) → i + w ≤ length f → i + w ≤ length t
      → prefix_of (drop i f) (drop i t) ≡ eqb (le_at w f i) (le_at w t i) && prefix_of (drop (i + w) f) (drop (i + w) t)
  unfolding prefix_of
  at_once i h k =
      rw (add-zero i) at (asked-at-once eqb same_word same-by-bytes f t hf ht w i i (λ j. prefix_of (drop (i + j) f) (drop (i + j) t))
      (λ j l. rw (drop_head f (i + j) (i + suc j) (omega arith) (omega arith), drop_head t (i + j) (i + suc j) (omega arith) (omega arith))))

  module _ (same : length f ≡ length t) (least : w ≤ length f) (most : length f ≤ 2 * w) (k : ℕ) (is : k ≡ length f - w) where
    by-ends : eqb (le_at w f 0) (le_at w t 0) && eqb (le_at w f k) (le_at w t k) ≡ same_bytes f t
    unfolding prefix_of
    by-ends =
        let back : k + (w - k) ≡ w = omega arith in
        ends-decide (eqb (le_at w f 0) (le_at w t 0)) (eqb (le_at w f k) (le_at w t k)) (prefix_of f t) (prefix_of (drop w f) (drop w t)) (prefix_of (drop k f) (drop k t))
        (rw (zero-add w) at (at_once 0 (omega arith) (omega arith)))
        (at_once k (omega arith) (omega arith) ∙ rw (drop_of_length-le f {i = k + w} (omega arith)) (and-true _))
        (λ e. rw back at (rw (drop-drop (w - k) k f, drop-drop (w - k) k t) at (prefix-on (w - k) (drop k f) (drop k t) e)))
        (prefix-on k f t)
        ∙ same-prefix f t same

    pub front_same : le_at w f 0 ≡ le_at w t 0 → eqb (le_at w f k) (le_at w t k) ≡ same_bytes f t
    front_same e = rw (eq-eqb (le_at w f 0) (le_at w t 0) e) at by-ends

    pub front-differs : (le_at w f 0 ≡ le_at w t 0 → ⊥) → false ≡ same_bytes f t
    front-differs e = rw (ne_eqb (le_at w f 0) (le_at w t 0) e) at by-ends

-- ---- for callers: what the answers say

pub same-length-differs : (a b : List ℕ) → (length a ≡ length b → ⊥) → same_bytes a b ≡ false
unfolding same_bytes
same-length-differs [] [] h = absurd (h refl)
same-length-differs [] (y ∷ b) h = refl
same-length-differs (x ∷ a) [] h = refl
same-length-differs (x ∷ a) (y ∷ b) h = rw (same-length-differs a b (λ e. h (ap suc e))) (and-no-right (eqb x y) false refl)

same-decides : (a b : List ℕ) → Decides (same_bytes a b) (a ≡ b)
unfolding same_bytes
same-decides = compares_Decides same_bytes (search rules)

pub same_true : (a b : List ℕ) → same_bytes a b ≡ true → a ≡ b
same_true a b e = (same-decides a b).0 e

pub same_refl : (a : List ℕ) → same_bytes a a ≡ true
same_refl a = (same-decides a a).1 refl

pub prefix-true : (f t : List ℕ) → prefix_of f t ≡ true → take (length f) t ≡ f
unfolding prefix_of
prefix-true [] t e = refl
prefix-true (x ∷ f) [] e = let z : ◌≡◌ {A = ℕ} 0 1 = cc in absurd (omega arith)
prefix-true (x ∷ f) (y ∷ t) e =
    ap₂ (λ (k : ℕ) (r : List ℕ). k ∷ r) (sym (eqb-true x y (and_left (eqb x y) (prefix_of f t) e))) (prefix-true f t (and_right (eqb x y) (prefix_of f t) e))

pub same-sym : (a b : List ℕ) → same_bytes a b ≡ same_bytes b a
same-sym a b = go (same_bytes a b) refl (same_bytes b a) refl
  where
    go : (x : Bool) → same_bytes a b ≡ x → (y : Bool) → same_bytes b a ≡ y → x ≡ y
    go true e true f = refl
    go true e false f = sym (same_refl b) ∙ ap (same_bytes b) (sym (same_true a b e)) ∙ f
    go false e true f = sym e ∙ ap (same_bytes a) (same_true b a f) ∙ same_refl a
    go false e false f = refl
