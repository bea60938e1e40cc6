-- The laws of `no_control`: that it is the library's `all`, and a step of it, whose `all` is what the whole input gives; which bytes a good text never has; and the two rules for topics.
-- Assumes nothing.
use mathlib.Core.Path.{◌≡◌, refl, sym, ap, ◌∙◌}
use mathlib.Core.Bool.{Bool, true, false, true≢false, ◌&&◌}
use mathlib.Core.List.{List, [], ◌∷◌, Memᴰ}
use Prim.Native.Nat.{ℕ, ◌+◌, ◌≤◌, ◌<◌}
use native.Mathlib.Omega.{arith}
use borrow.Author.Tests.{ne_eqb}
use Rattle.std.specs.List.{list_all}
use lib.Dec.{leb}
use lib.ListN.{length, get_or, drop, drop_of_length-le}
use Rattle.le.proofs.SpliceLaws.{drop_head}
use Rattle.le.proofs.TestLaws.{and_left, and_right, and_both, and-no-right, and-on}
use Rattle.text.specs.declared.topic.Rule.{Rule}
use Rattle.text.specs.declared.topic.Rule.TheVariants.{Called, Kept}
use Rattle.text.specs.Utf8.{utf8}
use Rattle.text.specs.Topic.{may_stand, no_control, good_text}

pub all-stand : (rule : Rule) (s : List ℕ) → list_all (may_stand rule) s ≡ no_control rule s
unfolding no_control
all-stand rule [] = refl
all-stand rule (b ∷ s) = ap (λ (r : Bool). may_stand rule b && r) (all-stand rule s)

module _ (rule : Rule) (s : List ℕ) (i : ℕ) (all : Bool) where
  pub control-turn : i < length s → may_stand rule (get_or s i 0) ≡ true → no_control rule (drop i s) ≡ all → no_control rule (drop (i + 1) s) ≡ all
  unfolding no_control
  control-turn h l inv = rw (drop_head s i (i + 1) h (omega arith), l) at inv

  pub control-end : length s ≤ i → no_control rule (drop i s) ≡ all → true ≡ all
  unfolding no_control
  control-end h inv = rw (drop_of_length-le s h) at inv

-- a text with a byte that may not stand there is not good
control-among : (rule : Rule) (b : ℕ) → may_stand rule b ≡ false → (s : List ℕ) → Memᴰ b s → no_control rule s ≡ false
unfolding no_control
control-among rule b n [] x' = elim x' [ ]
control-among rule b n (x ∷ s) (Memᴰ.head e) = rw (← e, n)
control-among rule b n (x ∷ s) (Memᴰ.tail m) = and-no-right (may_stand rule x) _ (control-among rule b n s m)

pub never-good : (rule : Rule) (b : ℕ) → may_stand rule b ≡ false → (least most : ℕ) (s : List ℕ) → Memᴰ b s → good_text rule least most s ≡ false
unfolding good_text
never-good rule b n least most s m =
    and-no-right (leb least (length s)) _ (and-no-right (leb (length s) most) _ (and-no-right (utf8 s) _ (control-among rule b n s m)))

-- so none of a call or a grant has byte 127
pub good-no-del : (least most : ℕ) (s : List ℕ) → good_text Called least most s ≡ true → Memᴰ 127 s → ⊥
good-no-del least most s e m = true≢false (sym e ∙ never-good Called 127 refl least most s m)

-- what a call may write, a card may hold; and the other way round, where byte 127 is not in it
called-stands : (s : List ℕ) → no_control Called s ≡ true → no_control Kept s ≡ true
unfolding no_control
called-stands [] e = refl
called-stands (b ∷ s) e =
    and_both (leb 32 b) _ (and_left (leb 32 b) _ (and_left (may_stand Called b) _ e)) (called-stands s (and_right (may_stand Called b) _ e))

kept-stands : (s : List ℕ) → (Memᴰ 127 s → ⊥) → no_control Kept s ≡ true → no_control Called s ≡ true
unfolding no_control
kept-stands [] n e = refl
kept-stands (b ∷ s) n e =
    and_both (may_stand Called b) _ (rw (and_left (leb 32 b) _ e, ne_eqb b 127 (λ q. n (Memᴰ.head (sym q)))))
    (kept-stands s (λ m. n (Memᴰ.tail m)) (and_right (leb 32 b) _ e))

module _ (least most : ℕ) (s : List ℕ) where
  good-on : (a b : Rule) → (no_control a s ≡ true → no_control b s ≡ true) → good_text a least most s ≡ true → good_text b least most s ≡ true
  unfolding good_text
  good-on a b f = and-on (leb least (length s)) _ _ (and-on (leb (length s) most) _ _ (and-on (utf8 s) _ _ f))

  pub called-kept : good_text Called least most s ≡ true → good_text Kept least most s ≡ true
  called-kept = good-on Called Kept (called-stands s)

  pub kept-called : (Memᴰ 127 s → ⊥) → good_text Kept least most s ≡ true → good_text Called least most s ≡ true
  kept-called n = good-on Kept Called (kept-stands s n)
