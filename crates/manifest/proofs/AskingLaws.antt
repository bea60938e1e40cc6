-- The laws that questions ask for: one grant by the tests that `Grant::gives` makes, and the loop of `granted`.
-- Assumes nothing.
use mathlib.Core.Path.{◌≡◌, sym, ap, ◌∙◌}
use mathlib.Core.Bool.{Bool, true, false, not, ◌&&◌, beq}
use mathlib.Core.List.{List, ◌∷◌, map}
use Prim.Native.Nat.{ℕ, ◌+◌, ◌≤◌, ◌<◌}
use native.Mathlib.Numerals.{add-one}
use native.Mathlib.Omega.{arith}
use borrow.Author.Tests.{eq-eqb, ne_eqb, not-true, not-false}
use lib.ListN.{length, get_or, take, drop, length-take, drop_of_length-le}
use lib.Seq.{drop-cons, get_or-take}
use Rattle.le.specs.Splice.{part}
use Rattle.text.specs.Compare.{same_bytes}
use Rattle.text.specs.Words.{core_topic}
use Rattle.manifest.specs.declared.grant.Grant.{Grant}
use Rattle.manifest.specs.declared.Manifest.{Manifest}
use Rattle.manifest.specs.Rights.{gives, any_gives, granted}
use Rattle.manifest.specs.Places.{right_at, rights_of}

-- ---- one grant

module _ (g : Grant) (text : List ℕ) (k : ℕ) (out : Bool) (topic : List ℕ) where
  pub other-module : (g.holder ≡ k → ⊥) → false ≡ gives (right_at text g) k out topic
  unfolding gives right_at
  other-module h = rw (ne_eqb g.holder k h)

  module _ (h : g.holder ≡ k) where
    pub other_way : not (beq g.out out) ≡ true → false ≡ gives (right_at text g) k out topic
    unfolding gives right_at
    other_way q = rw (eq-eqb g.holder k h, not-true (beq g.out out) q)

    pub topic-asked : not (beq g.out out) ≡ false → (t : List ℕ) → t ≡ part g.start g.len text → (b : Bool) → b ≡ same_bytes t topic
        → b ≡ gives (right_at text g) k out topic
    unfolding gives right_at
    topic-asked q t et b eb = rw (eq-eqb g.holder k h, not-false (beq g.out out) q, ← et) eb

-- ---- grant by grant: the grants from i on give what all of them give

pub record Asking (gs : List Grant) (text : List ℕ) (k : ℕ) (out : Bool) (topic : List ℕ) (i : ℕ) : Type 0 where
  pub same : any_gives (map (right_at text) (drop i gs)) k out topic ≡ granted (map (right_at text) gs) k out topic

module _ (gs : List Grant) (text : List ℕ) (k : ℕ) (out : Bool) (topic : List ℕ) where
  pub asking-core : (b : Bool) → b ≡ core_topic topic → (out && b) ≡ true → true ≡ granted (map (right_at text) gs) k out topic
  unfolding granted
  asking-core b e q = rw (← e, q)

  pub asking-start : (b : Bool) → b ≡ core_topic topic → (out && b) ≡ false → Asking gs text k out topic 0
  unfolding granted
  asking-start b e q = record { same = rw (← e, q) }

  module _ (i : ℕ) (w : Asking gs text k out topic i) where
    pub asking-end : length gs ≤ i → false ≡ granted (map (right_at text) gs) k out topic
    unfolding any_gives
    asking-end h = rw (drop_of_length-le gs h) at w.same

    -- the grant at i, and those behind it
    module _ (h : i < length gs) (d : Grant) (b : Bool) (e : b ≡ gives (right_at text (get_or gs i d)) k out topic) where
      next : drop i gs ≡ get_or gs i d ∷ drop (i + 1) gs
      next = drop-cons gs i d h ∙ ap (λ (j : ℕ). get_or gs i d ∷ drop j gs) (sym (add-one i))

      pub asking-yes : b ≡ true → true ≡ granted (map (right_at text) gs) k out topic
      unfolding any_gives
      asking-yes q = rw (next, ← e, q) at w.same

      pub asking-no : b ≡ false → Asking gs text k out topic (i + 1)
      unfolding any_gives
      asking-no q = record { same = rw (next, ← e, q) at w.same }
