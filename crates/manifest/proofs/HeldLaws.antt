-- The laws of the topics that a module may read and list: they are what the text grants it, the loop that puts their places together, and the one that asks.
-- Assumes nothing.
use mathlib.Core.Path.{◌≡◌, refl, sym, ap, ap₂, ◌∙◌}
use mathlib.Core.Bool.{Bool, true, false, ◌||◌}
use mathlib.Core.List.{List, [], ◌∷◌, map}
use Prim.Native.Nat.{ℕ, suc, ◌+◌, ◌-◌, ◌*◌, ◌≤◌, ◌<◌}
use native.Mathlib.Nat.{add-zero, zero-add}
use native.Mathlib.Numerals.{add-one}
use native.Mathlib.Omega.{arith}
use lib.Dec.{eqb}
use lib.ListN.{length, get_or, take, drop, set, length-set, length-take, length-drop, drop_of_length-le}
use lib.Seq.{drop-cons, get_or-take}
use Rattle.le.specs.Splice.{part, splice}
use Rattle.le.proofs.SpliceLaws.{drop_head, splice-turn, splice-done, take-splice-end}
use Rattle.text.specs.Compare.{same_bytes}
use Rattle.manifest.specs.declared.grant.Grant.{Grant}
use Rattle.manifest.specs.declared.Manifest.{Manifest}
use Rattle.manifest.specs.Rights.{gives, any_gives, granted}
use Rattle.manifest.specs.Saying.{may_read}
use Rattle.manifest.specs.Places.{read_of, right_at, rights_of}
use Rattle.manifest.specs.Held.{stands_at, reads, held_in, held_of}
use Rattle.manifest.proofs.PlacesLaws.{may-read}

-- ---- what they are

module _ (text : List ℕ) (k : ℕ) (topic : List ℕ) where
  -- a grant more: its topic is the one, or what is behind it has to tell
  held_more : (g : Grant) (gs : List Grant) (h o : Bool) → h ≡ eqb g.holder k → o ≡ g.out
      → stands_at text (held_in k (g ∷ gs)) topic ≡ gives (right_at text g) k false topic || stands_at text (held_in k gs) topic
  unfolding held_in reads stands_at gives right_at
  held_more g gs true true he oe = rw (← he, ← oe)
  held_more g gs true false he oe = rw (← he, ← oe)
  held_more g gs false o he oe = rw (← he)

  held_gives : (gs : List Grant) → stands_at text (held_in k gs) topic ≡ any_gives (map (right_at text) gs) k false topic
  unfolding held_in stands_at any_gives
  held_gives [] = refl
  held_gives (g ∷ gs) = held_more g gs (eqb g.holder k) g.out refl refl ∙ ap (λ (b : Bool). gives (right_at text g) k false topic || b) (held_gives gs)

-- Of the manifest that is read from a text they are what the text grants.
pub held-may : (text : List ℕ) (k : ℕ) → stands_at text (held_of (read_of text) k) ≡ may_read text k
unfolding granted rights_of
held-may text k = λ i topic. (held_gives text k topic (take (read_of text).count (read_of text).grants) ∙ may-read text k topic) i

-- ---- the loop that puts them together: what the grants from i on bring, put behind the j numbers that there are, gives what all of them bring

pub record Holding (gs : List Grant) (k : ℕ) (places₀ places : List ℕ) (j i : ℕ) : Type 0 where
  pub few : length gs ≤ 64
  pub under : i ≤ length gs
  pub twice : j ≤ 2 * i
  pub room : 128 ≤ length places
  pub long : length places ≡ length places₀
  pub rest : splice places j (held_in k (drop i gs)) ≡ splice places₀ 0 (held_in k gs)
  pub many : j + length (held_in k (drop i gs)) ≡ length (held_in k gs)

module _ (gs : List Grant) (k : ℕ) (places₀ : List ℕ) where
  pub holding-start : length gs ≤ 64 → 128 ≤ length places₀ → Holding gs k places₀ places₀ 0 0
  holding-start l r = record { few = l; under = omega arith; twice = omega arith; room = r; long = refl; rest = refl; many = omega arith }

module _ {gs : List Grant} {k : ℕ} {places₀ places : List ℕ} {j i : ℕ} (w : Holding gs k places₀ places j i) where
  pub record Held : Type 0 where
    pub many : j ≡ length (held_in k gs)
    pub put : places ≡ splice places₀ 0 (held_in k gs)
    pub front : take j places ≡ held_in k gs

  pub holding-end : length gs ≤ i → Held
  unfolding held_in
  holding-end h =
      let none : held_in k (drop i gs) ≡ [] = rw (drop_of_length-le gs h) in
      let many : j ≡ length (held_in k gs) = sym (add-zero j) ∙ (rw none at w.many) in
      let put : places ≡ splice places₀ 0 (held_in k gs) = splice-done places j _ _ none w.rest in
      record {
        many = many;
        put = put;
        front =
            rw (put, many ∙ sym (zero-add (length (held_in k gs))))
            (take-splice-end places₀ 0 (held_in k gs) (omega (arith, many, w.twice, w.few, w.under, w.room, w.long)));
      }

  module _ (h : i < length gs) (d : Grant) {b : Bool} (e : b ≡ reads (get_or gs i d) k) where
    next : drop i gs ≡ get_or gs i d ∷ drop (i + 1) gs
    next = drop-cons gs i d h ∙ ap (λ (n : ℕ). get_or gs i d ∷ drop n gs) (sym (add-one i))

    abbrev rest : List ℕ
    rest = held_in k (drop (i + 1) gs)

    module _ {places' : List ℕ} {j' : ℕ} where
      pub holding-no : b ≡ false → places' ≡ places → j' ≡ j → Holding gs k places₀ places' j' (i + 1)
      unfolding held_in
      holding-no q pe je =
          let same : held_in k (drop i gs) ≡ rest = rw (next, ← e, q) in
          rw (pe, je)
          (record {
            few = w.few;
            under = omega arith;
            twice = omega (arith, w.twice);
            room = w.room;
            long = w.long;
            rest = rw same at w.rest;
            many = rw same at w.many;
          })

      pub holding-yes : b ≡ true → (a n : ℕ) → a ≡ (get_or gs i d).start → n ≡ (get_or gs i d).len → (j₁ : ℕ) → j₁ ≡ suc j
          → places' ≡ set (set places j a) j₁ n → j' ≡ suc j₁ → Holding gs k places₀ places' j' (i + 1)
      unfolding held_in
      holding-yes q a n ae ne j₁ je pe ke =
          let here : held_in k (drop i gs) ≡ a ∷ n ∷ rest = rw (next, ← e, q, ← ae, ← ne) in
          record {
            few = w.few;
            under = omega arith;
            twice = omega (arith, w.twice);
            room = rw (pe, length-set, length-set) w.room;
            long = rw (pe, length-set, length-set) w.long;
            rest = rw pe (splice-turn (set places j a) j₁ j' n (n ∷ rest) rest _ ke refl (splice-turn places j j₁ a _ (n ∷ rest) _ je here w.rest));
            many = rw (ke, je) (omega (arith, rw here at w.many));
          }

-- ---- the loop that asks: the places from i on give what all of them give

pub record Asked (text places topic : List ℕ) (i : ℕ) : Type 0 where
  pub under : i ≤ length places
  pub same : stands_at text (drop i places) topic ≡ stands_at text places topic

pub asked-start : (text places topic : List ℕ) → Asked text places topic 0
asked-start text places topic = record { under = omega arith; same = refl }

module _ {text places topic : List ℕ} {i : ℕ} (w : Asked text places topic i) where
  none : (l : List ℕ) → length l < 2 → false ≡ stands_at text l topic
  unfolding stands_at
  none [] h = refl
  none (a ∷ []) h = refl
  none (a ∷ b ∷ l) h = absurd (omega arith)

  pub asked-end : length places - i < 2 → false ≡ stands_at text places topic
  asked-end h = none (drop i places) (rw length-drop h) ∙ w.same

  module _ (h : 2 ≤ length places - i) (i₁ i₂ : ℕ) (e₁ : i₁ ≡ suc i) (e₂ : i₂ ≡ suc i₁) where
    two : drop i places ≡ get_or places i 0 ∷ get_or places i₁ 0 ∷ drop i₂ places
    two = drop_head places i i₁ (omega (arith, w.under)) e₁ ∙ ap (λ (l : List ℕ). get_or places i 0 ∷ l) (drop_head places i₁ i₂ (omega (arith, w.under)) e₂)

    module _ {r : List ℕ} (re : r ≡ part (get_or places i 0) (get_or places i₁ 0) text) {b : Bool} (be : b ≡ same_bytes r topic) where
      pub asked-yes : b ≡ true → true ≡ stands_at text places topic
      unfolding stands_at
      asked-yes q = rw (two, ← re, ← be, q) at w.same

      pub asked-no : b ≡ false → Asked text places topic i₂
      unfolding stands_at
      asked-no q = record { under = omega (arith, w.under); same = rw (two, ← re, ← be, q) at w.same }
