-- How the boxes of A14 come about: two that lead the same life, one in which events are exchanged; and what it is by numbers that two cards agree.
-- Assumes nothing.
use Rattle.std.specs.Prelude.{◌≡◌, true, false, List, [], ◌∷◌, ◌++◌, ◌⊎◌, ℕ, ◌≤◌, length, get_or}
use Rattle.card.specs.Pick.{All}
use Rattle.card.specs.Records.{records}
use Rattle.card.specs.Walk.{chain_to}
use Rattle.promises.specs.Box.{World, starts_card, card_records, IndexFits, Op, Begin, Ingress, Write, Read, Open, Next, Close, Return, LookUp, step, run}
use Rattle.promises.specs.TwoBands.{Beside, is_granted, CardsAlike, heard_over}

-- ---- the same life

-- Whoever calls, a call that keeps to what the modules of `listeners` may see: no look-up, which shows the host any event; and a next only in the turn of one of these modules
abbrev pub KeepsTo : (ℕ → Type 0) → World → Op → Type 0
KeepsTo listeners w (Begin args) = Unit {0}
KeepsTo listeners w (Ingress topic payload) = Unit {0}
KeepsTo listeners w (Write m a) = Unit {0}
KeepsTo listeners w (Read m a) = Unit {0}
KeepsTo listeners w (Open m a) = Unit {0}
KeepsTo listeners w (Next m a) = listeners w.host.weave.turn
KeepsTo listeners w (Close m a) = Unit {0}
KeepsTo listeners w (Return code) = Unit {0}
KeepsTo listeners w (LookUp id) = ⊥

abbrev pub AllKeepTo : (ℕ → Type 0) → World → List Op → Type 0
AllKeepTo listeners w [] = Unit {0}
AllKeepTo listeners w (o ∷ os) = KeepsTo listeners w o × AllKeepTo listeners (step w o).world os

-- Two boxes that led the same life so far
pub record Together (listeners : ℕ → Type 0) (w₁ w₂ : World) (os : List Op) : Type 0 where
  pub hears : heard_over w₁ os ≡ heard_over w₂ os
  pub beside : Beside (run w₁ os) (run w₂ os)
  pub cards : (k : ℕ) → listeners k → CardsAlike k (run w₁ os) (run w₂ os)

-- ---- the other events

-- The second box is the first, but that a run of the events on its card is exchanged for another: as many events, in as many bytes, and none of either granted `in` to the module k
pub record Exchanged (k : ℕ) (w₁ w₂ : World) : Type 0 where
  pub beside : Beside w₁ w₂
  -- the run as it was and as it is, with its first number and the one behind its last
  pub was : List ℕ
  pub is : List ℕ
  pub first : ℕ
  pub next : ℕ
  -- what stands before it and behind it, and what is not used
  pub front : List ℕ
  pub back : List ℕ
  pub rest : List ℕ
  pub card₁ : w₁.lent.card ≡ (front ++ (was ++ back)) ++ rest
  pub card₂ : w₂.lent.card ≡ (front ++ (is ++ back)) ++ rest
  pub used : w₁.host.used ≡ length (front ++ (was ++ back))
  pub long : length is ≡ length was
  -- each carries the chain on: "Ids start at 1 and rise by 1"
  pub front-sound : starts_card front first ≡ true
  pub was-sound : chain_to was first next ≡ true
  pub is-sound : chain_to is first next ≡ true
  pub back-sound : chain_to back next w₁.host.next.0 ≡ true
  -- of the size that mount takes, and each with a table that fits it
  pub small : length w₁.lent.card ≤ 16777216
  pub fits₁ : IndexFits w₁
  pub fits₂ : IndexFits w₂
  pub was-hidden : All (λ (r : List ℕ). is_granted k w₁ r ≡ false) (records was first)
  pub is_hidden : All (λ (r : List ℕ). is_granted k w₁ r ≡ false) (records is first)

-- ---- by numbers

-- the event with the number i + 1; no bytes where there is none
abbrev pub event_at : World → ℕ → List ℕ
event_at w i = get_or (card_records w) i []

-- of two events with one number, if one is granted, both are the same bytes
abbrev pub AgreeByNumber : ℕ → World → World → Type 0
AgreeByNumber k w₁ w₂ =
    (i : ℕ) → (is_granted k w₁ (event_at w₁ i) ≡ true) ⊎ (is_granted k w₁ (event_at w₂ i) ≡ true) → event_at w₁ i ≡ event_at w₂ i
