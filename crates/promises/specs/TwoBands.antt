-- 02, A14, "Two bands share a box": what a module can learn of the card. Two boxes that agree on every event granted `in` to the module whose turn it is, and differ at
-- will in the others, are told apart by none of its calls, nor by its return.
-- Assumes nothing.
use Rattle.std.specs.Prelude.{◌≡◌, Bool, true, ◌↔◌, ℕ, zero, suc, ℤ, length}
use mathlib.Core.List.{List, [], ◌∷◌, map, Memᴰ}
use Rattle.manifest.specs.Saying.{may_read}
use Rattle.record.specs.Record.{topic_of}
use Rattle.promises.specs.Box.{World, card_records, Indexed, Op, Write, Read, Open, Next, Close, Return, Said, step, run}

-- ---- two boxes

-- "the same manifest, .. staging, lent lengths and state": all but the cards' bytes and their tables' entries. The state has the used length, the next number and the weave, with its turn, its units and its
-- table of cursors. The charge rule is the manifest's, where a box is a host's (Box: `box_of`).
pub record Beside (w₁ w₂ : World) : Type 0 where
  pub text : w₁.lent.text ≡ w₂.lent.text
  pub staging : w₁.lent.staging ≡ w₂.lent.staging
  pub card-length : length w₁.lent.card ≡ length w₂.lent.card
  pub index-length : length w₁.index ≡ length w₂.index
  pub charge : w₁.charge ≡ w₂.charge
  pub state : w₁.host ≡ w₂.host

-- the event r is granted `in` to the module k
abbrev pub is_granted : ℕ → World → List ℕ → Bool
is_granted k w r = may_read w.lent.text k (topic_of r)

-- the cards of two boxes, for the module k
pub record CardsAlike (k : ℕ) (w₁ w₂ : World) : Type 0 where
  -- "sound cards", each with a table that fits it
  pub sound₁ : Indexed w₁
  pub sound₂ : Indexed w₂
  -- "that agree on every event granted `in` to that module": such an event is on the one card exactly when it is on the other, byte for byte, its number among its bytes.
  -- "The other events differ at will": nothing is said of them, of what they are about, what they hold and how long each is. (Their numbers are those that are left.)
  pub agree : (r : List ℕ) → is_granted k w₁ r ≡ true → Memᴰ r (card_records w₁) ↔ Memᴰ r (card_records w₂)

-- "Take two hosts at the start of one module's turn", or later in it: any state, with any table of cursors, that is the same in both
pub record Alike (w₁ w₂ : World) : Type 0 where
  pub beside : Beside w₁ w₂
  pub cards : CardsAlike w₁.host.weave.turn w₁ w₂

-- ---- that module's calls

-- "Module calls are write, read, tl_open, tl_next and tl_close", each with any memory and any address. Begin, ingress and look-up are the host's; the module's return has a part of its own below.
pub data Call : Type 0 where
  ToWrite ToRead ToOpen ToNext ToClose : List ℕ → ℕ → Call

abbrev pub asked : Call → Op
asked (ToWrite m a) = Write m a
asked (ToRead m a) = Read m a
asked (ToOpen m a) = Open m a
asked (ToNext m a) = Next m a
asked (ToClose m a) = Close m a

-- the box after some of them
abbrev pub after_calls : World → List Call → World
after_calls w cs = run w (map asked cs)

-- ---- what is heard of a call: what is said, the field (02, A5), and the memory afterwards

pub record Heard : Type 0 where
  pub said : Said
  pub field : ℕ
  pub memory : List ℕ

abbrev pub heard_of : World → Op → Heard
heard_of w o = record { said = (step w o).said; field = (step w o).field; memory = (step w o).memory }

abbrev pub heard_over : World → List Op → List Heard
heard_over w [] = []
heard_over w (o ∷ os) = heard_of w o ∷ heard_over (step w o).world os

-- A module, as the host knows it: its next call, and the memory that it makes of the last, by all that it has heard so far (the latest first). Its first n calls:
abbrev pub played_by : (List Heard → Call) → ℕ → World → List Heard → List Call
played_by plays zero w past = []
played_by plays (suc n) w past = plays past ∷ played_by plays n (step w (asked (plays past))).world (heard_of w (asked (plays past)) ∷ past)

-- ---- the claim

-- "any sequence of that module's calls gives the same answers, memory, staging and units in both. .. If it is the last module, its return gives the same outcome too."
pub record SameTurn (w₁ w₂ : World) (cs : List Call) : Type 0 where
  -- each answer with its field, and the memory after each call
  pub hears : heard_over w₁ (map asked cs) ≡ heard_over w₂ (map asked cs)
  pub staging : (after_calls w₁ cs).lent.staging ≡ (after_calls w₂ cs).lent.staging
  pub units : (after_calls w₁ cs).host.weave.units ≡ (after_calls w₂ cs).host.weave.units
  -- and so is the whole state: they are still alike
  pub alike : Alike (after_calls w₁ cs) (after_calls w₂ cs)
  -- the outcome with its counts, whatever code is returned, by the last module or by another; and what is behind it, but for the cards' bytes and tables
  pub outcome : (code : ℤ) → heard_of (after_calls w₁ cs) (Return code) ≡ heard_of (after_calls w₂ cs) (Return code)
  pub behind : (code : ℤ) → Beside (step (after_calls w₁ cs) (Return code)).world (step (after_calls w₂ cs) (Return code)).world
