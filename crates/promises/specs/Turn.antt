-- Promise 3: "within one module's turn, whatever else it calls, what one cursor hands over is a first part of one list (..), and a next that isn't refused
-- answers 0 exactly when the whole list was out before it".
-- Assumes nothing.
use Rattle.std.specs.Prelude.{◌≡◌, Bool, true, false, cond, ℕ, ◌≤◌, ◌<◌, eqb, length, take}
use mathlib.Core.List.{List, [], ◌∷◌, ◌++◌, Memᴰ}
use Rattle.text.specs.Compare.{prefix_of}
use Rattle.record.specs.Record.{id_of, topic_of}
use Rattle.card.specs.Pick.{All, Sorted, only}
use Rattle.card.specs.Listing.{filter_of, list_of, Before}
use Rattle.card.specs.declared.Cursor.{Cursor}
use Rattle.weave.specs.declared.Slot.{Slot}
use Rattle.weave.specs.Table.{has_handle}
use Rattle.weave.specs.Args.{open_args, next_args, bytes_at}
use Rattle.reads.specs.Paging.{next_list, next_part}
use Rattle.promises.specs.Box.{World, Op, Begin, Ingress, Write, Read, Open, Next, Close, Return, LookUp, step, is_refused}

-- a turn ends with a return: within it anything else may be called
abbrev pub InTurn : Op → Type 0
InTurn (Begin args) = Unit {0}
InTurn (Ingress topic payload) = Unit {0}
InTurn (Write m a) = Unit {0}
InTurn (Read m a) = Unit {0}
InTurn (Open m a) = Unit {0}
InTurn (Next m a) = Unit {0}
InTurn (Close m a) = Unit {0}
InTurn (Return code) = ⊥
InTurn (LookUp id) = Unit {0}

-- the records of a page that one call asks for on the cursor k: those of a next with its handle
abbrev pub page_on : ℕ → World → Op → List (List ℕ)
page_on k w (Begin args) = []
page_on k w (Ingress topic payload) = []
page_on k w (Write m a) = []
page_on k w (Read m a) = []
page_on k w (Open m a) = []
page_on k w (Next m a) = cond (eqb (next_args m a).handle k) (next_part w.lent w.index w.host m a) []
page_on k w (Close m a) = []
page_on k w (Return code) = []
page_on k w (LookUp id) = []

-- .. that it hands over, if it is not refused
abbrev pub given_by : ℕ → World → Op → List (List ℕ)
given_by k w o = cond (is_refused (step w o).said) [] (page_on k w o)

-- a next with the handle k
abbrev pub is_next_on : ℕ → Op → Bool
is_next_on k (Begin args) = false
is_next_on k (Ingress topic payload) = false
is_next_on k (Write m a) = false
is_next_on k (Read m a) = false
is_next_on k (Open m a) = false
is_next_on k (Next m a) = eqb (next_args m a).handle k
is_next_on k (Close m a) = false
is_next_on k (Return code) = false
is_next_on k (LookUp id) = false

-- .. and that a sequence of calls hands over
abbrev pub handed_over : ℕ → World → List Op → List (List ℕ)
handed_over k w [] = []
handed_over k w (o ∷ os) = given_by k w o ++ handed_over k (step w o).world os

-- what a cursor still has to hand over, of the events that the module whose turn it is may read
abbrev pub list_left : World → ℕ → List (List ℕ)
list_left w k = next_list w.lent w.host k

abbrev pub FirstPart : List (List ℕ) → List (List ℕ) → Type 0
FirstPart some all = (rest : List (List ℕ)) × (some ++ rest ≡ all)

-- a table of cursors as calls leave it: four slots, no handle twice, and none that was not answered by an open
pub record Tidy (slots : List Slot) (opened : ℕ) : Type 0 where
  pub four : length slots ≡ 4
  pub once : (k : ℕ) → 1 ≤ k → length (only (has_handle k) slots) ≤ 1
  pub none_above : (k : ℕ) → opened < k → length (only (has_handle k) slots) ≡ 0

abbrev pub TidyIn : World → Type 0
TidyIn w = Tidy w.host.weave.slots w.host.weave.opened

-- calls of next on the cursor k, none of them refused
abbrev pub Nexts : ℕ → World → List Op → Type 0
Nexts k w [] = Unit {0}
Nexts k w (o ∷ os) = (is_next_on k o ≡ true) × ((is_refused (step w o).said ≡ false) × Nexts k (step w o).world os)

-- ---- "every committed event that filter, window and grants allow"

-- r is allowed, where `may` says which topics the module is granted `in`, by the cursor c
pub record Allowed (may : List ℕ → Bool) (c : Cursor) (r : List ℕ) : Type 0 where
  -- "Events without an `in` grant aren't listed"
  pub granted : may (topic_of r) ≡ true
  -- "The filter matches every topic that begins with it"
  pub begins : prefix_of (filter_of c) (topic_of r) ≡ true
  -- "Window: start ≤ id < end"
  pub from : c.from.0 ≤ id_of r
  pub to : id_of r < c.to.0

-- of the events rs these are all that are allowed: every one, none besides, each once, in the asked order; and a cursor lists the first of them
pub record ListedOf (may : List ℕ → Bool) (c : Cursor) (rs all : List (List ℕ)) : Type 0 where
  pub every : (r : List ℕ) → Memᴰ r rs → Allowed may c r → Memᴰ r all
  pub of-these : All (λ (r : List ℕ). Memᴰ r rs) all
  pub none-besides : All (Allowed may c) all
  pub in_order : Sorted (Before c.desc) all
  -- "The limit counts from the list's head"
  pub head : list_of may c rs ≡ take c.limit all

-- the cursor c is the one that the open at a of memory m asks for
pub record AskedBy (m : List ℕ) (a : ℕ) (c : Cursor) : Type 0 where
  pub filter : filter_of c ≡ bytes_at m (open_args m a).topic
  pub from : c.from.0 ≡ (open_args m a).from.0
  pub to : c.to.0 ≡ (open_args m a).to.0
  pub limit : c.limit ≡ (open_args m a).limit
  -- "desc 0 lists ids upward, 1 downward"
  pub desc : c.desc ≡ eqb (open_args m a).desc 1
