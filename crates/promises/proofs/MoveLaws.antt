-- What a call does to a box, by its kind. A box's laws go by these moves and not by the operations; that every step is one of them is MovesHold.antt.
-- It is a device of the proofs: no promise speaks of moves, so no reader has to believe them.
-- Assumes nothing.
use mathlib.Core.Path.{◌≡◌}
use mathlib.Core.Bool.{Bool, true, false, cond}
use mathlib.Core.List.{List, [], ◌∷◌, ◌++◌}
use Prim.Native.Nat.{ℕ, ◌+◌, ◌^◌, ◌≤◌, ◌<◌}
use lib.Dec.{eqb}
use lib.IntN.{ℤ}
use lib.ListN.{length, take, set}
use Rattle.le.specs.Le.{Bytes}
use Rattle.le.specs.Splice.{splice, zeros}
use Rattle.manifest.specs.Saying.{modules_said, manifest_of}
use Rattle.card.specs.Listing.{fit, advance}
use Rattle.weave.specs.declared.Slot.{Slot}
use Rattle.weave.specs.declared.Spoiled.{Spoiled}
use Rattle.weave.specs.declared.Spoiled.TheVariants.{Overspent, Panicked}
use Rattle.weave.specs.declared.Weave.{Weave}
use Rattle.weave.specs.Sums.{added}
use Rattle.weave.specs.Checks.{handle_fine, slot_fine}
use Rattle.weave.specs.Table.{free_slot, no_slots, has_handle, slot_place}
use Rattle.weave.specs.Moves.{cursor_of}
use Rattle.weave.specs.States.{fresh_weave}
use Rattle.takes.specs.Begun.{begun}
use Rattle.card.specs.Index.{entered as entered_into}
use Rattle.host.specs.Hosts.{lent_as, with_weave, card_count}
use Rattle.reads.specs.Paging.{next_list}
use Rattle.host.specs.Ending.{committed}
use Rattle.promises.specs.Box.{World, Indexed, staged_records, Op, step, is_refused, memory_of, args_of}
use Rattle.promises.specs.Refusal.{Unchanged}
use Rattle.promises.specs.Outcome.{Conditions, says_committed, is_returned}
use Rattle.promises.specs.Diary.{Diary, emptied, entered}
use Rattle.promises.specs.Standing.{Standing, idle, started, without, heard}
use Rattle.promises.specs.Turn.{InTurn, given_by}
use Rattle.promises.proofs.StagedLaws.{Stageable}

-- check 10 passed
abbrev pub Affords : World → ℕ → Type 0
Affords w charge = w.host.weave.units + charge ≤ w.host.weave.resmax

-- the length of the weave's trace, which begin makes so
abbrev pub Traced : World → Type 0
Traced w = length w.host.weave.trace ≡ 32

-- ---- a weave that runs goes on: what becomes of each of its parts, with what was known before

-- the units: an accepted module call is paid for, but for a panic
pub data Cost (w : World) : Type 0 where
  Unpaid : Cost w
  Free : Cost w
  Paid : (charge : ℕ) → Affords w charge → Cost w

-- the staged bytes: a record r of n bytes joins them. (A memory holds bytes.)
pub data Staging (w : World) (o : Op) : Type 0 where
  Kept : Staging w o
  Staged : (r : List ℕ) (n : ℕ) → (Bytes (memory_of o) → Traced w → Stageable w.lent w.host r n) → Staging w o

-- the cursors: one is opened, hands over a page, is closed; a return closes all. On a sound card with a table that fits, the page is the walk's, into so many bytes
pub data Cursors (w : World) (o : Op) : Type 0 where
  Same : Cursors w o
  Opens : (s : Slot) → s.handle ≡ added w.host.weave.opened 1 65535 → slot_fine w.host.weave ≡ true → Cursors w o
  Hands : (k : ℕ) (rs : List (List ℕ)) → handle_fine w.host.weave k ≡ true → (cap : ℕ) → (Indexed w → rs ≡ fit cap (next_list w.lent w.host k)) → Cursors w o
  Closes : (k : ℕ) → handle_fine w.host.weave k ≡ true → Cursors w o
  Cleared : (InTurn o → ⊥) → Cursors w o

-- the mark: the first -6, or a panic
pub data Marking : Type 0 where
  Unmarked Overspends Panics : Marking

-- the turn
pub data Turning (w : World) (o : Op) : Type 0 where
  Stays : Turning w o
  Turns : (InTurn o → ⊥) → w.host.weave.turn < modules_said (manifest_of w.lent.text) → Turning w o

pub record Change (w : World) (o : Op) : Type 0 where
  pub cost : Cost w
  pub staging : Staging w o
  pub cursors : Cursors w o
  pub mark : Marking
  pub turn : Turning w o

-- an accepted call of a turn, but for a panic
abbrev pub called : (w : World) (o : Op) → Cost w → Staging w o → Cursors w o → Change w o
called w o cost' staging' cursors' = record { cost = cost'; staging = staging'; cursors = cursors'; mark = Unmarked; turn = Stays }

abbrev pub units_after : (w : World) → Cost w → ℕ
units_after w Unpaid = w.host.weave.units
units_after w Free = added w.host.weave.units 0 w.host.weave.resmax
units_after w (Paid charge b) = added w.host.weave.units charge w.host.weave.resmax

abbrev pub late_after : (w : World) (o : Op) → Cost w → Turning w o → Bool
late_after w o Unpaid Stays = w.host.weave.late
late_after w o Unpaid (Turns i low) = true
late_after w o Free t = true
late_after w o (Paid charge b) t = true

abbrev pub staged_after : (w : World) (o : Op) → Staging w o → ℕ
staged_after w o Kept = w.host.weave.staged
staged_after w o (Staged r n g) = added w.host.weave.staged n (length w.lent.staging)

abbrev pub count_after : (w : World) (o : Op) → Staging w o → ℕ
count_after w o Kept = w.host.weave.count
count_after w o (Staged r n g) = added w.host.weave.count 1 (2 ^ 63)

abbrev pub staging_after : (w : World) (o : Op) → Staging w o → List ℕ
staging_after w o Kept = w.lent.staging
staging_after w o (Staged r n g) = splice w.lent.staging w.host.weave.staged r

abbrev pub opened_after : (w : World) (o : Op) → Cursors w o → ℕ
opened_after w o Same = w.host.weave.opened
opened_after w o (Opens s e f) = added w.host.weave.opened 1 65535
opened_after w o (Hands k rs f room g) = w.host.weave.opened
opened_after w o (Closes k f) = w.host.weave.opened
opened_after w o (Cleared i) = w.host.weave.opened

abbrev pub slots_after : (w : World) (o : Op) → Cursors w o → List Slot
slots_after w o Same = w.host.weave.slots
slots_after w o (Opens s e f) = set w.host.weave.slots (slot_place (has_handle 0) w.host.weave.slots) s
slots_after w o (Hands k rs f room g) =
    set w.host.weave.slots (slot_place (has_handle k) w.host.weave.slots) (record { handle = k; cursor = advance (cursor_of w.host.weave k) rs })
slots_after w o (Closes k f) = set w.host.weave.slots (slot_place (has_handle k) w.host.weave.slots) free_slot
slots_after w o (Cleared i) = no_slots

-- the mark and the fault, those of the box and those that are heard alike
abbrev pub marked_by : Marking → Spoiled → Spoiled
marked_by Unmarked m = m
marked_by Overspends m = Overspent
marked_by Panics m = Panicked

abbrev pub faulted_by : Marking → Bool → Bool
faulted_by Unmarked f = f
faulted_by Overspends f = f
faulted_by Panics f = true

abbrev pub turn_after : (w : World) (o : Op) → Turning w o → ℕ
turn_after w o Stays = w.host.weave.turn
turn_after w o (Turns i low) = added w.host.weave.turn 1 16

-- what begin set stays
abbrev pub weave_after : (w : World) (o : Op) → Change w o → Weave
weave_after w o c =
    record {
      running = w.host.weave.running;
      spoiled = record { 0 = marked_by c.mark w.host.weave.spoiled.0 };
      turn = turn_after w o c.turn;
      late = late_after w o c.cost c.turn;
      staged = staged_after w o c.staging;
      count = count_after w o c.staging;
      units = units_after w c.cost;
      resmax = w.host.weave.resmax;
      time = w.host.weave.time;
      trace = w.host.weave.trace;
      opened = opened_after w o c.cursors;
      slots = slots_after w o c.cursors;
    }

-- what the diary enters
abbrev pub staged_by : (w : World) (o : Op) → Staging w o → List (List ℕ) → List (List ℕ)
staged_by w o Kept rs = rs
staged_by w o (Staged r n g) rs = rs ++ (r ∷ [])

abbrev pub units_by : (w : World) → Cost w → ℕ → ℕ
units_by w Unpaid u = u
units_by w Free u = u
units_by w (Paid charge b) u = u + charge

-- what is heard of the cursors
abbrev pub opened_by : (w : World) (o : Op) → Cursors w o → ℕ → ℕ
opened_by w o Same n = n
opened_by w o (Opens s e f) n = n + 1
opened_by w o (Hands k rs f room g) n = n
opened_by w o (Closes k f) n = n
opened_by w o (Cleared i) n = n

abbrev pub open_by : (w : World) (o : Op) → Cursors w o → List ℕ → List ℕ
open_by w o Same hs = hs
open_by w o (Opens s e f) hs = s.handle ∷ hs
open_by w o (Hands k rs f room g) hs = hs
open_by w o (Closes k f) hs = without k hs
open_by w o (Cleared i) hs = []

-- what is handed over on the cursor j
abbrev pub handed_on : ℕ → (w : World) (o : Op) → Cursors w o → List (List ℕ)
handed_on j w o Same = []
handed_on j w o (Opens s e f) = []
handed_on j w o (Hands k rs f room g) = cond (eqb k j) rs []
handed_on j w o (Closes k f) = []
handed_on j w o (Cleared i) = []

-- it ends a turn
abbrev pub turns_by : (w : World) (o : Op) → Turning w o → Bool
turns_by w o Stays = false
turns_by w o (Turns i low) = true

-- ---- any move

pub data Move (w : World) (o : Op) : Type 0 where
  Rests : Move w o
  Begins : (args : List ℕ) → w.host.weave.running ≡ false → (Bytes (args_of o) → Bytes args) → Move w o
  GoesOn : w.host.weave.running ≡ true → Change w o → Move w o
  Commits : (InTurn o → ⊥) → says_committed (step w o).said ≡ true → (code : ℤ) → Conditions w.lent w.index w.host code → Move w o
  Discards : (InTurn o → ⊥) → Move w o

abbrev pub after : (w : World) (o : Op) → Move w o → World
after w o Rests = w
after w o (Begins args i b) =
    record { host = with_weave w.host (begun args); lent = lent_as (zeros (length w.lent.staging)) w.lent.card w.lent.text; index = w.index; charge = w.charge }
after w o (GoesOn r c) =
    record {
      host = record {
        lengths = w.host.lengths;
        index = w.host.index;
        used = w.host.used;
        next = w.host.next;
        faulted = faulted_by c.mark w.host.faulted;
        weave = weave_after w o c;
      };
      lent = lent_as (staging_after w o c.staging) w.lent.card w.lent.text;
      index = w.index;
      charge = w.charge;
    }
after w o (Commits i s code c) =
    record {
      host = committed w.host w.host.weave.count w.host.weave.staged;
      lent = lent_as (zeros (length w.lent.staging)) (splice w.lent.card w.host.used (take w.host.weave.staged w.lent.staging)) w.lent.text;
      index = entered_into w.index (card_count w.host) w.host.used (staged_records w);
      charge = w.charge;
    }
after w o (Discards i) =
    record { host = with_weave w.host fresh_weave; lent = lent_as (zeros (length w.lent.staging)) w.lent.card w.lent.text; index = w.index; charge = w.charge }

abbrev pub entry_by : (w : World) (o : Op) → Move w o → Diary → Diary
entry_by w o Rests d = d
entry_by w o (Begins args i b) d = emptied d
entry_by w o (GoesOn r c) d = record { kept = d.kept; staged = staged_by w o c.staging d.staged; units = units_by w c.cost d.units }
entry_by w o (Commits i s code c) d = record { kept = d.kept ++ d.staged; staged = []; units = 0 }
entry_by w o (Discards i) d = emptied d

abbrev pub heard_by : (w : World) (o : Op) → Move w o → Standing → Standing
heard_by w o Rests s = s
heard_by w o (Begins args i b) s = started s
heard_by w o (GoesOn r c) s =
    record {
      running = s.running;
      faulted = faulted_by c.mark s.faulted;
      mark = marked_by c.mark s.mark;
      opened = opened_by w o c.cursors s.opened;
      handles = open_by w o c.cursors s.handles;
    }
heard_by w o (Commits i s code c) t = idle t.faulted
heard_by w o (Discards i) s = idle s.faulted

abbrev pub handed_by : ℕ → (w : World) (o : Op) → Move w o → List (List ℕ)
handed_by k w o Rests = []
handed_by k w o (Begins args i b) = []
handed_by k w o (GoesOn r c) = handed_on k w o c.cursors
handed_by k w o (Commits i s code c) = []
handed_by k w o (Discards i) = []

abbrev pub ends_turn : (w : World) (o : Op) → Move w o → Bool
ends_turn w o Rests = false
ends_turn w o (Begins args i b) = false
ends_turn w o (GoesOn r c) = turns_by w o c.turn
ends_turn w o (Commits i s code c) = true
ends_turn w o (Discards i) = true

-- ---- a step is a move

pub record Moved (w : World) (o : Op) : Type 0 where
  pub move : Move w o
  pub world : (step w o).world ≡ after w o move
  pub entry : Bytes (memory_of o) → Traced w → (d : Diary) → entered w d o ≡ entry_by w o move d
  pub heard-as : (s : Standing) → heard s o (step w o).said ≡ heard_by w o move s
  pub given : (k : ℕ) → given_by k w o ≡ handed_by k w o move
  pub returned : is_returned (step w o).said ≡ ends_turn w o move
  -- promise 1, which is about what is said as well
  pub refused : is_refused (step w o).said ≡ true → Unchanged w o (step w o)
