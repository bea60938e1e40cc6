-- Promise 2: "An outcome says committed exactly when 01's conditions hold."
-- Assumes nothing.
use Rattle.std.specs.Prelude.{◌≡◌, Bool, true, false, cond, List, [], ◌∷◌, ◌⊎◌, ℕ, ◌+◌, ◌≤◌, ◌<◌, ℤ, pos, length, take}
use Rattle.le.specs.Le.{le_at}
use Rattle.le.specs.Splice.{part, zeros}
use Rattle.manifest.specs.Saying.{modules_said, manifest_of}
use Rattle.card.specs.Walk.{chain_to}
use Rattle.weave.specs.declared.Spoiled.TheVariants.{Not, Overspent, Panicked}
use Rattle.weave.specs.declared.Weave.{Weave}
use Rattle.weave.specs.declared.Code.{Code}
use Rattle.weave.specs.declared.Code.TheVariants.{Denied, Unsound, NoRoom, Bad, Budget}
use Rattle.weave.specs.Codes.{is_fine, number, spoiled_code}
use Rattle.weave.specs.Table.{no_slots}
use Rattle.weave.specs.States.{fresh_weave}
use Rattle.host.specs.declared.Host.{Host}
use Rattle.host.specs.declared.Fate.TheVariants.{Refused, Discarded, Running, Committed}
use Rattle.host.specs.Hosts.{Lent, lent_as, with_weave, card_count, index_fine, lent_check}
use Rattle.card.specs.Records.{records}
use Rattle.card.specs.Index.{entered}
use Rattle.promises.specs.Box.{World, staged_part, Op, Return, is_refused, said_events, said_bytes, Said, Answered, Ended, Part, Step, step, said_number}
use Rattle.promises.specs.Refusal.{OnlyThere}
use Rattle.promises.specs.Checks.{failing, checks_of}

-- 01's conditions, in the order in which it gives them, and 02's of the table
pub record Conditions (l : Lent) (table : List ℕ) (h : Host) (code : ℤ) : Type 0 where
  -- "Return has checks 1 and 2 only"
  pub table-long : index_fine table h ≡ true
  pub check-1 : is_fine (lent_check l h) ≡ true
  pub running : h.weave.running ≡ true
  -- "spoiled gives discard"
  pub unspoiled : h.weave.spoiled.0 ≡ Not
  -- ".. codes except 0 and 1 give discard"
  pub zero-or-one : (code ≡ pos 0) ⊎ (code ≡ pos 1)
  -- "Otherwise the next module has its turn; after the last .."
  pub last : h.weave.turn ≡ modules_said (manifest_of l.text)
  -- "the staged bytes and their count .. carry that chain on"
  pub sound : chain_to (staged_part l h) h.next.0 (h.next.0 + h.weave.count) ≡ true
  -- "if the staged bytes don't fit the card, discard with -4; else commit"
  pub fits : h.used + h.weave.staged ≤ length l.card
  -- 02, A9: a table shorter than the records needed "-4 at the last return"
  pub entries : card_count h + h.weave.count ≤ length table

-- ---- what else can come of a return, in 01's order

-- "Return has checks 1 and 2 only"
pub record Returns (w : World) : Type 0 where
  pub table-long : index_fine w.index w.host ≡ true
  pub check-1 : is_fine (lent_check w.lent w.host) ≡ true
  pub running : w.host.weave.running ≡ true

-- nothing speaks against the weave but, at its end, what is staged
pub record Unhindered (w : World) (code : ℤ) : Type 0 where
  pub returns : Returns w
  pub unspoiled : w.host.weave.spoiled.0 ≡ Not
  pub zero-or-one : (code ≡ pos 0) ⊎ (code ≡ pos 1)

abbrev pub module_count : World → ℕ
module_count w = modules_said (manifest_of w.lent.text)

-- the staged bytes and their count carry the card's chain on
abbrev pub staged_chained : World → Bool
staged_chained w = chain_to (staged_part w.lent w.host) w.host.next.0 (w.host.next.0 + w.host.weave.count)

-- the reason of a discard, by 01's code
pub data Reason (w : World) (code : ℤ) : Code → Type 0 where
  -- "spoiled gives discard with its reason"
  overspent : Returns w → w.host.weave.spoiled.0 ≡ Overspent → Reason w code Budget
  panicked : Returns w → w.host.weave.spoiled.0 ≡ Panicked → Reason w code Denied
  -- "a code from -7 to -1 gives discard with it"
  own : Returns w → w.host.weave.spoiled.0 ≡ Not → (c : Code) → is_fine c ≡ false → number c ≡ code → Reason w code c
  -- "other codes except 0 and 1 give discard with -5"
  other : Returns w → w.host.weave.spoiled.0 ≡ Not → ((c : Code) → number c ≡ code → ⊥) → (code ≡ pos 1 → ⊥) → Reason w code Bad
  -- "after the last, -3 as above, then, if the staged bytes don't fit the card, discard with -4"
  unsound : Unhindered w code → w.host.weave.turn ≡ module_count w → staged_chained w ≡ false → Reason w code Unsound
  no_room : Unhindered w code → w.host.weave.turn ≡ module_count w → staged_chained w ≡ true → length w.lent.card < w.host.used + w.host.weave.staged
      → Reason w code NoRoom
  -- 02, A9: "then no room in the table for all staged events -4"
  no-entries : Unhindered w code → w.host.weave.turn ≡ module_count w → staged_chained w ≡ true → w.host.used + w.host.weave.staged ≤ length w.lent.card
      → length w.index < card_count w.host + w.host.weave.count → Reason w code NoRoom

-- what a return answers, in 01's numbers: its code, "discard with its reason", or 0; and "The outcome gives events and bytes"
pub record InNumbers (w : World) (code : ℤ) (s : Said) : Type 0 where
  pub refused : is_refused s ≡ true → said_number s ≡ number (failing (checks_of w (Return code)))
  pub discarded : (c : Code) → Reason w code c → (said_number s ≡ number c) × ((said_events s ≡ 0) × (said_bytes s ≡ 0))
  pub running : Unhindered w code → w.host.weave.turn < module_count w → (said_number s ≡ pos 0) × ((said_events s ≡ 0) × (said_bytes s ≡ 0))
  pub committed : Conditions w.lent w.index w.host code → (said_number s ≡ pos 0) × ((said_events s ≡ w.host.weave.count) × (said_bytes s ≡ w.host.weave.staged))

-- "Otherwise the next module has its turn"; "Cursors close at each return"; and ingress is too late
abbrev pub next_turn : Weave → Weave
next_turn v = record {
  running = v.running;
  spoiled = v.spoiled;
  turn = v.turn + 1;
  late = true;
  staged = v.staged;
  count = v.count;
  units = v.units;
  resmax = v.resmax;
  time = v.time;
  trace = v.trace;
  opened = v.opened;
  slots = no_slots;
}

-- the card, its table, the manifest and what the state says of them are as they were
pub record SameCard (was is : World) : Type 0 where
  pub card : is.lent.card ≡ was.lent.card
  pub index : is.index ≡ was.index
  pub index-long : is.host.index ≡ was.host.index
  pub text : is.lent.text ≡ was.lent.text
  pub lengths : is.host.lengths ≡ was.host.lengths
  pub used : is.host.used ≡ was.host.used
  pub next : is.host.next ≡ was.host.next

-- an outcome that says committed
abbrev pub says_committed : Said → Bool
says_committed (Answered c v) = false
says_committed (Ended (Refused c)) = false
says_committed (Ended (Discarded c)) = false
says_committed (Ended Running) = false
says_committed (Ended (Committed events bytes)) = true
says_committed (Part bytes) = false

-- no call of the sequence says committed
abbrev pub NoneCommitted : World → List Op → Type 0
NoneCommitted w [] = Unit {0}
NoneCommitted w (o ∷ os) = (says_committed (step w o).said ≡ false) × NoneCommitted (step w o).world os

-- a return that was not refused
abbrev pub is_returned : Said → Bool
is_returned (Answered c v) = false
is_returned (Ended (Refused c)) = false
is_returned (Ended (Discarded c)) = true
is_returned (Ended Running) = true
is_returned (Ended (Committed events bytes)) = true
is_returned (Part bytes) = false

-- how many of a sequence of calls are such returns
abbrev pub returns_in : World → List Op → ℕ
returns_in w [] = 0
returns_in w (o ∷ os) = cond (is_returned (step w o).said) 1 0 + returns_in (step w o).world os

-- the weave runs, and runs on after each of them
abbrev pub RunsOn : World → List Op → Type 0
RunsOn w [] = w.host.weave.running ≡ true
RunsOn w (o ∷ os) = (w.host.weave.running ≡ true) × RunsOn (step w o).world os

-- "Commit appends the staged bytes to the used part; no other card byte changes"
pub record Appended (was is : World) : Type 0 where
  pub lengths : is.host.lengths ≡ was.host.lengths
  pub index-long : is.host.index ≡ was.host.index
  pub used : is.host.used ≡ was.host.used + was.host.weave.staged
  pub next : is.host.next.0 ≡ was.host.next.0 + was.host.weave.count
  pub bytes : part was.host.used was.host.weave.staged is.lent.card ≡ take was.host.weave.staged was.lent.staging
  pub others : OnlyThere was.lent.card is.lent.card was.host.used was.host.weave.staged
  -- 02, A9: "A commit sets the entries of the new records, no others"
  pub entries : is.index ≡ entered was.index (card_count was.host) was.host.used (records (staged_part was.lent was.host) was.host.next.0)
  pub faulted : is.host.faulted ≡ was.host.faulted
  pub weave : is.host.weave ≡ fresh_weave
  pub staging : is.lent.staging ≡ zeros (length was.lent.staging)
  pub text : is.lent.text ≡ was.lent.text

-- "Discard leaves the card, and the state as before begin (but for faulted)": the state as it was, with the mark `faulted` as it is
abbrev pub but_faulted : Host → Bool → Host
but_faulted h f = record { lengths = h.lengths; index = h.index; used = h.used; next = h.next; faulted = f; weave = h.weave }

-- a write to `filament/core/panic`: "answers 0, stages and charges nothing, spoils the weave (-1) and marks the process faulted"
pub record PanicLeft (was : World) (s : Step) : Type 0 where
  pub answer : said_number s.said ≡ pos 0
  pub staging : s.world.lent.staging ≡ was.lent.staging
  pub staged : s.world.host.weave.staged ≡ was.host.weave.staged
  pub count : s.world.host.weave.count ≡ was.host.weave.count
  pub units : s.world.host.weave.units ≡ was.host.weave.units
  pub spoils : spoiled_code s.world.host.weave.spoiled ≡ Denied
  pub faulted : s.world.host.faulted ≡ true

-- begin: "Used are res_max at 24, virt_time at 48, trace at 56. Staging becomes all 0, units 0, module 1 has its turn."
abbrev pub first_turn : List ℕ → Weave
first_turn args = record {
  running = true;
  spoiled = record { 0 = Not };
  turn = 1;
  late = false;
  staged = 0;
  count = 0;
  units = 0;
  resmax = le_at 8 args 24;
  time = record { 0 = le_at 8 args 48 };
  trace = part 56 32 args;
  opened = 0;
  slots = no_slots;
}

-- .. and nothing else of the box has changed
abbrev pub begun_with : World → List ℕ → World
begun_with w args = record { host = with_weave w.host (first_turn args); lent = lent_as (zeros (length w.lent.staging)) w.lent.card w.lent.text; index = w.index; charge = w.charge }

-- one weave: what begin set stays while it runs
pub record SameWeave (was is : World) : Type 0 where
  pub resmax : is.host.weave.resmax ≡ was.host.weave.resmax
  pub time : is.host.weave.time ≡ was.host.weave.time
  pub trace : is.host.weave.trace ≡ was.host.weave.trace
