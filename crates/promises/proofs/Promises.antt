-- THE PROMISES, each in one place and in the user's order. What they speak of is in specs/: Box, Checks, Fields, Mounting, Refusal, Accepted, Outcome, Diary, Standing,
-- ReadBack, Turn, TwoBands, SideBySide, Naming, Charging, TwoWeaves, Bands. That they are about the code is ContractsHold.antt; that they do not hold because nothing happens is the last part.
-- Assumes nothing.
use mathlib.Core.Path.{◌≡◌, ap}
use mathlib.Core.Bool.{Bool, true, false}
use mathlib.Core.List.{List, [], ◌∷◌, ◌++◌, map, Memᴰ}
use mathlib.Core.Logic.{◌↔◌}
use Prim.Native.Nat.{ℕ, ◌+◌, ◌*◌, ◌/◌, ◌≤◌, ◌<◌}
use lib.IntN.{ℤ, pos, negsuc}
use lib.ListN.{length, get_or}
use Rattle.le.specs.Splice.{splice, zeros}
use Rattle.le.specs.Le.{Bytes}
use Rattle.text.specs.Topic.{good_topic, card_topic, good_filter}
use Rattle.text.specs.Flags.{is_value}
use Rattle.value.specs.declared.Span.{Span}
use Rattle.manifest.specs.declared.charge.Charge.TheVariants.{First, Second}
use Rattle.manifest.specs.Charge.{charge_by}
use Rattle.manifest.specs.Rights.{Right}
use Rattle.manifest.specs.Saying.{is_good, manifest_of, charge_of, rights_said, may_read}
use Rattle.record.specs.declared.Header.{Header}
use Rattle.record.specs.Record.{topic_of, record_bytes}
use Rattle.record.specs.Written.{Written}
use Rattle.card.specs.Pick.{All, Sorted, only}
use Rattle.card.specs.Records.{records, size}
use Rattle.card.specs.Listing.{fit, listed, in_order, list_of, Before}
use Rattle.card.specs.declared.Cursor.{Cursor}
use Rattle.card.proofs.RecordsLaws.{records-rise}
use Rattle.card.proofs.ListingLaws.{listed-order}
use Rattle.weave.specs.declared.Code.{Code}
use Rattle.weave.specs.declared.Code.TheVariants.{Fine, Denied, NotNow, Unsound, NoRoom, Bad, Budget, BadValue}
use Rattle.weave.specs.Codes.{is_fine, is_bad, number}
use Rattle.weave.specs.declared.args.WriteArgs.{WriteArgs}
use Rattle.weave.specs.Args.{record_fine, write_args, read_args, open_args, next_args, bytes_at, topic_fine, filter_fine, out_fine, data_fine, len_fine}
use Rattle.takes.specs.Opening.{opening}
use Rattle.takes.specs.Payloads.{payload_bytes}
use Rattle.host.specs.declared.Fate.TheVariants.{Discarded, Running, Committed}
use Rattle.host.specs.Hosts.{Lent, lent_as, lengths_of, with_weave, card_count, lent_check, indexed_check}
use Rattle.writes.specs.Stage.{header_for, is_panic, written_topic}
use Rattle.host.specs.declared.Host.{Host}
use Rattle.mounts.specs.Mount.{mounted, mount_index, looked, walk_looked}
use Rattle.mounts.proofs.IndexedLaws.{looked-walks}
use Rattle.reads.proofs.IndexedLaws.{answer-walks, memory-walks}
use Rattle.reads.specs.Paging.{next_part, next_check, answer_by, next_answer, next_memory, walk_answer, walk_memory}
use Rattle.reads.specs.Reading.{read_topic, read_list, read_answer, read_check}
use Rattle.promises.specs.Box.{World, records_on, card_records, Indexed, staged_records, LendsBytes, Op, Begin, Ingress, Write, Read, Open, Next, Close, Return, LookUp, Answered, Ended, Part, step, is_refused, code_of, said_number, memory_of, mounted_under, mounted_as, run}
use Rattle.promises.specs.Refusal.{Unchanged, OnlyThere}
use Rattle.promises.specs.Checks.{Passed, failing, failing_field, checks_of, answers, too_late}
use Rattle.promises.specs.Fields.{FirstFailed, is_module_call, named_by, fields_of, Inside, Aligned, Payload}
use Rattle.promises.specs.Mounting.{mount_checks, StateOf, no_lengths}
use Rattle.promises.specs.Accepted.{Lawful, BeginMay, IngressMay, WriteMay, ReadMay, OpenMay, NextMay, CloseMay}
use Rattle.promises.specs.Outcome.{Conditions, InNumbers, Unhindered, module_count, staged_chained, Reason, next_turn, returns_in, RunsOn, SameCard, says_committed, NoneCommitted, Appended, but_faulted, PanicLeft, begun_with, SameWeave}
use Rattle.promises.specs.Diary.{Diary, answer_of, ingress_record, written_record, first_page, diary, Agrees}
use Rattle.promises.specs.Standing.{at_mount, standing, Stands}
use Rattle.promises.specs.Turn.{InTurn, handed_over, list_left, FirstPart, Nexts, Allowed, ListedOf, AskedBy}
use Rattle.promises.specs.ReadBack.{HasPage, ReadOf}
use Rattle.promises.specs.TwoBands.{Beside, CardsAlike, Alike, Call, asked, Heard, played_by, SameTurn}
use Rattle.promises.specs.SideBySide.{AllKeepTo, Together, Exchanged, AgreeByNumber}
use Rattle.promises.specs.Naming.{NoDel, Clean, named_in, GoodIn01, MayFollow}
use Rattle.promises.specs.Charging.{edition, Made, said_by}
use Rattle.promises.specs.Bands.{in_band_b, BandBsTurn}
use Rattle.promises.specs.TwoWeaves.{said_over, two_modules, the_calls, the_answers}
use Rattle.promises.proofs.AcceptedLaws.{lawful, fine-lawful, settle-ok}
use Rattle.promises.proofs.OutcomeHolds.{indexed-fine, committed-exactly}
use Rattle.promises.proofs.ReturnHolds.{in-numbers, discarded-exactly, running-exactly, turn-passes}
use Rattle.promises.proofs.ChecksHold.{code_is, field_is, accepted-exactly}
use Rattle.promises.proofs.FieldsHold.{named-exactly, others-0, module-only, its_own}
use Rattle.promises.proofs.FineHolds.{record-exactly, topic-exactly, filter-exactly, out-exactly, data-exactly, len-exactly}
use Rattle.promises.proofs.AcceptedHolds.{begin-exactly, ingress-exactly, write-exactly, read-exactly, open-exactly, next-exactly, close-exactly}
use Rattle.promises.proofs.AnswersHold.{answers-are, late_is}
use Rattle.promises.proofs.MountHolds.{mounts}
use Rattle.promises.proofs.MovesHold.{moved}
use Rattle.promises.proofs.RefusalHolds.{next-there, read-there}
use Rattle.promises.proofs.WeaveHolds.{begin-sets, weave-stays, life-idle, life-timed}
use Rattle.promises.proofs.CountHolds.{turn-counted}
use Rattle.promises.proofs.CardHolds.{only-commit, commit-appends, discard-restores}
use Rattle.promises.proofs.IndexHolds.{life-kept, open-indexed}
use Rattle.promises.proofs.EntriesHold.{mount-entries, no-entries, commit-entries, enough-at-mount, enough-for-commit}
use Rattle.promises.proofs.DiaryHolds.{lends-memory, ruled-agrees, life-agrees}
use Rattle.promises.proofs.LifeHolds.{life-sane}
use Rattle.promises.proofs.AskedHolds.{asked_by, panic-left, codes-are, refusal-number}
use Rattle.promises.proofs.ReadBackHolds.{write-reads-back, ingress-reads-back, kept-found, staged-found, page-stands, read-page-stands}
use Rattle.promises.proofs.ReadHolds.{read-lists, read-zero}
use Rattle.promises.proofs.TidyHolds.{life-tidy}
use Rattle.promises.proofs.StandingHolds.{ruled-stands}
use Rattle.promises.proofs.PagesHold.{open-lists, first_part, end-exactly, drained}
use Rattle.promises.proofs.ListHolds.{all-allowed, every-allowed, within-limit, all_listed}
use Rattle.promises.proofs.TwoBandsHold.{turn-same, plays-same, all_asked}
use Rattle.promises.proofs.AlikeHolds.{lives-alike, exchanged-alike, agree-by-number}
use Rattle.promises.proofs.NamingHolds.{kept-exactly, called-exactly, names-no-del, grants-no-del, lists-no-del, reads-no-del, kept-mounts, kept-shown, kept-named}
use Rattle.promises.proofs.ChargingHolds.{life-rule, made-exactly, says_so, by-edition}
use Rattle.promises.proofs.CommitRuns.{one_module, commits-one}
use Rattle.promises.proofs.TwoRuns.{all_said}
use Rattle.promises.proofs.BandsRuns.{bands-turn, bands-alike, bands-differ}

-- ==== 1. "a refusal changes no lent byte and, but for the spoiled mark, no state"

-- for every box and every call
pub a-refusal-changes-nothing : (w : World) (o : Op) → is_refused (step w o).said ≡ true → Unchanged w o (step w o)
a-refusal-changes-nothing w o = (moved w o).refused

-- "Read and tl_next change no memory byte but those" that they answer
pub next-changes-its-bytes-alone : (w : World) (m : List ℕ) (at : ℕ) → is_refused (step w (Next m at)).said ≡ false
    → OnlyThere m (step w (Next m at)).memory (next_args m at).out.ptr (answer_of (step w (Next m at)).said)
unfolding step next_answer answer_by
next-changes-its-bytes-alone w m at e = next-there w.lent w.index w.host m at (settle-ok w.host (next_check w.lent w.index w.host m at) _ _ e)

pub read-changes-its-bytes-alone : (w : World) (m : List ℕ) (at : ℕ) → is_refused (step w (Read m at)).said ≡ false
    → OnlyThere m (step w (Read m at)).memory (read_args m at).out.ptr (answer_of (step w (Read m at)).said)
unfolding step read_answer
read-changes-its-bytes-alone w m at e = read-there w.lent w.host m at (settle-ok w.host (read_check w.lent w.host m at) _ _ e)

-- "refused with document 01's number"
pub a-refusal-says-its-number : (w : World) (o : Op) → is_refused (step w o).said ≡ true → said_number (step w o).said ≡ number (code_of (step w o).said)
a-refusal-says-its-number w o = refusal-number (step w o).said

pub the-numbers : map number (Denied ∷ NotNow ∷ Unsound ∷ NoRoom ∷ Bad ∷ Budget ∷ BadValue ∷ [])
    ≡ negsuc 0 ∷ negsuc 1 ∷ negsuc 2 ∷ negsuc 3 ∷ negsuc 4 ∷ negsuc 5 ∷ negsuc 6 ∷ []
the-numbers = codes-are

-- ==== 2. "Records, checks, grants, charges and outcomes are document 01's."

-- "Order of checks": of every call, the code is that of the first check that fails, and Fine where none does; "No code is given in any other case"
pub the-first-check-that-fails-gives-the-code : (w : World) (o : Op) → code_of (step w o).said ≡ failing (checks_of w o)
the-first-check-that-fails-gives-the-code = code_is

pub accepted-exactly-when-no-check-fails : (w : World) (o : Op) → (is_refused (step w o).said ≡ false) ↔ All Passed (checks_of w o)
accepted-exactly-when-no-check-fails = accepted-exactly

-- an accepted begin, ingress, write and close answer 0, an open one more than have been opened, read and next the bytes of the page
pub an-accepted-call-answers : (w : World) (o : Op) → is_refused (step w o).said ≡ false → answer_of (step w o).said ≡ answers w o
an-accepted-call-answers = answers-are

-- ingress comes "only before the first accepted module call or return of the weave": these make it too late, begin makes it welcome, nothing else changes that
pub ingress-is-too-late-after-the-first-accepted-call : (w : World) (o : Op) → is_refused (step w o).said ≡ false → (step w o).world.host.weave.running ≡ true
    → (step w o).world.host.weave.late ≡ too_late w o
ingress-is-too-late-after-the-first-accepted-call = late_is

-- mount: its code likewise, "-3: with the offset of the first record not sound"; refused "its state all 0", else "a fresh state"
module _ (l : Lent) (table : List ℕ) (used : ℕ) where
  pub mount-gives-the-code : (mounted l table used).code ≡ failing (mount_checks l table used)
  mount-gives-the-code = (mounts l table used).code

  pub mount-gives-the-offset : (mounted l table used).code ≡ Unsound → (mounted l table used).at ≡ size (records_on l.card used)
  mount-gives-the-offset = (mounts l table used).offset

  pub a-refused-mount-is-all-0 : is_fine (mounted l table used).code ≡ false → StateOf (mounted l table used).host no_lengths 0 0 0
  a-refused-mount-is-all-0 = (mounts l table used).zero

  pub a-mount-is-fresh : (mounted l table used).code ≡ Fine → StateOf (mounted l table used).host (lengths_of l) (length table) used (1 + length (records_on l.card used))
  a-mount-is-fresh = (mounts l table used).fresh

-- in words of its own: check 1 passes exactly when this holds
pub check-1-passes-exactly-when : (l : Lent) (h : Host) → (is_fine (lent_check l h) ≡ true) ↔ Lawful l h
check-1-passes-exactly-when l h = (lawful l h, fine-lawful l h)

-- .. and each call is accepted exactly when all holds that it asks
pub begin-is-accepted-exactly-when : (w : World) (args : List ℕ) → (is_refused (step w (Begin args)).said ≡ false) ↔ BeginMay w.lent w.host args
begin-is-accepted-exactly-when = begin-exactly

pub ingress-is-accepted-exactly-when : (w : World) (topic payload : List ℕ)
    → (is_refused (step w (Ingress topic payload)).said ≡ false) ↔ IngressMay w.lent w.host topic payload
ingress-is-accepted-exactly-when = ingress-exactly

pub write-is-accepted-exactly-when : (w : World) (m : List ℕ) (at : ℕ) → (is_refused (step w (Write m at)).said ≡ false) ↔ WriteMay w.charge w.lent w.host m at
write-is-accepted-exactly-when = write-exactly

pub read-is-accepted-exactly-when : (w : World) (m : List ℕ) (at : ℕ) → (is_refused (step w (Read m at)).said ≡ false) ↔ ReadMay w.lent w.host m at
read-is-accepted-exactly-when = read-exactly

pub open-is-accepted-exactly-when : (w : World) (m : List ℕ) (at : ℕ) → (is_refused (step w (Open m at)).said ≡ false) ↔ OpenMay w.lent w.host m at
open-is-accepted-exactly-when = open-exactly

pub next-is-accepted-exactly-when : (w : World) (m : List ℕ) (at : ℕ) → (is_refused (step w (Next m at)).said ≡ false) ↔ NextMay w.lent w.index w.host m at
next-is-accepted-exactly-when = next-exactly

pub close-is-accepted-exactly-when : (w : World) (m : List ℕ) (at : ℕ) → (is_refused (step w (Close m at)).said ≡ false) ↔ CloseMay w.lent w.host m at
close-is-accepted-exactly-when = close-exactly

-- a write to the panic topic
pub a-panic-spoils : (w : World) (m : List ℕ) (at : ℕ) → is_refused (step w (Write m at)).said ≡ false → is_panic m at ≡ true → PanicLeft w (step w (Write m at))
a-panic-spoils = panic-left

-- "An outcome says committed exactly when 01's conditions hold", with the counts of what is staged
pub committed-exactly-when : (w : World) (code : ℤ) (events bytes : ℕ)
    → ((step w (Return code)).said ≡ Ended (Committed events bytes))
    ↔ (Conditions w.lent w.index w.host code × ((events ≡ w.host.weave.count) × (bytes ≡ w.host.weave.staged)))
committed-exactly-when = committed-exactly

-- then exactly the staged bytes were appended, and no other card byte changed
pub committed-means-appended : (w : World) (code : ℤ) (events bytes : ℕ) → (step w (Return code)).said ≡ Ended (Committed events bytes)
    → Appended w (step w (Return code)).world
committed-means-appended = commit-appends

-- nothing else changes the card
pub only-a-commit-changes-the-card : (w : World) (o : Op) → says_committed (step w o).said ≡ false → SameCard w (step w o).world
only-a-commit-changes-the-card = only-commit

-- "discard with its reason": exactly when 01 has that reason for it
pub discarded-exactly-when : (w : World) (code : ℤ) (c : Code) → ((step w (Return code)).said ≡ Ended (Discarded c)) ↔ Reason w code c
discarded-exactly-when = discarded-exactly

-- "Otherwise the next module has its turn", and nothing else of the box has changed but that its cursors are closed
pub running-exactly-when : (w : World) (code : ℤ) → ((step w (Return code)).said ≡ Ended Running) ↔ (Unhindered w code × (w.host.weave.turn < module_count w))
running-exactly-when = running-exactly

pub the-next-module-has-its-turn : (w : World) (code : ℤ) → (step w (Return code)).said ≡ Ended Running
    → (step w (Return code)).world ≡ record { host = with_weave w.host (next_turn w.host.weave); lent = w.lent; index = w.index; charge = w.charge }
the-next-module-has-its-turn = turn-passes

-- "refused with document 01's number", "discard with its reason", "The outcome gives events and bytes": a return's answer in numbers
pub a-return-in-numbers : (w : World) (code : ℤ) → InNumbers w code (step w (Return code)).said
a-return-in-numbers = in-numbers

-- the turn is one more than the returns that were accepted since begin, and these are fewer than the modules while the weave runs: a weave of n modules ends with
-- its n-th at the latest
pub a-weave-ends-with-its-last-module : (w : World) (args : List ℕ) → is_refused (step w (Begin args)).said ≡ false → (os : List Op) → RunsOn (step w (Begin args)).world os
    → ((run (step w (Begin args)).world os).host.weave.turn ≡ 1 + returns_in (step w (Begin args)).world os)
    × (returns_in (step w (Begin args)).world os < module_count w)
a-weave-ends-with-its-last-module = turn-counted

-- "Discard leaves the card, and the state as before begin (but for faulted)": from any box that a mount and any calls lead to, with no weave running, through
-- any calls none of which says committed; "Both leave staging all 0"
pub a-discard-restores : (l : Lent) (table : List ℕ) (used : ℕ) (before : List Op) → (run (mounted_as l table used) before).host.weave.running ≡ false
    → (os : List Op) → NoneCommitted (run (mounted_as l table used) before) os → (code : ℤ) (c : Code)
    → (step (run (run (mounted_as l table used) before) os) (Return code)).said ≡ Ended (Discarded c)
    → ((step (run (run (mounted_as l table used) before) os) (Return code)).world.lent.card ≡ (run (mounted_as l table used) before).lent.card)
    × (((step (run (run (mounted_as l table used) before) os) (Return code)).world.host
    ≡ but_faulted (run (mounted_as l table used) before).host (run (run (mounted_as l table used) before) os).host.faulted)
    × ((step (run (run (mounted_as l table used) before) os) (Return code)).world.lent.staging
    ≡ zeros (length (run (run (mounted_as l table used) before) os).lent.staging)))
a-discard-restores l table used before idle = discard-restores (run (mounted_as l table used) before) (life-idle l table used before idle)

-- begin sets budget, virtual time and trace from its bytes, all else of the weave is as 01 starts it, and nothing else of the box has changed but that staging
-- is all 0; while the weave runs the three stay
pub begin-sets-the-weave : (w : World) (args : List ℕ) → is_refused (step w (Begin args)).said ≡ false → (step w (Begin args)).world ≡ begun_with w args
begin-sets-the-weave = begin-sets

pub a-weave-keeps-what-begin-set : (w : World) (o : Op) → w.host.weave.running ≡ true → (step w o).world.host.weave.running ≡ true → SameWeave w (step w o).world
a-weave-keeps-what-begin-set = weave-stays

-- The life of a box: mounted, and asked whatever may be asked, it agrees with the diary. So the card's records are those at mount, then those staged in each
-- weave whose outcome said committed, in order; a weave's units are the sum of the charges of its accepted module calls; what is staged is what its accepted
-- ingress and writes brought. (A memory holds bytes.)
pub the-box-keeps-its-diary : (l : Lent) (table : List ℕ) (used : ℕ) (os : List Op) → All (λ (o : Op). Bytes (memory_of o)) os → (mounted l table used).code ≡ Fine
    → Agrees (run (mounted_as l table used) os) (diary (mounted_as l table used) (first_page l used) os)
the-box-keeps-its-diary = life-agrees

-- .. and what else a listener knows without looking into it: whether a weave runs, its mark, whether the process is faulted, how many cursors the weave has
-- opened and which are open. A handle is open exactly when an open of this turn answered it and no close took it; an open finds room exactly when fewer than 4
-- are open and fewer than 65,535 have been opened. (After any mount, and with anything lent.)
pub the-box-stands-as-heard : (l : Lent) (table : List ℕ) (used : ℕ) (os : List Op) → Stands (run (mounted_as l table used) os) (standing (mounted_as l table used) at_mount os)
the-box-stands-as-heard l = ruled-stands (charge_of l.text) l

-- and check 1 passes after any calls, of a call that is lent the table too: none of them leaves a box that the next refuses with -5 for its state
pub check-1-passes-over-a-life : (l : Lent) (table : List ℕ) (used : ℕ) (os : List Op) → All (λ (o : Op). Bytes (memory_of o)) os → (mounted l table used).code ≡ Fine
    → is_fine (indexed_check (run (mounted_as l table used) os).lent (run (mounted_as l table used) os).index (run (mounted_as l table used) os).host) ≡ true
check-1-passes-over-a-life l table used os b fine =
    indexed-fine _ _ _ (life-kept (charge_of l.text) l table used fine os).long (life-sane l table used os b fine)

-- "What is written reads back as the same topic and the payload as 01 stores it": what an accepted write stages over a life, with the module whose turn it is as
-- its agent; and an ingress. (What is lent holds bytes.)
module _ (l : Lent) (table : List ℕ) (used : ℕ) (os : List Op) (b : All LendsBytes os) (fine : (mounted l table used).code ≡ Fine) where
  abbrev now-at : World
  now-at = run (mounted_as l table used) os

  pub a-write-stages-its-record : (m : List ℕ) (at : ℕ) → Bytes m → is_refused (step now-at (Write m at)).said ≡ false → is_panic m at ≡ false
      → ((step now-at (Write m at)).world.lent.staging ≡ splice now-at.lent.staging now-at.host.weave.staged (written_record now-at m at))
      × Written (header_for now-at.host (write_args m at).flags now-at.host.weave.turn) now-at.host.weave.trace (written_topic m at)
      (payload_bytes m (write_args m at)) (written_record now-at m at)
  a-write-stages-its-record m at h = write-reads-back now-at m at h (life-agrees l table used os (lends-memory os b) fine).traced (life-timed l table used os b)

  pub an-ingress-stages-its-record : (topic payload : List ℕ) → is_refused (step now-at (Ingress topic payload)).said ≡ false
      → ((step now-at (Ingress topic payload)).world.lent.staging ≡ splice now-at.lent.staging now-at.host.weave.staged (ingress_record now-at topic payload))
      × Written (header_for now-at.host 1 0) now-at.host.weave.trace topic payload (ingress_record now-at topic payload)
  an-ingress-stages-its-record topic payload =
      ingress-reads-back now-at topic payload (life-agrees l table used os (lends-memory os b) fine).traced (life-timed l table used os b)

-- after a commit look-up gives the record, by its number; before it, by the number that it will have
module _ (l : Lent) (table : List ℕ) (used : ℕ) (os : List Op) (b : All (λ (o : Op). Bytes (memory_of o)) os) (fine : (mounted l table used).code ≡ Fine) where
  abbrev box : World
  box = run (mounted_as l table used) os

  abbrev told : Diary
  told = diary (mounted_as l table used) (first_page l used) os

  pub look-up-gives-what-was-kept : (i : ℕ) → i < length told.kept → (step box (LookUp (i + 1))).said ≡ Part (get_or told.kept i [])
  look-up-gives-what-was-kept = kept-found box told (life-agrees l table used os b fine) (life-kept (charge_of l.text) l table used fine os) (life-sane l table used os b fine)

  pub look-up-gives-what-is-staged : (i : ℕ) → i < length told.staged → (step box (LookUp (box.host.next.0 + i))).said ≡ Part (get_or told.staged i [])
  look-up-gives-what-is-staged = staged-found box told (life-agrees l table used os b fine) (life-kept (charge_of l.text) l table used fine os) (life-sane l table used os b fine)

-- "its pointer moved": every record of a page stands in the memory with its topic and its payload as 01 stores it, its pointer where its bytes now lie
pub a-page-stands-in-memory : (w : World) (m : List ℕ) (at : ℕ) → is_refused (step w (Next m at)).said ≡ false
    → HasPage (step w (Next m at)).memory (next_args m at).out.ptr (next_part w.lent w.index w.host m at)
a-page-stands-in-memory = page-stands

pub a-read-page-stands-in-memory : (w : World) (m : List ℕ) (at : ℕ) → is_refused (step w (Read m at)).said ≡ false
    → HasPage (step w (Read m at)).memory (read_args m at).out.ptr (fit (read_args m at).out.len (read_list w.lent w.host m at))
a-read-page-stands-in-memory = read-page-stands

-- a read lists the "staged events with exactly that topic, .. id at least start, in order" and "answers the bytes written, 0 when none is left"
pub a-read-lists : (w : World) (m : List ℕ) (at : ℕ) → ReadOf (read_topic m at) (read_args m at).start.0 (staged_records w) (read_list w.lent w.host m at)
a-read-lists = read-lists

pub a-read-answers-0-exactly-when-none-is-left : (w : World) (m : List ℕ) (at : ℕ) → is_refused (step w (Read m at)).said ≡ false
    → (answer_of (step w (Read m at)).said ≡ 0) ↔ (read_list w.lent w.host m at ≡ [])
a-read-answers-0-exactly-when-none-is-left = read-zero

-- ==== 3. "Paging is complete"

-- The box is any that a mount and any calls lead to, each of which gets card, table, staging, manifest and state as the last one left them; an open answers the handle k; then come any
-- calls of the same turn.
module _ (l : Lent) (table : List ℕ) (used : ℕ) (before : List Op) (m : List ℕ) (at k : ℕ) (o : (step (run (mounted_as l table used) before) (Open m at)).said ≡ Answered Fine k) where
  abbrev w : World
  w = run (mounted_as l table used) before

  abbrev w₁ : World
  w₁ = (step w (Open m at)).world

  abbrev cursor' : Cursor
  cursor' = (opening m (open_args m at) k).cursor

  -- "one list (every committed event that filter, window and grants allow, .. cut to the limit)"
  pub the-list : list_left w₁ k ≡ list_of (may_read w.lent.text w.host.weave.turn) cursor' (card_records w)
  the-list = open-lists w (life-tidy l table used before) (open-indexed l table used before m at k o) m at k o

  -- .. and that filter, window, limit and direction are the ones of the open's bytes
  pub the-list-is-asked-for : AskedBy m at cursor'
  the-list-is-asked-for = asked_by w m at k (ap is_refused o)

  -- "whatever else it calls, what one cursor hands over is a first part of one list"
  pub a-first-part : (os : List Op) → All InTurn os → FirstPart (handed_over k w₁ os) (list_left w₁ k)
  a-first-part os i = first_part w (life-tidy l table used before) (open-indexed l table used before m at k o) m at k o os i

  -- "a next that isn't refused answers 0 exactly when the whole list was out before it"
  pub zero-exactly-at-the-end : (os : List Op) → All InTurn os → (m' : List ℕ) (at' : ℕ) → (next_args m' at').handle ≡ k
      → is_refused (step (run w₁ os) (Next m' at')).said ≡ false
      → (answer_of (step (run w₁ os) (Next m' at')).said ≡ 0) ↔ (handed_over k w₁ os ≡ list_left w₁ k)
  zero-exactly-at-the-end os i = end-exactly w (life-tidy l table used before) (open-indexed l table used before m at k o) m at k o os i

  -- and everything comes out: as many nexts that are not refused as there are events
  pub everything-comes-out : (os : List Op) → Nexts k w₁ os → length (list_left w₁ k) ≤ length os → handed_over k w₁ os ≡ list_left w₁ k
  everything-comes-out = drained w (life-tidy l table used before) (open-indexed l table used before m at k o) m at k o

-- the list is the first `limit` of all the events that filter, window and grants allow: the limit cuts its tail, and none of those is left out
pub the-limit-cuts-the-tail : (may : List ℕ → Bool) (c : Cursor) (card : List ℕ) → ListedOf may c (records card 1) (only (listed may c) (in_order c.desc (records card 1)))
the-limit-cuts-the-tail may c card = all_listed may c (records card 1) (records-rise card 1)

-- of the list: "each once, in order": the numbers strictly rise, or downward strictly fall
pub each-once-in-order : (may : List ℕ → Bool) (c : Cursor) (card : List ℕ) → Sorted (Before c.desc) (list_of may c (records card 1))
each-once-in-order may c card = listed-order may c (records card 1) (records-rise card 1)

-- none that filter, window and grants do not allow
pub none-besides : (may : List ℕ → Bool) (c : Cursor) (rs : List (List ℕ)) → All (Allowed may c) (list_of may c rs)
none-besides = all-allowed

-- every one that they allow, where the limit does not cut
pub none-left-out : (may : List ℕ → Bool) (c : Cursor) (rs : List (List ℕ)) (r : List ℕ) → Memᴰ r rs → Allowed may c r
    → length (only (listed may c) (in_order c.desc rs)) ≤ c.limit → Memᴰ r (list_of may c rs)
none-left-out = every-allowed

-- "cut to the limit"
pub at-most-the-limit : (may : List ℕ → Bool) (c : Cursor) (rs : List (List ℕ)) → length (list_of may c rs) ≤ c.limit
at-most-the-limit = within-limit

-- ==== 4. "Two bands share a box" (02, A14)

-- Two boxes at the start of one module's turn, or later in it: all is the same but the cards' bytes and their tables' entries, and the cards, both sound and with tables that fit, agree on every event granted `in` to that module. Then "any
-- sequence of that module's calls gives the same answers, memory, staging and units in both. .. If it is the last module, its return gives the same outcome too."
pub two-bands : (w₁ w₂ : World) → Alike w₁ w₂ → (cs : List Call) → SameTurn w₁ w₂ cs
two-bands = turn-same

-- So a module that is any function of all it has heard makes the same calls in both: it cannot act on what it is not granted.
pub same-play : (plays : List Heard → Call) (n : ℕ) (w₁ w₂ : World) → Alike w₁ w₂ → (past : List Heard) → played_by plays n w₁ past ≡ played_by plays n w₂ past
same-play = plays-same

-- "that module's calls" are the module calls, all of them
pub these-are-the-module-calls : (o : Op) → (is_module_call o ≡ true) ↔ ((c : Call) × (asked c ≡ o))
these-are-the-module-calls = all_asked

-- that the cards agree, said by numbers
pub cards-agree-by-number : (k : ℕ) (w₁ w₂ : World) → Beside w₁ w₂ → Indexed w₁ → Indexed w₂
    → CardsAlike k w₁ w₂ ↔ AgreeByNumber k w₁ w₂
cards-agree-by-number = agree-by-number

-- "The other events differ at will": any run of events of which none is granted may be exchanged for any other, of as many events and bytes
pub hidden-events-differ-at-will : (k : ℕ) (w₁ w₂ : World) → Exchanged k w₁ w₂ → CardsAlike k w₁ w₂
hidden-events-differ-at-will = exchanged-alike

-- And such boxes come about. Two cards with as many events are mounted; whoever then calls, in as many turns and weaves as there are, the boxes say the same and stay side by side, so long as nobody looks
-- an event up and only modules list for which the cards agree. They are then alike in the turn of each of these.
module _ (staging text card₁ card₂ table₁ table₂ : List ℕ) (used : ℕ) (long : length card₁ ≡ length card₂) (entries : length table₁ ≡ length table₂)
    (fine₁ : (mounted (lent_as staging card₁ text) table₁ used).code ≡ Fine) (fine₂ : (mounted (lent_as staging card₂ text) table₂ used).code ≡ Fine)
    (many : length (records_on card₁ used) ≡ length (records_on card₂ used)) where
  pub two-boxes-live-side-by-side : (listeners : ℕ → Type 0)
      → ((k : ℕ) → listeners k → (r : List ℕ) → may_read text k (topic_of r) ≡ true → Memᴰ r (records_on card₁ used) ↔ Memᴰ r (records_on card₂ used))
      → (os : List Op) → AllKeepTo listeners (mounted_as (lent_as staging card₁ text) table₁ used) os
      → Together listeners (mounted_as (lent_as staging card₁ text) table₁ used) (mounted_as (lent_as staging card₂ text) table₂ used) os
  two-boxes-live-side-by-side = lives-alike staging text card₁ card₂ table₁ table₂ used long entries fine₁ fine₂ many

-- ==== 02, A2: byte 127, DEL

-- "Topics, filters and manifests now refuse it": exactly these are good there; a card keeps what was good by 01
pub a-topic-is-good-exactly-when : (s : List ℕ) → (good_topic s ≡ true) ↔ (GoodIn01 1 2048 s × NoDel s)
a-topic-is-good-exactly-when = called-exactly 1 2048

pub a-filter-is-good-exactly-when : (s : List ℕ) → (good_filter s ≡ true) ↔ (GoodIn01 0 64 s × NoDel s)
a-filter-is-good-exactly-when = called-exactly 0 64

pub a-card-keeps-a-topic-exactly-when : (s : List ℕ) → (card_topic s ≡ true) ↔ GoodIn01 1 2048 s
a-card-keeps-a-topic-exactly-when = kept-exactly 1 2048

-- no call that names it is accepted, and "no grant can name it"
pub no-accepted-call-names-del : (w : World) (o : Op) → is_refused (step w o).said ≡ false → NoDel (named_in o)
no-accepted-call-names-del = names-no-del

pub no-grant-names-del : (text : List ℕ) (g : Right) → Memᴰ g (rights_said (manifest_of text)) → NoDel g.topic
no-grant-names-del = grants-no-del

-- so no event with it is in a list or in a read, whatever the card and the staged bytes hold
pub no-list-has-del : (w : World) (k : ℕ) → All Clean (list_left w k)
no-list-has-del = lists-no-del

pub no-read-has-del : (w : World) (m : List ℕ) (at : ℕ) → is_refused (step w (Read m at)).said ≡ false
    → All Clean (read_list w.lent w.host m at)
no-read-has-del = reads-no-del

-- "Cards that already hold such a topic still mount": behind any sound card, an event of any kind on any topic that is good by 01, with byte 127 or not: mount accepts
-- the card, if the table has an entry for the event, and look-up shows it
module _ (staging text table front : List ℕ) (h : Header) (trace topic payload : List ℕ) (least : 65536 ≤ length staging) (most : length staging ≤ 1048576)
    (good : is_good (manifest_of text) ≡ true) (entries : h.id.0 ≤ length table) (may : MayFollow front h trace topic payload) where
  abbrev old : List ℕ
  old = record_bytes h trace topic payload

  abbrev l : Lent
  l = lent_as staging (front ++ old) text

  pub a-kept-topic-still-mounts : (mounted l table (length (front ++ old))).code ≡ Fine
  a-kept-topic-still-mounts = kept-mounts staging text table front h trace topic payload least most good entries may

  pub look-up-shows-a-kept-topic : ((step (mounted_as l table (length (front ++ old))) (LookUp h.id.0)).said ≡ Part old) × (topic_of old ≡ topic)
  look-up-shows-a-kept-topic =
      (kept-shown staging text table front h trace topic payload least most good entries may, kept-named staging text table front h trace topic payload least most good entries may)

-- ==== 02, A11: the charge rule

-- "what the budget does is shown once for any charge rule": a box is any `World`, with any function from a record's length to units as its rule, in all that is said of every
-- box above (what is refused with -6, that units then stay, the mark). Over a life, by any rule: units are the sum of the charges of the accepted calls, and the mark is as heard.
pub by-any-rule-the-box-keeps-its-diary : (charge : ℕ → ℕ) (l : Lent) (table : List ℕ) (used : ℕ) (os : List Op) → All (λ (o : Op). Bytes (memory_of o)) os → (mounted l table used).code ≡ Fine
    → Agrees (run (mounted_under charge l table used) os) (diary (mounted_under charge l table used) (first_page l used) os)
by-any-rule-the-box-keeps-its-diary = ruled-agrees

pub by-any-rule-the-box-stands-as-heard : (charge : ℕ → ℕ) (l : Lent) (table : List ℕ) (used : ℕ) (os : List Op)
    → Stands (run (mounted_under charge l table used) os) (standing (mounted_under charge l table used) at_mount os)
by-any-rule-the-box-stands-as-heard = ruled-stands

-- and the box that is mounted has the edition that its manifest's line names, after any calls
pub the-rule-is-the-one-that-the-manifest-names : (l : Lent) (table : List ℕ) (used : ℕ) (os : List Op) (m : Made l.text)
    → (run (mounted_as l table used) os).charge ≡ charge_by (edition m.choice)
the-rule-is-the-one-that-the-manifest-names = life-rule

-- "A manifest line `charge` after line one .. names 1 (also when absent) or 2", "A bad line is a bad manifest": a manifest is good exactly when it is line one, then this line or
-- none, then grants, and nothing else; and then it says just that
pub a-manifest-is-good-exactly-when : (text : List ℕ) → (is_good (manifest_of text) ≡ true) ↔ Made text
a-manifest-is-good-exactly-when = made-exactly

pub a-manifest-says-what-it-is-made-of : (text : List ℕ) (m : Made text) → manifest_of text ≡ said_by text m
a-manifest-says-what-it-is-made-of = says_so

-- 01: "write 1 + total_len / 8", a record's length being a multiple of 8; 02: "4 units plus total_len / 64 rounded up"
pub a-write-costs-by-each-edition : (total q : ℕ)
    → (total ≡ 8 * q → charge_by First total ≡ 1 + q) × (total ≤ 64 * q → 64 * q < total + 64 → charge_by Second total ≡ 4 + q)
a-write-costs-by-each-edition = by-edition

-- ==== 02, A5: which field was it?

-- "Each -5 from a module call also gives the byte offset, in its argument record, of the first field that failed, in the order of the checks": the field, like the
-- code, is that of the first check that fails, and 0 where none does. Which check names which field is in `checks_of`.
pub the-first-check-that-fails-gives-the-field : (w : World) (o : Op) → (step w o).field ≡ failing_field (checks_of w o)
the-first-check-that-fails-gives-the-field = field_is

-- so -5 comes with just this field: all checks before it are passed, and its own fails. (Of what is no module call f is 0, and 0 is then no field.)
pub a-field-is-named-exactly-when-it-is-the-first-that-failed : (w : World) (o : Op) (f : ℕ)
    → ((code_of (step w o).said ≡ Bad) × ((step w o).field ≡ f)) ↔ FirstFailed f (checks_of w o)
a-field-is-named-exactly-when-it-is-the-first-that-failed = named-exactly

-- "Other codes give 0", and so do calls that are accepted
pub only-minus-5-names-a-field : (w : World) (o : Op) → is_bad (code_of (step w o).said) ≡ false → (step w o).field ≡ 0
only-minus-5-names-a-field = others-0

-- .. and what is no module call
pub only-a-module-call-names-a-field : (w : World) (o : Op) → is_module_call o ≡ false → (step w o).field ≡ 0
only-a-module-call-names-a-field = module-only

-- the fields that the checks of each module call name, in their order
pub a-call-names-its-own-fields : (w : World) (o : Op) → is_module_call o ≡ true → named_by (checks_of w o) ≡ fields_of o
a-call-names-its-own-fields = its_own

-- and what each field is held against, in numbers. Of write, read and tl_open the topic; of write the payload, with len as it stands, then len
module _ (m : List ℕ) where
  pub a-record-is-fine-exactly-when : (a n : ℕ) → (record_fine m a n ≡ true) ↔ Aligned a n (length m)
  a-record-is-fine-exactly-when = record-exactly m

  pub a-topic-is-fine-exactly-when : (s : Span) → (topic_fine m s ≡ true) ↔ (Inside s.ptr s.len (length m) × (good_topic (bytes_at m s) ≡ true))
  a-topic-is-fine-exactly-when = topic-exactly m

  pub a-filter-is-fine-exactly-when : (s : Span) → (filter_fine m s ≡ true) ↔ (Inside s.ptr s.len (length m) × (good_filter (bytes_at m s) ≡ true))
  a-filter-is-fine-exactly-when = filter-exactly m

  pub an-out-buffer-is-fine-exactly-when : (s : Span) → (out_fine m s ≡ true) ↔ Aligned s.ptr s.len (length m)
  an-out-buffer-is-fine-exactly-when = out-exactly m

  pub a-payload-is-fine-exactly-when : (w : WriteArgs) → (data_fine m w ≡ true) ↔ Payload (is_value w.flags) w.place w.len (length m)
  a-payload-is-fine-exactly-when = data-exactly m

pub its-len-is-fine-exactly-when : (w : WriteArgs) → (len_fine w ≡ true) ↔ (is_value w.flags ≡ true → w.len ≡ 32)
its-len-is-fine-exactly-when = len-exactly

-- ==== 02, A9: keep an index

-- "With card and table as the last operation left them": from a mount that is not refused on, through any calls, the card is sound and the table has the offset of each of its records
pub the-table-fits-over-a-life : (l : Lent) (table : List ℕ) (used : ℕ) → (mounted l table used).code ≡ Fine → (os : List Op) → Indexed (run (mounted_as l table used) os)
the-table-fits-over-a-life l table used fine os = (life-kept (charge_of l.text) l table used fine os).indexed

-- ".. every answer of tl_next and look-up is shown equal to the walk's": the answer with the next state, the memory, and the part that is shown
module _ (w : World) (i : Indexed w) where
  pub next-answers-what-the-walk-answers : (m : List ℕ) (at : ℕ) → next_answer w.lent w.index w.host m at ≡ walk_answer w.lent w.index w.host m at
  next-answers-what-the-walk-answers = answer-walks w.lent w.index w.host i.sound i.fits

  pub next-leaves-the-memory-that-the-walk-leaves : (m : List ℕ) (at : ℕ) → next_memory w.lent w.index w.host m at ≡ walk_memory w.lent w.index w.host m at
  next-leaves-the-memory-that-the-walk-leaves = memory-walks w.lent w.index w.host i.sound i.fits

  pub look-up-shows-what-the-walk-shows : (id : ℕ) → looked w.lent w.index w.host id ≡ walk_looked w.lent w.index w.host id
  look-up-shows-what-the-walk-shows = looked-walks w.lent w.index w.host i.sound i.fits

-- "mount fills the table": accepted, "it sets just as many entries as there are records; the others stay. Refused, it changes none."
module _ (l : Lent) (table : List ℕ) (used : ℕ) where
  pub a-mount-sets-the-entries-of-the-records-alone : is_fine (mounted l table used).code ≡ true → OnlyThere table (mount_index l table used) 0 (length (records_on l.card used))
  a-mount-sets-the-entries-of-the-records-alone = mount-entries l table used

  pub a-refused-mount-sets-no-entry : is_fine (mounted l table used).code ≡ false → mount_index l table used ≡ table
  a-refused-mount-sets-no-entry = no-entries l table used

-- .. and a commit those of the new records
pub a-commit-sets-the-new-entries-alone : (w : World) (code : ℤ) (events bytes : ℕ) → (step w (Return code)).said ≡ Ended (Committed events bytes)
    → OnlyThere w.index (step w (Return code)).world.index (card_count w.host) events
a-commit-sets-the-new-entries-alone = commit-entries

-- a table of a card's length / 136 entries is always enough: mount never refuses it, and no weave is ever discarded for it
pub enough-entries-at-mount : (l : Lent) (table : List ℕ) (used : ℕ) → used ≤ length l.card → length l.card / 136 ≤ length table
    → length (records_on l.card used) ≤ length table
enough-entries-at-mount = enough-at-mount

pub enough-entries-for-a-commit : (w : World) → Indexed w → w.host.used + w.host.weave.staged ≤ length w.lent.card → staged_chained w ≡ true
    → length w.lent.card / 136 ≤ length w.index → card_count w.host + w.host.weave.count ≤ length w.index
enough-entries-for-a-commit = enough-for-commit

-- ==== Nothing of this holds because nothing happens

-- card, table and staging of any length with room for it, and all 0: one event is begun, staged and committed
pub a-run-commits : (n c t : ℕ) → 65536 ≤ n → n ≤ 1048576 → 136 ≤ c → c ≤ 16777216 → 1 ≤ t
    → (step (run (mounted_as (lent_as (zeros n) (zeros c) one_module) (zeros t) 0) (Begin (zeros 128) ∷ Ingress (116 ∷ []) [] ∷ [])) (Return (pos 0))).said
    ≡ Ended (Committed 1 136)
a-run-commits = commits-one

-- and the run of two modules: each call is accepted, with its answer (promises/TwoWeaves: what is lent, what is asked, what is said)
pub a-run-of-two-modules : (n c t : ℕ) → 65536 ≤ n → n ≤ 1048576 → 136 ≤ c → c ≤ 16777216 → 1 ≤ t
    → said_over (mounted_as (lent_as (zeros n) (zeros c) two_modules) (zeros t) 0) the_calls ≡ the_answers
a-run-of-two-modules = all_said

-- and of two bands (promises/Bands): after mount, begin, ingress and band A's turn it is band B's. Whatever payload band A's take has, the boxes are then alike; and where it is not the same, they differ
module _ (n : ℕ) (least : 65536 ≤ n) (most : n ≤ 1048576) (p q : List ℕ) (long : length p ≡ length q) (short : length p ≤ 1000000) where
  pub it-is-band-bs-turn : BandBsTurn (in_band_b n p) p
  it-is-band-bs-turn = bands-turn n least most p short

  pub two-boxes-are-alike : Alike (in_band_b n p) (in_band_b n q)
  two-boxes-are-alike = bands-alike n least most p q long short

  pub and-they-differ : (in_band_b n p).lent.card ≡ (in_band_b n q).lent.card → p ≡ q
  and-they-differ = bands-differ n least most p q long short
