-- The run of two modules, on every empty card with room for one event.
-- Assumes nothing.
use mathlib.Core.Path.{◌≡◌, refl, sym, ap, ◌∙◌}
use mathlib.Core.Bool.{Bool, true, false}
use mathlib.Core.List.{List, [], ◌∷◌, ◌++◌}
use mathlib.Core.Logic.{inl}
use Prim.Native.Nat.{ℕ, ◌+◌, ◌/◌, ◌^◌, ◌≤◌, ◌<◌}
use native.Mathlib.Omega.{arith}
use borrow.Author.Tests.{le-leb}
use lib.ListN.{length, take}
use lib.IntN.{pos}
use Rattle.le.specs.Le.{le_at, le_bytes}
use Rattle.le.specs.Splice.{part, splice, zeros}
use Rattle.text.specs.Compare.{same_bytes, prefix_of}
use Rattle.text.specs.Flags.{good_flags}
use Rattle.text.specs.Span.{inside}
use Rattle.text.specs.Sizes.{total_len}
use Rattle.std.specs.Prelude.{Result, is_ok}
use Rattle.value.specs.declared.Fault.{Fault}
use Rattle.manifest.specs.Charge.{charge_by}
use Rattle.manifest.specs.Saying.{may_read}
use Rattle.record.specs.Record.{id_of, topic_of}
use Rattle.record.specs.Written.{Written}
use Rattle.card.specs.Pick.{only}
use Rattle.card.specs.Listing.{listed, in_order, list_of, fit, page_of, advance}
use Rattle.card.specs.declared.Page.TheVariants.{End, Bytes as Sized}
use Rattle.card.specs.Records.{up_to, records}
use Rattle.card.specs.declared.Cursor.{Cursor}
use Rattle.card.proofs.ListingLaws.{unfit, fit-lists}
use Rattle.weave.specs.Args.{record_fine, field_at, write_args, open_args}
use Rattle.weave.specs.declared.Code.TheVariants.{Fine}
use Rattle.weave.specs.Codes.{is_fine}
use Rattle.weave.specs.Findings.{is_clear}
use Rattle.weave.specs.States.{fresh_weave, begun_weave, paid, holding, tabled}
use Rattle.weave.specs.Sums.{added}
use Rattle.weave.specs.declared.Slot.{Slot}
use Rattle.weave.specs.Table.{free_slot, no_slots, has_handle, slot_place, slot_of}
use Rattle.weave.specs.Checks.{slot_fine, handle_fine}
use Rattle.weave.specs.Moves.{cursor_of, opened_with, moved_to, closed_at}
use Rattle.weave.proofs.SumLaws.{added-sum}
use Rattle.weave.proofs.CodeLaws.{found_left}
use Rattle.takes.specs.Payloads.{payload_bytes}
use Rattle.takes.specs.Begun.{arg_at, begun}
use Rattle.takes.specs.Pages.{page_charge}
use Rattle.takes.specs.Opening.{opening}
use Rattle.host.specs.Hosts.{Lent, lent_as, with_weave, card_count, settle}
use Rattle.host.specs.Begin.{begin_check, begin_answer, begin_staging}
use Rattle.host.specs.Hosts.{fresh_host}
use Rattle.mounts.specs.Mount.{mounted}
use Rattle.writes.specs.Stage.{room_fine, header_for, written_topic, data_len, write_charge, written, write_check, write_answer, write_staging}
use Rattle.host.specs.declared.Fate.TheVariants.{Running, Committed}
use Rattle.reads.specs.Reading.{read_sound, read_list, read_page, read_check, read_answer}
use Rattle.reads.specs.Paging.{next_found, next_look, next_list, next_page, next_check, next_host, cursor_by, answer_by, next_answer}
use Rattle.reads.proofs.PagingLaws.{check-before}
use Rattle.card.specs.Index.{entered}
use Rattle.host.specs.Cursors.{open_check, open_next, open_answer, close_check, close_next, close_answer}
use Rattle.host.specs.Ending.{committed, finished, return_answer, return_card, return_index, return_staging}
use Rattle.promises.specs.Box.{World, records_on, card_records, staged_records, Begin, Write, Read, Open, Next, Close, Return, Answered, Ended, box_of, step, is_refused, mounted_as}
use Rattle.promises.specs.Accepted.{WriteMay, ReadMay, OpenMay, NextMay, CloseMay}
use Rattle.promises.specs.Outcome.{Conditions, next_turn}
use Rattle.promises.specs.Diary.{Diary, written_record, noted, first_page}
use Rattle.promises.specs.Turn.{list_left, Allowed}
use Rattle.promises.specs.TwoWeaves.{said_over, two_modules, hundred, memory, the_calls, the_answers}
use Rattle.promises.proofs.AcceptedLaws.{settle-ok}
use Rattle.promises.proofs.OutcomeHolds.{commits, committed-exactly}
use Rattle.promises.proofs.ReturnHolds.{running-exactly, turn-passes}
use Rattle.promises.proofs.AcceptedHolds.{begin-exactly, write-exactly, read-exactly, open-exactly, next-exactly, close-exactly, read-page, next-page}
use Rattle.promises.proofs.AskedHolds.{asked_by}
use Rattle.promises.proofs.ReadBackHolds.{write-reads-back}
use Rattle.promises.proofs.ListHolds.{means-listed}
use Rattle.promises.proofs.RunLaws.{no_bytes, long, At, one_more, empty_box, mount-ok, mount-host, mount-table, at_first}
use Rattle.promises.proofs.MovesHold.{next-hands}
use Rattle.promises.proofs.PagesHold.{page-is, look-sound}
use Rattle.promises.proofs.TwoLaws.{long-memory, said-good, said-first, said-two, may-write, may-read, topic-is, write-args, read-args, open-args, next-args, close-arg, records-fine, topic-fine, filter-fine, out-fine, no-panic, data-fine, len-fine, raw, memory-bytes, topic-long, topic-read}

one-listed : (p : List ℕ → Bool) (d : Bool) (k : ℕ) (r : List ℕ) → d ≡ false → k ≡ 9 → p r ≡ true → take k (only p (in_order d (r ∷ []))) ≡ r ∷ []
unfolding only in_order
one-listed p d k r x y z = rw (x, y, z)

module _ (n c t : ℕ) (n-least : 65536 ≤ n) (n-most : n ≤ 1048576) (c-least : 136 ≤ c) (c-most : c ≤ 16777216) (t-least : 1 ≤ t) where
  abbrev l : Lent
  l = lent_as (zeros n) (zeros c) two_modules

  abbrev table : List ℕ
  table = zeros t

  fine : (mounted l table 0).code ≡ Fine
  fine = mount-ok n c t two_modules n-least n-most c-most said-good

  abbrev w₀ : World
  w₀ = empty_box n c t two_modules

  at₀ : At l table [] w₀ (first_page l 0)
  at₀ = at_first n c t two_modules n-least n-most c-most said-good

  -- ---- begin

  e₀ : is_refused (step w₀ (Begin hundred)).said ≡ false
  unfolding fresh_host fresh_weave
  e₀ = (begin-exactly w₀ hundred).1 (record { check-1 = at₀.check-1; idle = refl; healthy = refl; long = refl })

  f₀ : is_fine (begin_check w₀.lent w₀.host hundred) ≡ true
  unfolding step begin_answer
  f₀ = settle-ok w₀.host _ 0 _ e₀

  abbrev w₁ : World
  w₁ = box_of (with_weave w₀.host (begun hundred)) (lent_as (zeros (length (zeros n))) (zeros c) two_modules) table

  s₀ : (step w₀ (Begin hundred)).said ≡ Answered Fine 0
  unfolding step begin_answer settle
  s₀ = rw f₀

  q₀ : (step w₀ (Begin hundred)).world ≡ w₁
  unfolding step begin_answer begin_staging settle
  q₀ = rw f₀

  abbrev d₁ : Diary
  d₁ = record { kept = records_on (zeros c) 0; staged = []; units = 0 }

  at₁ : At l table (take 1 the_calls) w₁ d₁
  at₁ = one_more l table fine [] w₀ (first_page l 0) at₀ (Begin hundred) no_bytes e₀ w₁ q₀

  staging₁ : length w₁.lent.staging ≡ n
  staging₁ = long (length (zeros n)) ∙ long n

  -- ---- write

  may₁ : WriteMay w₁.charge w₁.lent w₁.host memory 8
  unfolding with_weave begun begun_weave arg_at le_at fresh_host good_flags room_fine charge_by
  may₁ = record {
    gated = record { memory = rw long-memory (omega arith); check-1 = at₁.check-1; running = refl; unspoiled = refl };
    args = records-fine.0;
    topic = rw write-args topic-fine;
    flags = rw write-args;
    payload = data-fine;
    value_len = len-fine;
    granted = rw topic-read may-write;
    value = ap (λ (k : Result ℕ Fault). is_ok k) raw;
    room = λ p. rw (raw, topic-long, staging₁, le-leb 136 n (omega arith));
    budget = λ p. rw (said-first, raw, topic-long) (omega arith);
  }

  e₁ : is_refused (step w₁ (Write memory 8)).said ≡ false
  e₁ = (write-exactly w₁ memory 8).1 may₁

  f₁ : is_clear (write_check w₁.charge w₁.lent w₁.host memory 8) ≡ true
  unfolding step write_answer
  f₁ = settle-ok w₁.host _ 0 _ e₁

  -- the event
  abbrev event : List ℕ
  event = written_record w₁ memory 8

  abbrev bytes₂ : ℕ
  bytes₂ = total_len (write_args memory 8).topic.len (data_len memory 8)

  abbrev w₂ : World
  w₂ =
      box_of (with_weave w₁.host (holding (paid w₁.host.weave (write_charge w₁.charge memory 8)) bytes₂ (length w₁.lent.staging)))
      (lent_as (splice w₁.lent.staging w₁.host.weave.staged event) (zeros c) two_modules) table

  s₁ : (step w₁ (Write memory 8)).said ≡ Answered Fine 0
  unfolding step write_answer settle
  s₁ = rw f₁

  q₁ : (step w₁ (Write memory 8)).world ≡ w₂
  unfolding step write_answer write_staging written_record settle written
  q₁ = rw (f₁, no-panic)

  time₁ : w₁.host.weave.time.0 < 256 ^ 8
  unfolding with_weave begun begun_weave arg_at le_at
  time₁ = omega arith

  written₁ : Written (header_for w₁.host (write_args memory 8).flags w₁.host.weave.turn) w₁.host.weave.trace (written_topic memory 8) (payload_bytes memory (write_args memory 8)) event
  written₁ = (write-reads-back w₁ memory 8 memory-bytes at₁.agrees.traced time₁ e₁ no-panic).1

  payload-none : length (payload_bytes memory (write_args memory 8)) ≡ 0
  unfolding payload_bytes write_args field_at record_fine inside memory le_bytes le_at part
  payload-none = refl

  event-long : length event ≡ 136
  event-long = written₁.long ∙ rw (topic-read, payload-none)

  event-topic : topic_of event ≡ 116 ∷ []
  event-topic = written₁.topic ∙ topic-read

  event-id : id_of event ≡ 1
  unfolding header_for with_weave begun begun_weave fresh_host added
  event-id = written₁.id

  abbrev d₂ : Diary
  d₂ = record { kept = records_on (zeros c) 0; staged = event ∷ []; units = 0 + w₁.charge (length event) }

  at₂ : At l table (take 2 the_calls) w₂ d₂
  at₂ = rw no-panic at (one_more l table fine (take 1 the_calls) w₁ d₁ at₁ (Write memory 8) memory-bytes e₁ w₂ q₁)

  staged₂ : w₂.host.weave.staged ≡ 136
  unfolding with_weave holding paid begun begun_weave
  staged₂ = rw (raw, topic-long) (added-sum 0 136 (length w₁.lent.staging) (omega (arith, staging₁)))

  count₂ : w₂.host.weave.count ≡ 1
  unfolding with_weave holding paid begun begun_weave added
  count₂ = refl

  -- ---- module 1 returns

  s₂ : (step w₂ (Return (pos 0))).said ≡ Ended Running
  unfolding with_weave holding paid begun begun_weave
  s₂ =
      (running-exactly w₂ (pos 0)).1
      (record { returns = record { table-long = at₂.kept.long; check-1 = at₂.check-1; running = refl }; unspoiled = refl; zero-or-one = inl refl }, rw said-two (omega arith))

  abbrev w₃ : World
  w₃ = box_of (with_weave w₂.host (next_turn w₂.host.weave)) w₂.lent w₂.index

  at₃ : At l table (take 3 the_calls) w₃ d₂
  at₃ = rw s₂ at (one_more l table fine (take 2 the_calls) w₂ d₂ at₂ (Return (pos 0)) no_bytes (ap is_refused s₂) w₃ (turn-passes w₂ (pos 0) s₂))

  -- ---- module 2 reads it

  list₃ : read_list w₃.lent w₃.host memory 48 ≡ event ∷ []
  unfolding read_list only same_bytes
  list₃ = rw (at₃.agrees.staged, read-args, topic-is, event-topic, event-id)

  page₃ : page_of 136 (event ∷ []) ≡ Sized 136
  unfolding page_of fit
  page₃ = rw (event-long, event-long)

  may₃ : ReadMay w₃.lent w₃.host memory 48
  unfolding with_weave holding paid begun begun_weave arg_at le_at added fresh_host charge_by
  may₃ = record {
    gated = record { memory = rw long-memory (omega arith); check-1 = at₃.check-1; running = refl; unspoiled = refl };
    args = records-fine.1.0;
    topic = rw read-args topic-fine;
    out = rw read-args out-fine;
    granted = rw (read-args, topic-is) may-read.1;
    sound = at₃.agrees.carried;
    room = rw (list₃, read-args, page₃);
    budget = rw (list₃, read-args, page₃, said-first, raw, topic-long) (omega arith);
  }

  e₃ : is_refused (step w₃ (Read memory 48)).said ≡ false
  e₃ = (read-exactly w₃ memory 48).1 may₃

  f₃ : is_clear (read_check w₃.lent w₃.host memory 48) ≡ true
  unfolding step read_answer
  f₃ = settle-ok w₃.host _ _ _ e₃

  abbrev w₄ : World
  w₄ = box_of (with_weave w₃.host (paid w₃.host.weave (page_charge (read_page w₃.lent w₃.host memory 48)))) w₃.lent w₃.index

  q₃ : (step w₃ (Read memory 48)).world ≡ w₄
  unfolding step read_answer settle
  q₃ = rw f₃

  s₃ : (step w₃ (Read memory 48)).said ≡ Answered Fine 136
  unfolding step read_answer settle read_check
  s₃ = rw (f₃, read-page w₃ memory 48 (found_left (read_sound w₃.lent w₃.host memory 48) _ f₃), list₃, read-args, page₃)

  abbrev d₄ : Diary
  d₄ = record { kept = records_on (zeros c) 0; staged = event ∷ []; units = (0 + w₁.charge (length event)) + (1 + 136 / 8) }

  at₄ : At l table (take 4 the_calls) w₄ d₄
  at₄ = rw s₃ at (one_more l table fine (take 3 the_calls) w₃ d₂ at₃ (Read memory 48) memory-bytes e₃ w₄ q₃)

  -- ---- module 2 returns, and all is committed

  meets₄ : Conditions w₄.lent w₄.index w₄.host (pos 0)
  unfolding with_weave holding paid begun begun_weave fresh_host
  meets₄ = record {
    table-long = at₄.kept.long;
    check-1 = at₄.check-1;
    running = refl;
    unspoiled = refl;
    zero-or-one = inl refl;
    last = sym said-two;
    sound = at₄.agrees.carried;
    fits = omega (arith, staged₂, long c);
    entries = omega (arith, count₂, long t);
  }

  s₄ : (step w₄ (Return (pos 0))).said ≡ Ended (Committed 1 136)
  unfolding with_weave holding paid begun begun_weave
  s₄ = (committed-exactly w₄ (pos 0) 1 136).1 (meets₄, (sym count₂, sym staged₂))

  abbrev w₅ : World
  w₅ =
      box_of (committed w₄.host w₄.host.weave.count w₄.host.weave.staged)
      (lent_as (zeros (length w₄.lent.staging)) (splice (zeros c) w₄.host.used (take w₄.host.weave.staged w₄.lent.staging)) two_modules)
      (entered table (card_count w₄.host) w₄.host.used (staged_records w₄))

  q₄ : (step w₄ (Return (pos 0))).world ≡ w₅
  unfolding step return_answer return_card return_index return_staging finished
  q₄ = rw (commits w₄.lent w₄.index w₄.host (pos 0) meets₄)

  abbrev d₅ : Diary
  d₅ = record { kept = records_on (zeros c) 0 ++ (event ∷ []); staged = []; units = 0 }

  at₅ : At l table (take 5 the_calls) w₅ d₅
  at₅ = rw s₄ at (one_more l table fine (take 4 the_calls) w₄ d₄ at₄ (Return (pos 0)) no_bytes (ap is_refused s₄) w₅ q₄)

  -- ---- the next weave begins

  e₅ : is_refused (step w₅ (Begin hundred)).said ≡ false
  unfolding committed with_weave fresh_host fresh_weave
  e₅ = (begin-exactly w₅ hundred).1 (record { check-1 = at₅.check-1; idle = refl; healthy = refl; long = refl })

  f₅ : is_fine (begin_check w₅.lent w₅.host hundred) ≡ true
  unfolding step begin_answer
  f₅ = settle-ok w₅.host _ 0 _ e₅

  abbrev w₆ : World
  w₆ = box_of (with_weave w₅.host (begun hundred)) (lent_as (zeros (length w₅.lent.staging)) w₅.lent.card two_modules) w₅.index

  s₅ : (step w₅ (Begin hundred)).said ≡ Answered Fine 0
  unfolding step begin_answer settle
  s₅ = rw f₅

  q₅ : (step w₅ (Begin hundred)).world ≡ w₆
  unfolding step begin_answer begin_staging settle
  q₅ = rw f₅

  at₆ : At l table (take 6 the_calls) w₆ d₅
  at₆ = one_more l table fine (take 5 the_calls) w₅ d₅ at₅ (Begin hundred) no_bytes e₅ w₆ q₅

  -- ---- a cursor is opened

  may₆ : OpenMay w₆.lent w₆.host memory 88
  unfolding with_weave begun begun_weave arg_at le_at slot_fine slot_place has_handle no_slots free_slot
  may₆ = record {
    gated = record { memory = rw long-memory (omega arith); check-1 = at₆.check-1; running = refl; unspoiled = refl };
    args = records-fine.1.1.0;
    filter = rw open-args filter-fine;
    desc = rw open-args (omega arith);
    room = refl;
    budget = omega arith;
  }

  e₆ : is_refused (step w₆ (Open memory 88)).said ≡ false
  e₆ = (open-exactly w₆ memory 88).1 may₆

  f₆ : is_clear (open_check w₆.lent w₆.host memory 88) ≡ true
  unfolding step open_answer
  f₆ = settle-ok w₆.host _ _ _ e₆

  abbrev slot₆ : Slot
  slot₆ = opening memory (open_args memory 88) 1

  abbrev w₇ : World
  w₇ = box_of (with_weave w₆.host (opened_with w₆.host.weave slot₆)) w₆.lent w₆.index

  s₆ : (step w₆ (Open memory 88)).said ≡ Answered Fine 1
  unfolding step open_answer settle with_weave begun begun_weave added
  s₆ = rw f₆

  q₆ : (step w₆ (Open memory 88)).world ≡ w₇
  unfolding step open_answer open_next settle with_weave begun begun_weave added
  q₆ = rw f₆

  abbrev d₇ : Diary
  d₇ = record { kept = records_on (zeros c) 0 ++ (event ∷ []); staged = []; units = 0 + 1 }

  at₇ : At l table (take 7 the_calls) w₇ d₇
  at₇ = one_more l table fine (take 6 the_calls) w₆ d₅ at₆ (Open memory 88) memory-bytes e₆ w₇ q₆

  -- what is on the card
  card₇ : card_records w₇ ≡ event ∷ []
  unfolding records up_to
  card₇ = at₇.agrees.kept

  -- what the cursor lists
  abbrev cursor₆ : Cursor
  cursor₆ = slot₆.cursor

  allowed₆ : Allowed (may_read two_modules 1) cursor₆ event
  unfolding prefix_of
  allowed₆ =
      let a = asked_by w₆ memory 88 1 e₆ in
      record {
        granted = rw event-topic may-read.0;
        begins = rw (a.filter, open-args, topic-is, event-topic);
        from = rw (a.from, open-args, event-id) (omega arith);
        to = rw (a.to, open-args, event-id) (omega arith);
      }

  lists : list_of (may_read two_modules 1) cursor₆ (event ∷ []) ≡ event ∷ []
  unfolding list_of
  lists =
      let a = asked_by w₆ memory 88 1 e₆ in
      one-listed (listed (may_read two_modules 1) cursor₆) cursor₆.desc cursor₆.limit event (a.desc ∙ rw open-args) (a.limit ∙ rw open-args)
      (means-listed (may_read two_modules 1) cursor₆ event allowed₆)

  list₇ : list_left w₇ 1 ≡ event ∷ []
  unfolding next_list cursor_of slot_of with_weave opened_with tabled paid begun begun_weave slot_place has_handle no_slots free_slot opening
  list₇ = rw card₇ lists

  -- ---- the event is handed over

  may₇ : NextMay w₇.lent w₇.index w₇.host memory 136
  unfolding with_weave opened_with tabled paid begun begun_weave arg_at le_at added handle_fine slot_place has_handle no_slots free_slot opening
  may₇ = record {
    table-long = at₇.kept.long;
    gated = record { memory = rw long-memory (omega arith); check-1 = at₇.check-1; running = refl; unspoiled = refl };
    args = records-fine.1.1.1.0;
    out = rw next-args out-fine;
    handle = rw next-args;
    sound = look-sound w₇ at₇.kept.indexed memory 136;
    room = rw (page-is w₇ at₇.kept.indexed memory 136, next-args, list₇, page₃);
    budget = rw (page-is w₇ at₇.kept.indexed memory 136, next-args, list₇, page₃) (omega arith);
  }

  e₇ : is_refused (step w₇ (Next memory 136)).said ≡ false
  e₇ = (next-exactly w₇ memory 136).1 may₇

  f₇ : is_clear (next_check w₇.lent w₇.index w₇.host memory 136) ≡ true
  unfolding step next_answer answer_by
  f₇ = settle-ok w₇.host _ _ _ e₇

  abbrev cursor₈ : Cursor
  cursor₈ = advance cursor₆ (event ∷ [])

  abbrev w₈ : World
  w₈ = box_of (with_weave w₇.host (moved_to w₇.host.weave 1 cursor₈ 18)) w₇.lent w₇.index

  before₇ : is_clear (next_check w₇.lent w₇.index w₇.host memory 136) ≡ true → is_clear (next_found w₇.lent w₇.index w₇.host memory 136) ≡ true
  before₇ = check-before w₇.host (next_found w₇.lent w₇.index w₇.host memory 136) (next_look w₇.lent w₇.index w₇.host memory 136)

  page₇ : next_page w₇.lent w₇.index w₇.host memory 136 ≡ Sized 136
  page₇ = next-page w₇ memory 136 (before₇ f₇) ∙ page-is w₇ at₇.kept.indexed memory 136 ∙ rw (next-args, list₇) page₃

  cursor₇ : cursor_of w₇.host.weave 1 ≡ cursor₆
  unfolding cursor_of slot_of with_weave opened_with tabled paid begun begun_weave slot_place has_handle no_slots free_slot opening
  cursor₇ = refl

  fit₇ : fit 136 (event ∷ []) ≡ event ∷ []
  unfolding fit
  fit₇ = rw event-long

  s₇ : (step w₇ (Next memory 136)).said ≡ Answered Fine 136
  unfolding step next_answer answer_by settle
  s₇ = rw (f₇, page₇)

  q₇ : (step w₇ (Next memory 136)).world ≡ w₈
  unfolding step next_answer answer_by settle next_host cursor_by
  q₇ = rw (f₇, page₇, next-hands w₇ memory 136 at₇.kept.indexed, next-args, list₇, cursor₇, fit₇)

  abbrev d₈ : Diary
  d₈ = record { kept = records_on (zeros c) 0 ++ (event ∷ []); staged = []; units = (0 + 1) + (1 + 136 / 8) }

  at₈ : At l table (take 8 the_calls) w₈ d₈
  at₈ = rw s₇ at (one_more l table fine (take 7 the_calls) w₇ d₇ at₇ (Next memory 136) memory-bytes e₇ w₈ q₇)

  -- nothing is left
  rest₈ : list_of (may_read two_modules 1) cursor₈ (event ∷ []) ≡ []
  unfolding unfit
  rest₈ = rw (lists, fit₇, event-long) at (fit-lists (may_read two_modules 1) cursor₆ (event ∷ []) 136 (tt, tt))

  cursor-8 : cursor_of w₈.host.weave 1 ≡ cursor₈
  unfolding cursor_of slot_of with_weave opened_with moved_to tabled paid begun begun_weave slot_place has_handle no_slots free_slot opening
  cursor-8 = refl

  list₈ : list_left w₈ 1 ≡ []
  unfolding next_list with_weave opened_with moved_to tabled paid begun begun_weave
  list₈ = rw (card₇, cursor-8) rest₈

  -- ---- the end is told

  may₈ : NextMay w₈.lent w₈.index w₈.host memory 136
  unfolding with_weave opened_with moved_to tabled paid begun begun_weave arg_at le_at added handle_fine slot_place has_handle no_slots free_slot opening page_of
  may₈ = record {
    table-long = at₈.kept.long;
    gated = record { memory = rw long-memory (omega arith); check-1 = at₈.check-1; running = refl; unspoiled = refl };
    args = records-fine.1.1.1.0;
    out = rw next-args out-fine;
    handle = rw next-args;
    sound = look-sound w₈ at₈.kept.indexed memory 136;
    room = rw (page-is w₈ at₈.kept.indexed memory 136, next-args, list₈);
    budget = rw (page-is w₈ at₈.kept.indexed memory 136, next-args, list₈) (omega arith);
  }

  e₈ : is_refused (step w₈ (Next memory 136)).said ≡ false
  e₈ = (next-exactly w₈ memory 136).1 may₈

  f₈ : is_clear (next_check w₈.lent w₈.index w₈.host memory 136) ≡ true
  unfolding step next_answer answer_by
  f₈ = settle-ok w₈.host _ _ _ e₈

  before₈ : is_clear (next_check w₈.lent w₈.index w₈.host memory 136) ≡ true → is_clear (next_found w₈.lent w₈.index w₈.host memory 136) ≡ true
  before₈ = check-before w₈.host (next_found w₈.lent w₈.index w₈.host memory 136) (next_look w₈.lent w₈.index w₈.host memory 136)

  page₈ : next_page w₈.lent w₈.index w₈.host memory 136 ≡ End
  unfolding page_of
  page₈ = next-page w₈ memory 136 (before₈ f₈) ∙ page-is w₈ at₈.kept.indexed memory 136 ∙ rw (next-args, list₈)

  abbrev w₉ : World
  w₉ = box_of (with_weave w₈.host (moved_to w₈.host.weave 1 cursor₈ 1)) w₈.lent w₈.index

  s₈ : (step w₈ (Next memory 136)).said ≡ Answered Fine 0
  unfolding step next_answer answer_by settle
  s₈ = rw (f₈, page₈)

  q₈ : (step w₈ (Next memory 136)).world ≡ w₉
  unfolding step next_answer answer_by settle next_host cursor_by fit advance
  q₈ = rw (f₈, page₈, next-hands w₈ memory 136 at₈.kept.indexed, next-args, list₈, cursor-8)

  abbrev d₉ : Diary
  d₉ = record { kept = records_on (zeros c) 0 ++ (event ∷ []); staged = []; units = ((0 + 1) + (1 + 136 / 8)) + (1 + 0 / 8) }

  at₉ : At l table (take 9 the_calls) w₉ d₉
  at₉ = rw s₈ at (one_more l table fine (take 8 the_calls) w₈ d₈ at₈ (Next memory 136) memory-bytes e₈ w₉ q₈)

  -- ---- the cursor is closed

  may₉ : CloseMay w₉.lent w₉.host memory 160
  unfolding with_weave opened_with moved_to tabled paid begun begun_weave arg_at le_at added handle_fine slot_place has_handle no_slots free_slot opening
  may₉ = record {
    gated = record { memory = rw long-memory (omega arith); check-1 = at₉.check-1; running = refl; unspoiled = refl };
    args = records-fine.1.1.1.1;
    handle = rw close-arg;
    budget = omega arith;
  }

  e₉ : is_refused (step w₉ (Close memory 160)).said ≡ false
  e₉ = (close-exactly w₉ memory 160).1 may₉

  f₉ : is_clear (close_check w₉.lent w₉.host memory 160) ≡ true
  unfolding step close_answer
  f₉ = settle-ok w₉.host _ _ _ e₉

  abbrev w₁₀ : World
  w₁₀ = box_of (with_weave w₉.host (closed_at w₉.host.weave 1)) w₉.lent w₉.index

  s₉ : (step w₉ (Close memory 160)).said ≡ Answered Fine 0
  unfolding step close_answer settle
  s₉ = rw f₉

  q₉ : (step w₉ (Close memory 160)).world ≡ w₁₀
  unfolding step close_answer close_next settle
  q₉ = rw (f₉, close-arg)

  at₁₀ : At l table (take 10 the_calls) w₁₀ (noted w₉ d₉ (Close memory 160))
  at₁₀ = one_more l table fine (take 9 the_calls) w₉ d₉ at₉ (Close memory 160) memory-bytes e₉ w₁₀ q₉

  -- ---- and module 1 returns

  s₁₀ : (step w₁₀ (Return (pos 0))).said ≡ Ended Running
  unfolding with_weave opened_with moved_to closed_at tabled paid begun begun_weave
  s₁₀ =
      (running-exactly w₁₀ (pos 0)).1
      (record { returns = record { table-long = at₁₀.kept.long; check-1 = at₁₀.check-1; running = refl }; unspoiled = refl; zero-or-one = inl refl }, rw said-two (omega arith))

  -- THE PROMISE
  pub all_said : said_over (mounted_as l table 0) the_calls ≡ the_answers
  all_said =
      rw (mount-host n c t two_modules n-least n-most c-most said-good, mount-table n c t two_modules n-least n-most c-most said-good, s₀, q₀, s₁, q₁, s₂, turn-passes w₂ (pos 0) s₂, s₃, q₃, s₄, q₄, s₅, q₅, s₆, q₆, s₇, q₇, s₈, q₈, s₉, q₉, s₁₀)
