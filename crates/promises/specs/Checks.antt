-- 01, "Order of checks": of each call, what is asked, one after the other, and the code that is given where it fails. "No code is given in any other case." 02, A5: with
-- -5 from a module call, the field too: "the byte offset, in its argument record, of the first field that failed, in the order of the checks".
-- Assumes nothing.
use Rattle.std.specs.Prelude.{◌≡◌, Bool, true, false, not, ◌||◌, cond, List, [], ◌∷◌, ◌++◌, ℕ, ◌+◌, ◌^◌, leb, eqb, length, Result, Ok, Err}
use Rattle.text.specs.Topic.{good_topic}
use Rattle.text.specs.Flags.{good_flags}
use Rattle.value.specs.declared.Fault.{Fault}
use Rattle.value.specs.declared.Fault.TheVariants.{Outside, Unfit}
use Rattle.manifest.specs.Saying.{is_good, modules_said, manifest_of, may_read, may_write}
use Rattle.card.specs.Walk.{chain_to}
use Rattle.card.specs.Listing.{fit, page_of}
use Rattle.card.specs.Look.{Look, is_fault, page_by}
use Rattle.card.specs.Records.{size}
use Rattle.card.specs.declared.Page.{Page}
use Rattle.weave.specs.declared.Code.{Code}
use Rattle.weave.specs.declared.Code.TheVariants.{Fine, Denied, NotNow, Unsound, NoRoom, Bad, Budget, BadValue}
use Rattle.weave.specs.declared.Spoiled.{Spoiled}
use Rattle.weave.specs.declared.Spoiled.TheVariants.{Not, Overspent, Panicked}
use Rattle.weave.specs.Codes.{is_fine}
use Rattle.weave.specs.Sums.{added}
use Rattle.weave.specs.Args.{record_fine, write_args, read_args, open_args, next_args, close_handle, topic_fine, filter_fine, out_fine, data_fine, len_fine}
use Rattle.weave.specs.Checks.{lent_fine, handle_fine, slot_fine}
use Rattle.takes.specs.Payloads.{payload_checked}
use Rattle.takes.specs.Pages.{page_code, page_charge}
use Rattle.host.specs.Hosts.{lengths_of, index_fine}
use Rattle.writes.specs.Stage.{room_fine, is_panic, written_topic, data_len, write_charge}
use Rattle.reads.specs.Reading.{read_topic, read_list}
use Rattle.reads.specs.Paging.{next_look}
use Rattle.promises.specs.Box.{World, staged_part, Op, Begin, Ingress, Write, Read, Open, Next, Close, Return, LookUp}

pub record Check : Type 0 where
  pub asks : Bool
  pub code : Code
  pub field : ℕ

-- a check that names no field: of another code, or of what is no module call
abbrev pub check : Bool → Code → Check
check asks' code' = record { asks = asks'; code = code'; field = 0 }

-- -5, and the field
abbrev pub check_at : Bool → ℕ → Check
check_at asks' field' = record { asks = asks'; code = Bad; field = field' }

abbrev pub Passed : Check → Type 0
Passed c = c.asks ≡ true

-- what the first that fails has, whatever that is; `none` where none fails
abbrev pub of_first : {A : Type 0} → (Check → A) → A → List Check → A
of_first has none [] = none
of_first has none (c ∷ cs) = cond c.asks (of_first has none cs) (has c)

-- its code; Fine where none fails
abbrev pub failing : List Check → Code
failing cs = of_first (λ (c : Check). c.code) Fine cs

-- .. and its field
abbrev pub failing_field : List Check → ℕ
failing_field cs = of_first (λ (c : Check). c.field) 0 cs

-- ---- what several calls ask

abbrev pub is_overspent : Spoiled → Bool
is_overspent Not = false
is_overspent Overspent = true
is_overspent Panicked = false

abbrev pub is_panicked : Spoiled → Bool
is_panicked Not = false
is_panicked Overspent = false
is_panicked Panicked = true

abbrev pub is_outside : Result ℕ Fault → Bool
is_outside (Ok len) = false
is_outside (Err Outside) = true
is_outside (Err Unfit) = false

abbrev pub is_unfit : Result ℕ Fault → Bool
is_unfit (Ok len) = false
is_unfit (Err Outside) = false
is_unfit (Err Unfit) = true

-- (1), but for the memory
abbrev pub lent_asks : World → Bool
lent_asks w =
    lent_fine w.host.lengths (lengths_of w.lent) (is_good (manifest_of w.lent.text)) (modules_said (manifest_of w.lent.text)) w.host.used
    w.host.next.0 w.host.weave

-- (1) of a call that is lent the table: "A table whose length differs from the one at mount"
abbrev pub index_asks : World → Bool
index_asks w = index_fine w.index w.host

-- .. of what is no module call
abbrev pub lent_asked : World → Check
lent_asked w = check (lent_asks w) Bad

-- (1) to (3) of a module call with the memory m: "254 for anything before check 4"
abbrev pub gate : World → List ℕ → List Check
gate w m =
    check_at (leb (length m) 1048576) 254
    ∷ check_at (lent_asks w) 254
    ∷ check w.host.weave.running NotNow
    ∷ check (not (is_overspent w.host.weave.spoiled.0)) Budget
    ∷ check (not (is_panicked w.host.weave.spoiled.0)) Denied
    ∷ []

-- (9), (10): a page that was found
abbrev pub paged : World → Page → List Check
paged w p = check (is_fine (page_code p)) NoRoom ∷ check (leb (w.host.weave.units + page_charge p) w.host.weave.resmax) Budget ∷ []

-- (10): a call that costs 1
abbrev one_unit : World → Check
one_unit w = check (leb (w.host.weave.units + 1) w.host.weave.resmax) Budget

-- ---- each call: "a topic counts as offset 0, a span as its pointer, a fault inside a value .. as the data field; 255 for the record's own address"

abbrev pub write_asks : World → List ℕ → ℕ → List Check
write_asks w m a =
    check_at (record_fine m a 40) 255  -- (4)
    ∷ check_at (topic_fine m (write_args m a).topic) 0  -- (5)
    ∷ check_at (good_flags (write_args m a).flags) 32  -- (6): "flags come first"
    ∷ check_at (data_fine m (write_args m a)) 16
    ∷ check_at (len_fine (write_args m a)) 24
    ∷ check (may_write w.lent.text w.host.weave.turn (written_topic m a)) Denied  -- (7)
    ∷ check_at (not (is_outside (payload_checked m (write_args m a)))) 16  -- (8)
    ∷ check (not (is_unfit (payload_checked m (write_args m a)))) BadValue
    -- a panic counts "once through check 8"
    ∷ check (is_panic m a || room_fine w.host (write_args m a).topic.len (data_len m a) (length w.lent.staging)) NoRoom  -- (9)
    ∷ check (is_panic m a || leb (w.host.weave.units + write_charge w.charge m a) w.host.weave.resmax) Budget  -- (10)
    ∷ []

abbrev pub read_first : World → List ℕ → ℕ → List Check
read_first w m a =
    check_at (record_fine m a 40) 255  -- (4)
    ∷ check_at (topic_fine m (read_args m a).topic) 0  -- (5)
    ∷ check_at (out_fine m (read_args m a).out) 24  -- (6)
    ∷ check (may_read w.lent.text w.host.weave.turn (read_topic m a)) Denied  -- (7)
    ∷ check (chain_to (staged_part w.lent w.host) w.host.next.0 (added w.host.next.0 w.host.weave.count (2 ^ 63))) Unsound  -- (9)
    ∷ []

abbrev pub read_asks : World → List ℕ → ℕ → List Check
read_asks w m a = read_first w m a ++ paged w (page_of (read_args m a).out.len (read_list w.lent w.host m a))

abbrev pub open_asks : World → List ℕ → ℕ → List Check
open_asks w m a =
    check_at (record_fine m a 48) 255  -- (4)
    ∷ check_at (filter_fine m (open_args m a).topic) 0  -- (5)
    ∷ check_at (leb (open_args m a).desc 1) 40  -- (6)
    ∷ check (slot_fine w.host.weave) NoRoom  -- (9)
    ∷ one_unit w  -- (10)
    ∷ []

abbrev pub next_first : World → List ℕ → ℕ → List Check
next_first w m a =
    check_at (record_fine m a 24) 255  -- (4)
    ∷ check_at (out_fine m (next_args m a).out) 8  -- (6)
    ∷ check (handle_fine w.host.weave (next_args m a).handle) NotNow  -- (9)
    ∷ []

-- what it looks at: the records from the cursor's place through the one that ends the page, by the table
abbrev pub next_looks : World → List ℕ → ℕ → Look
next_looks w m a = next_look w.lent w.index w.host m a

abbrev pub next_asks : World → List ℕ → ℕ → List Check
next_asks w m a =
    next_first w m a
    -- (9): "a looked-at record that is unsound or has another number -3"
    ++ (check (not (is_fault (next_looks w m a).stop)) Unsound ∷ paged w (page_by (next_looks w m a)))

abbrev pub close_asks : World → List ℕ → ℕ → List Check
close_asks w m a =
    check_at (record_fine m a 8) 255  -- (4)
    ∷ check (handle_fine w.host.weave (close_handle m a)) NotNow  -- (9)
    ∷ one_unit w  -- (10)
    ∷ []

abbrev pub checks_of : World → Op → List Check
checks_of w (Begin args) =
    lent_asked w  -- (1)
    ∷ check (not w.host.weave.running) NotNow  -- (2)
    ∷ check (not w.host.faulted) Denied  -- (3)
    ∷ check (eqb (length args) 128) Bad  -- (4)
    ∷ []
checks_of w (Ingress topic payload) =
    lent_asked w  -- (1)
    ∷ check w.host.weave.running NotNow  -- (2)
    ∷ check (not w.host.weave.late) NotNow
    ∷ check (good_topic topic) Bad  -- (5)
    ∷ check (room_fine w.host (length topic) (length payload) (length w.lent.staging)) NoRoom  -- (9)
    ∷ []
checks_of w (Write m a) = gate w m ++ write_asks w m a
checks_of w (Read m a) = gate w m ++ read_asks w m a
checks_of w (Open m a) = gate w m ++ open_asks w m a
checks_of w (Next m a) = check_at (index_asks w) 254 ∷ (gate w m ++ next_asks w m a)
checks_of w (Close m a) = gate w m ++ close_asks w m a
-- "Return has checks 1 and 2 only; look-up has check 1 only", and gives no code
checks_of w (Return code) = check (index_asks w) Bad ∷ lent_asked w ∷ check w.host.weave.running NotNow ∷ []
checks_of w (LookUp id) = []

-- ---- what an accepted call answers

abbrev pub answers : World → Op → ℕ
answers w (Begin args) = 0
answers w (Ingress topic payload) = 0
answers w (Write m a) = 0
-- "Answers the bytes written, 0 when none is left"
answers w (Read m a) = size (fit (read_args m a).out.len (read_list w.lent w.host m a))
-- "handle numbers 1, 2, 3 .. within the weave"
answers w (Open m a) = w.host.weave.opened + 1
answers w (Next m a) = size (next_looks w m a).part
answers w (Close m a) = 0
-- a return answers its fate, and a look-up the part that it shows
answers w (Return code) = 0
answers w (LookUp id) = 0

-- ---- when ingress is too late: it comes "only before the first accepted module call or return of the weave"

-- whether it is after an accepted call
abbrev pub too_late : World → Op → Bool
too_late w (Begin args) = false
too_late w (Ingress topic payload) = w.host.weave.late
too_late w (Write m a) = true
too_late w (Read m a) = true
too_late w (Open m a) = true
too_late w (Next m a) = true
too_late w (Close m a) = true
too_late w (Return code) = true
too_late w (LookUp id) = w.host.weave.late
