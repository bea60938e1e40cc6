-- What a careful listener writes down: the events on the card, those staged in the weave that runs, and what its accepted module calls have cost. An
-- entry goes by what was asked and what the box said; a record's time, trace and agent are those of the weave, which begin set and which stay (`SameWeave`). Promise 2 over the life of a box is that the box agrees with it.
-- Assumes nothing.
use Rattle.std.specs.Prelude.{◌≡◌, true, cond, List, [], ◌∷◌, ◌++◌, ℕ, ◌+◌, ◌/◌, ◌≤◌, length}
use Rattle.record.specs.Record.{record_bytes}
use Rattle.card.specs.Walk.{chain_to}
use Rattle.weave.specs.Args.{write_args}
use Rattle.takes.specs.Payloads.{payload_bytes}
use Rattle.host.specs.declared.Fate.{Fate}
use Rattle.host.specs.declared.Fate.TheVariants.{Refused, Discarded, Running, Committed}
use Rattle.host.specs.Hosts.{Lent}
use Rattle.writes.specs.Stage.{header_for, written_topic, is_panic}
use Rattle.promises.specs.Box.{World, records_on, card_records, card_chained, staged_part, staged_records, Op, Begin, Ingress, Write, Read, Open, Next, Close, Return, LookUp, Said, Answered, Ended, Part, step, is_refused}

pub record Diary : Type 0 where
  pub kept : List (List ℕ)
  pub staged : List (List ℕ)
  pub units : ℕ

-- ---- the events: "flags are the write's (1 for ingress), .. auth_agent the module number (0 for ingress)"

unfoldable pub ingress_record : World → List ℕ → List ℕ → List ℕ
ingress_record w topic payload = record_bytes (header_for w.host 1 0) w.host.weave.trace topic payload

unfoldable pub written_record : World → List ℕ → ℕ → List ℕ
written_record w m a =
    record_bytes (header_for w.host (write_args m a).flags w.host.weave.turn) w.host.weave.trace (written_topic m a)
    (payload_bytes m (write_args m a))

-- ---- one entry

-- the number that a call answers
abbrev pub answer_of : Said → ℕ
answer_of (Answered c v) = v
answer_of (Ended f) = 0
answer_of (Part bytes) = 0

-- "units are a sum over the accepted module calls"
abbrev pub spent : Diary → ℕ → Diary
spent d charge = record { kept = d.kept; staged = d.staged; units = d.units + charge }

abbrev pub held : Diary → List ℕ → Diary
held d r = record { kept = d.kept; staged = d.staged ++ (r ∷ []); units = d.units }

-- nothing is staged
abbrev pub emptied : Diary → Diary
emptied d = record { kept = d.kept; staged = []; units = 0 }

-- "Commit appends the staged bytes to the used part"
abbrev pub ended : Diary → Fate → Diary
ended d (Refused c) = d
ended d (Discarded c) = emptied d
ended d Running = d
ended d (Committed events bytes) = record { kept = d.kept ++ d.staged; staged = []; units = 0 }

-- a return's entry, by the outcome that was said
abbrev pub ended_by : Diary → Said → Diary
ended_by d (Answered c v) = d
ended_by d (Ended f) = ended d f
ended_by d (Part bytes) = d

-- the entry of a call that was accepted. "Charges: write ..", by the box's rule; "read and next 1 + bytes written / 8; open and close 1"
abbrev pub noted : World → Diary → Op → Diary
noted w d (Begin args) = emptied d
noted w d (Ingress topic payload) = held d (ingress_record w topic payload)
noted w d (Write m a) =
    cond (is_panic m a) d (spent (held d (written_record w m a)) (w.charge (length (written_record w m a))))
noted w d (Read m a) = spent d (1 + answer_of (step w (Read m a)).said / 8)
noted w d (Open m a) = spent d 1
noted w d (Next m a) = spent d (1 + answer_of (step w (Next m a)).said / 8)
noted w d (Close m a) = spent d 1
noted w d (Return code) = ended_by d (step w (Return code)).said
noted w d (LookUp id) = d

-- a refusal is not entered
abbrev pub entered : World → Diary → Op → Diary
entered w d o = cond (is_refused (step w o).said) d (noted w d o)

abbrev pub diary : World → Diary → List Op → Diary
diary w d [] = d
diary w d (o ∷ os) = diary (step w o).world (entered w d o) os

-- the diary's first page, at mount: what the card holds
abbrev pub first_page : Lent → ℕ → Diary
first_page l used = record { kept = records_on l.card used; staged = []; units = 0 }

-- ---- the box agrees

pub record Agrees (w : World) (d : Diary) : Type 0 where
  pub on-card : w.host.used ≤ length w.lent.card
  pub in-staging : w.host.weave.staged ≤ length w.lent.staging
  pub traced : length w.host.weave.trace ≡ 32
  -- the card's records are the events that were kept, and the staged bytes carry that chain on
  pub chained : card_chained w.lent w.host ≡ true
  pub kept : card_records w ≡ d.kept
  pub carried : chain_to (staged_part w.lent w.host) w.host.next.0 (w.host.next.0 + w.host.weave.count) ≡ true
  pub staged : staged_records w ≡ d.staged
  -- "units are a sum over the accepted module calls"
  pub units : w.host.weave.units ≡ d.units
