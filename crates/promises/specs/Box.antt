-- A box over its whole life: what it is, what can be asked of it, and what each asking gives. It is made of the operations' own definitions and nothing
-- else; `proofs/ContractsHold.antt` shows that each operation's contract is its case of `step`.
-- Assumes nothing.
use Rattle.std.specs.Prelude.{◌≡◌, Bool, true, false, not, cond, List, [], ◌∷◌, ℕ, ◌≤◌, ℤ, pos, length, take}
use Rattle.le.specs.Le.{Bytes}
use Rattle.manifest.specs.Saying.{charge_of}
use Rattle.card.specs.Records.{records}
use Rattle.card.specs.Walk.{chain_to}
use Rattle.card.specs.Index.{Fits}
use Rattle.weave.specs.declared.Code.{Code}
use Rattle.weave.specs.declared.Code.TheVariants.{Fine}
use Rattle.weave.specs.Codes.{is_fine, number}
use Rattle.host.specs.declared.Host.{Host}
use Rattle.host.specs.declared.Answer.{Answer}
use Rattle.host.specs.declared.Fate.{Fate}
use Rattle.host.specs.declared.Fate.TheVariants.{Refused, Discarded, Running, Committed}
use Rattle.host.specs.Hosts.{Lent, lent_as, first_id}
use Rattle.host.specs.Fates.{fate_number, fate_events, fate_bytes}
use Rattle.host.specs.Begin.{begin_answer, begin_staging}
use Rattle.writes.specs.Stage.{ingress_answer, ingress_staging, write_answer, write_staging}
use Rattle.reads.specs.Reading.{read_answer, read_memory}
use Rattle.host.specs.Cursors.{open_answer, close_answer}
use Rattle.reads.specs.Paging.{next_answer, next_memory}
use Rattle.host.specs.Ending.{return_answer, return_card, return_index, return_staging}
use Rattle.mounts.specs.Mount.{mounted, mount_index, looked}

-- A box between two calls: its state, the buffers it is lent, the table that is lent beside the card (02, A9), and its charge rule, from a record's length to
-- units. Here the rule is any such function: what is shown of every box is shown once for every rule.
pub record World : Type 0 where
  pub host : Host
  pub lent : Lent
  pub index : List ℕ
  pub charge : ℕ → ℕ

-- the box that a host with these buffers is: its rule is the one that the manifest names (02, A11)
abbrev pub box_of : Host → Lent → List ℕ → World
box_of h l table = record { host = h; lent = l; index = table; charge = charge_of l.text }

-- the records of a card of which so many bytes are used: "Ids start at 1"
abbrev pub records_on : List ℕ → ℕ → List (List ℕ)
records_on card used = records (take used card) 1

abbrev pub card_records : World → List (List ℕ)
card_records w = records_on w.lent.card w.host.used

-- bytes that begin a card: "a chain of sound records numbered from 1 up to the next number"; and so the used part
abbrev pub starts_card : List ℕ → ℕ → Bool
starts_card s next = chain_to s 1 next

abbrev pub card_chained : Lent → Host → Bool
card_chained l h = starts_card (take h.used l.card) h.next.0

-- the table has the offset of each record on the card
abbrev pub IndexFits : World → Type 0
IndexFits w = Fits w.index (take w.host.used w.lent.card) (first_id w.host)

-- a card that mount takes: "card 0 to 16,777,216", and sound; and a table that fits it
pub record Indexed (w : World) : Type 0 where
  pub small : length w.lent.card ≤ 16777216
  pub sound : card_chained w.lent w.host ≡ true
  pub fits : IndexFits w

-- the staged part, and its records: "a staged event already has the id it will have if committed"
abbrev pub staged_part : Lent → Host → List ℕ
staged_part l h = take h.weave.staged l.staging

abbrev pub staged_records : World → List (List ℕ)
staged_records w = records (staged_part w.lent w.host) w.host.next.0

-- what can be asked. A module call carries the memory that it is lent ("memory is whatever the module makes of it") and its record's address
pub data Op : Type 0 where
  Begin : List ℕ → Op
  Ingress : List ℕ → List ℕ → Op
  Write : List ℕ → ℕ → Op
  Read : List ℕ → ℕ → Op
  Open : List ℕ → ℕ → Op
  Next : List ℕ → ℕ → Op
  Close : List ℕ → ℕ → Op
  Return : ℤ → Op
  LookUp : ℕ → Op

-- what is said: a code, Fine with a number; a return's fate; the part that a look-up shows
pub data Said : Type 0 where
  Answered : Code → ℕ → Said
  Ended : Fate → Said
  Part : List ℕ → Said

-- one asking: what is said, the field that a -5 of a module call names besides (02, A5; else 0), the box afterwards, and the memory afterwards
pub record Step : Type 0 where
  pub said : Said
  pub field : ℕ
  pub world : World
  pub memory : List ℕ

abbrev pub answered : World → Answer → List ℕ → List ℕ → Step
answered w a staging' memory' =
    record {
      said = Answered a.code a.value;
      field = a.field;
      world = record { host = a.host; lent = lent_as staging' w.lent.card w.lent.text; index = w.index; charge = w.charge };
      memory = memory';
    }

-- "Each operation takes the host's state and hands the next state back"
unfoldable pub step : World → Op → Step
step w (Begin args) = answered w (begin_answer w.lent w.host args) (begin_staging w.lent w.host args) []
step w (Ingress topic payload) =
    answered w (ingress_answer w.lent w.host topic payload) (ingress_staging w.lent w.host topic payload) []
step w (Write m a) = answered w (write_answer w.charge w.lent w.host m a) (write_staging w.charge w.lent w.host m a) m
step w (Read m a) = answered w (read_answer w.lent w.host m a) w.lent.staging (read_memory w.lent w.host m a)
step w (Open m a) = answered w (open_answer w.lent w.host m a) w.lent.staging m
step w (Next m a) =
    answered w (next_answer w.lent w.index w.host m a) w.lent.staging (next_memory w.lent w.index w.host m a)
step w (Close m a) = answered w (close_answer w.lent w.host m a) w.lent.staging m
step w (Return code) =
    record {
      said = Ended (return_answer w.lent w.index w.host code).fate;
      field = 0;
      world = record {
        host = (return_answer w.lent w.index w.host code).host;
        lent = lent_as (return_staging w.lent w.index w.host code) (return_card w.lent w.index w.host code) w.lent.text;
        index = return_index w.lent w.index w.host code;
        charge = w.charge;
      };
      memory = [];
    }
step w (LookUp id) = record { said = Part (looked w.lent w.index w.host id); field = 0; world = w; memory = [] }

-- the memory that is lent to a call; none to the others
abbrev pub memory_of : Op → List ℕ
memory_of (Begin args) = []
memory_of (Ingress topic payload) = []
memory_of (Write m a) = m
memory_of (Read m a) = m
memory_of (Open m a) = m
memory_of (Next m a) = m
memory_of (Close m a) = m
memory_of (Return code) = []
memory_of (LookUp id) = []

-- the arguments that are lent to begin; none to the others
abbrev pub args_of : Op → List ℕ
args_of (Begin args) = args
args_of (Ingress topic payload) = []
args_of (Write m a) = []
args_of (Read m a) = []
args_of (Open m a) = []
args_of (Next m a) = []
args_of (Close m a) = []
args_of (Return code) = []
args_of (LookUp id) = []

-- what is lent holds bytes
pub record LendsBytes (o : Op) : Type 0 where
  pub memory : Bytes (memory_of o)
  pub args : Bytes (args_of o)

-- any sequence of calls: "each call gets card, staging, manifest and state as the last one left them", and the table
abbrev pub run : World → List Op → World
run w [] = w
run w (o ∷ os) = run (step w o).world os

-- the box as mount leaves it, under any charge rule; and as it is, under the one that the manifest names
abbrev pub mounted_under : (ℕ → ℕ) → Lent → List ℕ → ℕ → World
mounted_under charge' l table used = record { host = (mounted l table used).host; lent = l; index = mount_index l table used; charge = charge' }

abbrev pub mounted_as : Lent → List ℕ → ℕ → World
mounted_as l table used = box_of (mounted l table used).host l (mount_index l table used)

-- ---- 01's numbers for what is said

-- a code below 0, or the answer; a return's by its fate; of a look-up the length of the part
abbrev pub said_number : Said → ℤ
said_number (Answered c v) = cond (is_fine c) (pos v) (number c)
said_number (Ended f) = fate_number f
said_number (Part bytes) = pos (length bytes)

-- "The outcome gives events and bytes"; no other answer does
abbrev pub said_events : Said → ℕ
said_events (Answered c v) = 0
said_events (Ended f) = fate_events f
said_events (Part bytes) = 0

abbrev pub said_bytes : Said → ℕ
said_bytes (Answered c v) = 0
said_bytes (Ended f) = fate_bytes f
said_bytes (Part bytes) = 0

-- refused: a code is given. "Discards are outcomes", and a look-up gives no code
abbrev pub is_refused : Said → Bool
is_refused (Answered c v) = not (is_fine c)
is_refused (Ended (Refused c)) = true
is_refused (Ended (Discarded c)) = false
is_refused (Ended Running) = false
is_refused (Ended (Committed events bytes)) = false
is_refused (Part bytes) = false

-- the code of a refusal
abbrev pub code_of : Said → Code
code_of (Answered c v) = c
code_of (Ended (Refused c)) = c
code_of (Ended (Discarded c)) = Fine
code_of (Ended Running) = Fine
code_of (Ended (Committed events bytes)) = Fine
code_of (Part bytes) = Fine
