-- 02, A2: "Topics, filters and manifests now refuse it with -5 .. Cards that already hold such a topic still mount; no grant can name it."
-- Assumes nothing.
use Rattle.std.specs.Prelude.{◌≡◌, true, ℕ, ◌+◌, ◌≤◌, length}
use mathlib.Core.List.{List, [], Memᴰ}
use Rattle.text.specs.Utf8.{utf8}
use Rattle.text.specs.Compare.{same_bytes}
use Rattle.text.specs.Words.{panic_topic}
use Rattle.text.specs.Sizes.{total_len}
use Rattle.record.specs.declared.Header.{Header}
use Rattle.record.specs.Record.{topic_of}
use Rattle.record.specs.Good.{good_kind, good_payload}
use Rattle.card.specs.Pick.{All}
use Rattle.card.specs.Records.{records, size}
use Rattle.weave.specs.Args.{open_args, bytes_at}
use Rattle.writes.specs.Stage.{written_topic}
use Rattle.reads.specs.Reading.{read_topic}
use Rattle.promises.specs.Box.{Op, Begin, Ingress, Write, Read, Open, Next, Close, Return, LookUp}

-- byte 127, DEL, is not among these
abbrev pub NoDel : List ℕ → Type 0
NoDel s = Memᴰ 127 s → ⊥

-- the topic of a record has no byte 127
abbrev pub Clean : List ℕ → Type 0
Clean r = NoDel (topic_of r)

-- the topic, or the filter, that a call names; the others name none
abbrev pub named_in : Op → List ℕ
named_in (Begin args) = []
named_in (Ingress topic payload) = topic
named_in (Write m a) = written_topic m a
named_in (Read m a) = read_topic m a
named_in (Open m a) = bytes_at m (open_args m a).topic
named_in (Next m a) = []
named_in (Close m a) = []
named_in (Return code) = []
named_in (LookUp id) = []

-- what a topic or a filter had to be before, and on a card still has to be. 01: "A topic or filter has a length within its sizes and is UTF-8 with no byte from
-- 0 to 31"
pub record GoodIn01 (least most : ℕ) (s : List ℕ) : Type 0 where
  pub at_least : least ≤ length s
  pub at_most : length s ≤ most
  pub encoded : utf8 s ≡ true
  pub no-control : All (λ (b : ℕ). 32 ≤ b) s

-- an event that 01 lets stand behind `front`, a sound card
pub record MayFollow (front : List ℕ) (h : Header) (trace topic payload : List ℕ) : Type 0 where
  pub sound : size (records front 1) ≡ length front
  pub number : h.id.0 ≡ 1 + length (records front 1)
  pub traced : length trace ≡ 32
  -- "flags are one of the four, auth_agent is 0 to 16 (0 only with flags 1)"
  pub kind : good_kind h.flags h.agent ≡ true
  -- "the topic is good and is `filament/core/panic` only with agent 0"
  pub topic-good : GoodIn01 1 2048 topic
  pub panic : same_bytes topic panic_topic ≡ true → h.agent ≡ 0
  -- "a value payload has just the stored form above"
  pub payload-good : good_payload h.flags payload ≡ true
  -- "card 0 to 16,777,216"
  pub fits : length front + total_len (length topic) (length payload) ≤ 16777216
