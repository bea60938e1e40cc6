-- The arguments of module calls: the record at an address of the memory (000, part II 3.16, 3.17 and 3.24 to 3.26), and the texts and buffers it names.
-- Assumes nothing.
use Rattle.std.specs.Prelude.{Bool, not, ◌&&◌, ◌||◌, cond, List, ℕ, ◌+◌, ◌%◌, eqb, length, take}
use Rattle.le.specs.Le.{le_at}
use Rattle.le.specs.Splice.{part, splice, zeros}
use Rattle.text.specs.Topic.{good_topic, good_filter}
use Rattle.text.specs.Span.{inside}
use Rattle.text.specs.Flags.{is_value}
use Rattle.value.specs.declared.Span.{Span}
use Rattle.weave.specs.declared.args.WriteArgs.{WriteArgs}
use Rattle.weave.specs.declared.args.ReadArgs.{ReadArgs}
use Rattle.weave.specs.declared.args.OpenArgs.{OpenArgs}
use Rattle.weave.specs.declared.args.NextArgs.{NextArgs}

-- check 4: "Argument record addresses .. are multiples of 8", and the record's n bytes lie inside memory
unfoldable pub record_fine : List ℕ → ℕ → ℕ → Bool
record_fine m a n = eqb (a % 8) 0 && inside a n (length m)

-- the number of w bytes at `off` of the argument record of n bytes at a; 0 where there is no such record
unfoldable pub field_at : ℕ → List ℕ → ℕ → ℕ → ℕ → ℕ
field_at w m a n off = cond (record_fine m a n) (le_at w m (a + off)) 0

-- ---- the fields that a -5 may name, by their offsets (02, A5): "a topic counts as offset 0, a span as its pointer, a fault inside a value .. as the data field"

-- of write, read and tl_open
abbrev pub topic_at : ℕ
topic_at = 0

-- of write
abbrev pub data_at : ℕ
data_at = 16

abbrev pub len_at : ℕ
len_at = 24

abbrev pub flags_at : ℕ
flags_at = 32

-- out_ptr of read, and of tl_next
abbrev pub read_out_at : ℕ
read_out_at = 24

abbrev pub next_out_at : ℕ
next_out_at = 8

-- of tl_open
abbrev pub desc_at : ℕ
desc_at = 40

-- ---- the records

-- "Write (40-byte arguments)": topic 0, data 16, len 24, flags 32
unfoldable pub write_args : List ℕ → ℕ → WriteArgs
write_args m a =
    record {
      topic = record { ptr = field_at 8 m a 40 topic_at; len = field_at 8 m a 40 8 };
      place = field_at 8 m a 40 data_at;
      len = field_at 8 m a 40 len_at;
      flags = field_at 4 m a 40 flags_at;
    }

-- "Read (40 bytes)": topic 0, start 16, out_ptr 24, out_cap 32
unfoldable pub read_args : List ℕ → ℕ → ReadArgs
read_args m a =
    record {
      topic = record { ptr = field_at 8 m a 40 topic_at; len = field_at 8 m a 40 8 };
      start = record { 0 = field_at 8 m a 40 16 };
      out = record { ptr = field_at 8 m a 40 read_out_at; len = field_at 8 m a 40 32 };
    }

-- "tl_open (48 bytes)": topic 0, start 16, end 24, limit 32, desc 40
unfoldable pub open_args : List ℕ → ℕ → OpenArgs
open_args m a =
    record {
      topic = record { ptr = field_at 8 m a 48 topic_at; len = field_at 8 m a 48 8 };
      from = record { 0 = field_at 8 m a 48 16 };
      to = record { 0 = field_at 8 m a 48 24 };
      limit = field_at 8 m a 48 32;
      desc = field_at 1 m a 48 desc_at;
    }

-- "tl_next (24 bytes)": handle 0, out_ptr 8, buf_cap 16
unfoldable pub next_args : List ℕ → ℕ → NextArgs
next_args m a = record { handle = field_at 8 m a 24 0; out = record { ptr = field_at 8 m a 24 next_out_at; len = field_at 8 m a 24 16 } }

-- "tl_close (8 bytes)": handle 0
abbrev pub close_handle : List ℕ → ℕ → ℕ
close_handle m a = field_at 8 m a 8 0

-- the bytes of a span
abbrev pub bytes_at : List ℕ → Span → List ℕ
bytes_at m s = part s.ptr s.len m

abbrev pub span_fine : List ℕ → Span → Bool
span_fine m s = inside s.ptr s.len (length m)

-- check 5: the span, then "a length within its sizes and is UTF-8 with no byte from 0 to 31", and by 02, A2, no byte 127
unfoldable pub topic_fine : List ℕ → Span → Bool
topic_fine m s = span_fine m s && good_topic (bytes_at m s)

-- for tl_open the filter is the topic
unfoldable pub filter_fine : List ℕ → Span → Bool
filter_fine m s = span_fine m s && good_filter (bytes_at m s)

-- check 6 of read and next: "out_ptr .. multiples of 8"
unfoldable pub out_fine : List ℕ → Span → Bool
out_fine m s = eqb (s.ptr % 8) 0 && span_fine m s

-- check 6 of write, behind the flags: "the address of a value" is a multiple of 8, and the payload, a value or not, is a span inside memory
unfoldable pub data_fine : List ℕ → WriteArgs → Bool
data_fine m w = (not (is_value w.flags) || eqb (w.place % 8) 0) && inside w.place w.len (length m)

-- .. then, of a value, "write's len is 32"
unfoldable pub len_fine : WriteArgs → Bool
len_fine w = not (is_value w.flags) || eqb w.len 32

-- a filter as a cursor keeps it: its bytes, then zeros
unfoldable pub filter_bytes : List ℕ → Span → List ℕ
filter_bytes m s = splice (zeros 64) 0 (take 64 (bytes_at m s))
