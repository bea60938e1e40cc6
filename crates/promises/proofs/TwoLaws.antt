-- What the manifest, the memory and the arguments of the run of two modules say.
-- Assumes nothing.
use mathlib.Core.Path.{◌≡◌, refl, ap}
use mathlib.Core.Bool.{Bool, true, false, ◌&&◌}
use mathlib.Core.List.{List, [], ◌∷◌}
use Prim.Native.Nat.{ℕ, zero, suc}
use native.Mathlib.Omega.{arith}
use borrow.Author.Tests.{ltb-true}
use lib.Dec.{ltb}
use lib.ListN.{length}
use Rattle.le.specs.Le.{Bytes, le_at, le_bytes}
use Rattle.le.specs.Splice.{part}
use Rattle.le.proofs.TestLaws.{and_left, and_right}
use Rattle.text.specs.Compare.{same_bytes}
use Rattle.text.specs.Decimal.{number_of, no_leading_zero, number_from, digits, value_from}
use Rattle.text.specs.Lines.{closed, fields, line_at, lines, field}
use Rattle.text.specs.Span.{inside}
use Rattle.text.specs.Topic.{good_text, no_control}
use Rattle.text.specs.Utf8.{utf8, utf8_from, after}
use Rattle.text.specs.Words.{panic_topic, core_topic, log_topic}
use Rattle.std.specs.Prelude.{Ok}
use Rattle.manifest.specs.Line.{number_in, modules_in, charge_in, one_to, holder_in, grant_form, right_in}
use Rattle.manifest.specs.Rights.{granted, any_gives, gives}
use Rattle.manifest.specs.Words.{modules_word, charge_word, grant_word, in_word, out_word}
use Rattle.manifest.specs.declared.charge.Charge.TheVariants.{First}
use Rattle.manifest.specs.Charge.{charge_named, charge_by}
use Rattle.manifest.specs.Head.{optional, beyond, modules_of, head_of, grant_lines}
use Rattle.manifest.specs.Saying.{is_good, modules_said, manifest_of, charge_of, good_head, grants_said, good_grants, all_grants, may_read, may_write}
use Rattle.weave.specs.Args.{record_fine, field_at, write_args, read_args, open_args, next_args, close_handle, topic_fine, filter_fine, out_fine, data_fine, len_fine}
use Rattle.takes.specs.Payloads.{payload_checked}
use Rattle.writes.specs.Stage.{is_panic, written_topic}
use Rattle.promises.specs.TwoWeaves.{two_modules, memory}

pub long-memory : length memory ≡ 312
unfolding memory le_bytes
long-memory = refl

pub said-good : is_good (manifest_of two_modules) ≡ true
unfolding manifest_of good_head modules_of head_of optional beyond grant_lines grants_said good_grants all_grants closed modules_in charge_in number_in fields line_at lines same_bytes field modules_word charge_word one_to number_of no_leading_zero number_from digits value_from holder_in grant_form grant_word in_word out_word good_text utf8 utf8_from after no_control
said-good = refl

pub said-two : modules_said (manifest_of two_modules) ≡ 2
unfolding manifest_of good_head modules_of head_of optional beyond grant_lines grants_said good_grants all_grants closed modules_in charge_in number_in fields line_at lines same_bytes field modules_word charge_word one_to number_of no_leading_zero number_from digits value_from holder_in grant_form grant_word in_word out_word good_text utf8 utf8_from after no_control
said-two = refl

-- "1 (also when absent)"
pub said-first : charge_of two_modules ≡ charge_by First
unfolding charge_of charge_named manifest_of good_head modules_of head_of optional beyond grant_lines grants_said good_grants all_grants closed modules_in charge_in number_in fields line_at lines same_bytes field modules_word charge_word one_to number_of no_leading_zero number_from digits value_from holder_in grant_form grant_word in_word out_word good_text utf8 utf8_from after no_control
said-first = refl

pub may-write : may_write two_modules 1 (116 ∷ []) ≡ true
unfolding may_write granted any_gives gives right_in core_topic log_topic panic_topic manifest_of good_head modules_of head_of optional beyond grant_lines grants_said good_grants all_grants closed modules_in charge_in number_in fields line_at lines same_bytes field modules_word charge_word one_to number_of no_leading_zero number_from digits value_from holder_in grant_form grant_word in_word out_word good_text utf8 utf8_from after no_control
may-write = refl

pub may-read : (may_read two_modules 1 (116 ∷ []) ≡ true) × (may_read two_modules 2 (116 ∷ []) ≡ true)
unfolding may_read granted any_gives gives right_in manifest_of good_head modules_of head_of optional beyond grant_lines grants_said good_grants all_grants closed modules_in charge_in number_in fields line_at lines same_bytes field modules_word charge_word one_to number_of no_leading_zero number_from digits value_from holder_in grant_form grant_word in_word out_word good_text utf8 utf8_from after no_control
may-read = (refl, refl)

-- ---- the argument records

pub topic-is : part 168 1 memory ≡ 116 ∷ []
unfolding memory le_bytes part
topic-is = refl

pub write-args : write_args memory 8 ≡ record { topic = record { ptr = 168; len = 1 }; place = 0; len = 0; flags = 1 }
unfolding write_args field_at record_fine inside memory le_bytes le_at
write-args = refl

pub read-args : read_args memory 48 ≡ record { topic = record { ptr = 168; len = 1 }; start = record { 0 = 1 }; out = record { ptr = 176; len = 136 } }
unfolding read_args field_at record_fine inside memory le_bytes le_at
read-args = refl

pub open-args : open_args memory 88 ≡ record { topic = record { ptr = 168; len = 1 }; from = record { 0 = 1 }; to = record { 0 = 9 }; limit = 9; desc = 0 }
unfolding open_args field_at record_fine inside memory le_bytes le_at
open-args = refl

pub next-args : next_args memory 136 ≡ record { handle = 1; out = record { ptr = 176; len = 136 } }
unfolding next_args field_at record_fine inside memory le_bytes le_at
next-args = refl

pub close-arg : close_handle memory 160 ≡ 1
unfolding field_at record_fine inside memory le_bytes le_at
close-arg = refl

pub records-fine : (record_fine memory 8 40 ≡ true) × ((record_fine memory 48 40 ≡ true) × ((record_fine memory 88 48 ≡ true) × ((record_fine memory 136 24 ≡ true) × (record_fine memory 160 8 ≡ true))))
unfolding record_fine inside memory le_bytes
records-fine = (refl, (refl, (refl, (refl, refl))))

pub topic-fine : topic_fine memory (record { ptr = 168; len = 1 }) ≡ true
unfolding topic_fine inside memory le_bytes part good_text utf8 utf8_from after no_control
topic-fine = refl

pub filter-fine : filter_fine memory (record { ptr = 168; len = 1 }) ≡ true
unfolding filter_fine inside memory le_bytes part good_text utf8 utf8_from after no_control
filter-fine = refl

pub out-fine : out_fine memory (record { ptr = 176; len = 136 }) ≡ true
unfolding out_fine inside memory le_bytes
out-fine = refl

-- ---- what the write has

pub no-panic : is_panic memory 8 ≡ false
unfolding write_args field_at record_fine inside memory le_bytes le_at part same_bytes panic_topic
no-panic = refl

pub data-fine : data_fine memory (write_args memory 8) ≡ true
unfolding data_fine write_args field_at record_fine inside memory le_bytes le_at
data-fine = refl

pub len-fine : len_fine (write_args memory 8) ≡ true
unfolding len_fine write_args field_at record_fine inside memory le_bytes le_at
len-fine = refl

pub raw : payload_checked memory (write_args memory 8) ≡ Ok 0
unfolding payload_checked write_args field_at record_fine inside memory le_bytes le_at
raw = refl

pub below : List ℕ → Bool
below [] = true
below (b ∷ s) = ltb b 256 && below s

pub bytes_below : (s : List ℕ) → below s ≡ true → Bytes s
unfolding below
bytes_below [] e i = omega arith
bytes_below (b ∷ s) e zero = omega (arith, ltb-true b 256 (and_left (ltb b 256) _ e))
bytes_below (b ∷ s) e (suc i) = bytes_below s (and_right (ltb b 256) _ e) i

pub memory-bytes : Bytes memory
unfolding below memory le_bytes
memory-bytes = bytes_below memory refl

pub topic-long : (write_args memory 8).topic.len ≡ 1
topic-long = rw write-args

pub topic-read : written_topic memory 8 ≡ 116 ∷ []
topic-read = rw (write-args, topic-is)
