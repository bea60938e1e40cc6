-- The lines behind `go`. 01: "Fields: begin units, virtual time; open filter, start, end, limit, desc; next handle, capacity; write topic, raw payload."
-- Assumes nothing.
use Rattle.std.specs.Prelude.{Bool, true, false, ◌&&◌, cond, List, ℕ, ◌-◌, leb, eqb, ℤ, pos, negsuc, length, get_or, drop, is_some, unwrap_or}
use Rattle.text.specs.Compare.{same_bytes}
use Rattle.text.specs.Lines.{fields, field}
use Rattle.text.specs.Decimal.{number_of}
use Rattle.script.specs.Words.{begin_word, write_word, open_word, next_word, return_word}
use Rattle.script.specs.declared.forms.Line.{Line}
use Rattle.script.specs.declared.forms.Line.TheVariants.{Begin, Write, Open, Next, Return, Bad}

-- field k is a number: "decimal without leading zeros", at most 2^64 - 1 (R2)
unfoldable pub numeral : ℕ → List ℕ → Bool
numeral k s = is_some (number_of (field k s))

-- that number; 0 where it is none
unfoldable pub value_at : ℕ → List ℕ → ℕ
value_at k s = unwrap_or (number_of (field k s)) 0

-- a line of n fields, the first of them this word
unfoldable pub formed : List ℕ → ℕ → List ℕ → Bool
formed word n s = same_bytes (field 0 s) word && eqb (length (fields s)) n

-- ---- "Only a return's code may be negative: -2^63 to 2^63 - 1, but not `-0`" (R2)

-- it begins with `-`
unfoldable pub minus : List ℕ → Bool
minus f = eqb (get_or f 0 0) 45

-- what is behind the sign
unfoldable pub unsigned : List ℕ → List ℕ
unsigned f = cond (minus f) (drop 1 f) f

abbrev pub in_range : Bool → ℕ → Bool
in_range true n = leb 1 n && leb n 9223372036854775808
in_range false n = leb n 9223372036854775807

unfoldable pub good_code : List ℕ → Bool
good_code f = is_some (number_of (unsigned f)) && in_range (minus f) (unwrap_or (number_of (unsigned f)) 0)

abbrev pub signed : Bool → ℕ → ℤ
signed false n = pos n
signed true n = negsuc (n - 1)

-- the code; 0 where it is none
unfoldable pub code_of : List ℕ → ℤ
code_of f = cond (good_code f) (signed (minus f) (unwrap_or (number_of (unsigned f)) 0)) (pos 0)

-- ---- the forms

unfoldable pub is_begin : List ℕ → Bool
is_begin s = formed begin_word 3 s && (numeral 1 s && numeral 2 s)

unfoldable pub is_write : List ℕ → Bool
is_write s = formed write_word 3 s

-- the last field goes into one byte (R11)
unfoldable pub is_open : List ℕ → Bool
is_open s = formed open_word 6 s && (numeral 2 s && (numeral 3 s && (numeral 4 s && (numeral 5 s && leb (value_at 5 s) 255))))

unfoldable pub is_next : List ℕ → Bool
is_next s = formed next_word 3 s && (numeral 1 s && numeral 2 s)

unfoldable pub is_return : List ℕ → Bool
is_return s = formed return_word 2 s && good_code (field 1 s)

-- the line; texts, and a return's code, stay in it. "A line of another form" is Bad
unfoldable pub line_of : List ℕ → Line
line_of s =
    cond (is_begin s) (Begin (value_at 1 s) (record { 0 = value_at 2 s }))
    (cond (is_write s) Write
    (cond (is_open s) (Open (record { from = record { 0 = value_at 2 s }; to = record { 0 = value_at 3 s }; limit = value_at 4 s; desc = value_at 5 s }))
    (cond (is_next s) (Next (value_at 1 s) (value_at 2 s))
    (cond (is_return s) Return
    Bad))))
