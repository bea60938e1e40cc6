-- 01, "The manifest": what one line says. 0 stands for "none", as no number of a manifest may be 0.
-- Assumes nothing.
use Rattle.std.specs.Prelude.{Bool, ◌&&◌, ◌||◌, cond, List, ℕ, leb, eqb, length, Option, Some, None}
use Rattle.text.specs.Topic.{good_topic}
use Rattle.text.specs.Compare.{same_bytes}
use Rattle.text.specs.Lines.{fields, field}
use Rattle.text.specs.Decimal.{number_of}
use Rattle.manifest.specs.Words.{modules_word, charge_word, grant_word, in_word, out_word}
use Rattle.manifest.specs.Rights.{Right}

-- a number that may be at most `most`, 0 for any other and for none
abbrev pub at_most : ℕ → Option ℕ → ℕ
at_most most None = 0
at_most most (Some n) = cond (leb n most) n 0

-- "Numbers are decimal without leading zeros": the number from 1 to `most` that the bytes write, 0 where they write none
unfoldable pub one_to : ℕ → List ℕ → ℕ
one_to most s = at_most most (number_of s)

-- "fields parted by one tab": a line of two, a word and a number from 1 to `most`: that number, 0 for any other line
unfoldable pub number_in : List ℕ → ℕ → List ℕ → ℕ
number_in word most line = cond (eqb (length (fields line)) 2 && same_bytes (field 0 line) word) (one_to most (field 1 line)) 0

-- "Line one: `modules`, then 1 to 16."
unfoldable pub modules_in : List ℕ → ℕ
modules_in line = number_in modules_word 16 line

-- 02, A11: "A manifest line `charge` .. names 1 .. or 2."
unfoldable pub charge_in : List ℕ → ℕ
charge_in line = number_in charge_word 2 line

-- "`grant`, module number, `in` or `out`, topic", but for the module number. "A topic .. has a length within its sizes and is UTF-8 with no byte from 0
-- to 31": so it holds no tab, and no byte 10. 02, A2: "no grant can name" a topic with byte 127.
unfoldable pub grant_form : List ℕ → Bool
grant_form line =
    eqb (length (fields line)) 4
    && (same_bytes (field 0 line) grant_word && ((same_bytes (field 2 line) in_word || same_bytes (field 2 line) out_word) && good_topic (field 3 line)))

-- "a module number is at most the count": the module that a line grants something, 0 for a line that is no grant
unfoldable pub holder_in : ℕ → List ℕ → ℕ
holder_in modules line = cond (grant_form line) (one_to modules (field 1 line)) 0

-- what a line that is a grant gives
unfoldable pub right_in : ℕ → List ℕ → Right
right_in modules line = record { holder = holder_in modules line; out = same_bytes (field 2 line) out_word; topic = field 3 line }
