-- The manifest's head: line one, then lines that may be left out, each at most once, in a fixed order. Behind it stand the grants. So such a line that is not
-- good, or stands elsewhere, is among the grants, and is none: "A bad line is a bad manifest." (02, A11)
-- Assumes nothing.
use Rattle.std.specs.Prelude.{cond, List, [], ℕ, eqb, get_or, drop}
use Rattle.text.specs.Lines.{lines, line_at}
use Rattle.manifest.specs.declared.head.Head.{Head}
use Rattle.manifest.specs.Line.{modules_in, charge_in}
use Rattle.manifest.specs.Charge.{charge_named}

-- ---- a line that may be left out is known by what it says: a number from 1, and 0 where it is another line

-- what it says, where it comes next: 0 where it is left out
unfoldable pub optional : (List ℕ → ℕ) → List (List ℕ) → ℕ
optional says ls = says (get_or ls 0 [])

-- and the lines behind it
unfoldable pub beyond : (List ℕ → ℕ) → List (List ℕ) → List (List ℕ)
beyond says ls = cond (eqb (optional says ls) 0) ls (drop 1 ls)

-- ---- the head of a text

-- what line one says
unfoldable pub modules_of : List ℕ → ℕ
modules_of text = modules_in (line_at 0 text)

-- 02, A11: "A manifest line `charge` after line one"
unfoldable pub head_of : List ℕ → Head
head_of text = record { modules = modules_of text; charge = charge_named (optional charge_in (drop 1 (lines text))) }

-- the lines of grants: those behind the head
unfoldable pub grant_lines : List ℕ → List (List ℕ)
grant_lines text = beyond charge_in (drop 1 (lines text))
