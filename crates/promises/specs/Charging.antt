-- 02, A11: "A manifest line `charge` after line one .. names 1 (also when absent) or 2. .. A bad line is a bad manifest."
-- Assumes nothing.
use Rattle.std.specs.Prelude.{◌≡◌, true, List, [], ◌∷◌, ◌++◌, map, ℕ, ◌≤◌, ◌<◌, length}
use Rattle.text.specs.Lines.{lines, line_at, closed}
use Rattle.manifest.specs.declared.charge.Charge.{Charge}
use Rattle.manifest.specs.declared.charge.Charge.TheVariants.{First, Second}
use Rattle.manifest.specs.Line.{modules_in, right_in}
use Rattle.manifest.specs.Saying.{Said, good, good_grants}

-- what may be said of the charge rule: nothing, 1 or 2
pub data Choice : Type 0 where
  absent : Choice
  one : Choice
  two : Choice

-- the line that says it, byte for byte: `charge`, a tab, `1` or `2`
abbrev pub charge_lines : Choice → List (List ℕ)
charge_lines absent = []
charge_lines one = (99 ∷ 104 ∷ 97 ∷ 114 ∷ 103 ∷ 101 ∷ 9 ∷ 49 ∷ []) ∷ []
charge_lines two = (99 ∷ 104 ∷ 97 ∷ 114 ∷ 103 ∷ 101 ∷ 9 ∷ 50 ∷ []) ∷ []

abbrev pub edition : Choice → Charge
edition absent = First
edition one = First
edition two = Second

-- a good manifest, line by line: line one, then this line or none, then the grants, and nothing else
pub record Made (text : List ℕ) : Type 0 where
  pub choice : Choice
  pub grants : List (List ℕ)
  -- "manifest at most 65,536", "Lines of text, each closed by byte 10"
  pub small : length text ≤ 65536
  pub whole : closed text ≡ true
  pub are : lines text ≡ line_at 0 text ∷ (charge_lines choice ++ grants)
  -- "Line one: `modules`, then 1 to 16. Then 0 to 64 lines": each is a grant to one of these
  pub some : 0 < modules_in (line_at 0 text)
  pub granting : good_grants (modules_in (line_at 0 text)) grants ≡ true

-- what it says: so many modules, the edition, and what the grants give
abbrev pub said_by : (text : List ℕ) → Made text → Said
said_by text m =
    good (record { modules = modules_in (line_at 0 text); charge = edition m.choice }) (map (right_in (modules_in (line_at 0 text))) m.grants)
