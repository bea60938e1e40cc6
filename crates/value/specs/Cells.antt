-- A value's 32 bytes, as numbers.
-- Assumes nothing.
use Rattle.std.specs.Prelude.{Bool, ◌&&◌, List, ◌++◌, ℕ, ◌+◌, eqb}
use Rattle.le.specs.Le.{le_at, le_bytes}
use Rattle.le.specs.Splice.{zeros}
use Rattle.value.specs.declared.cell.Cell.{Cell}

-- the 32 bytes at p. Document 000, Part II 3.5: type at 0, flags at 4, the union from 8 on; none of our types uses more of it than two numbers
unfoldable pub cell_at : List ℕ → ℕ → Cell
cell_at m p = record { kind = le_at 4 m p; flags = le_at 4 m (p + 4); first = le_at 8 m (p + 8); second = le_at 8 m (p + 16) }

-- 01: "The stored value has type, flags and the union; unused bytes are 0."
unfoldable pub cell_bytes : Cell → List ℕ
cell_bytes c = le_bytes 4 c.kind ++ (le_bytes 4 c.flags ++ (le_bytes 8 c.first ++ (le_bytes 8 c.second ++ zeros 8)))

-- number for number the same
unfoldable pub same_cell : Cell → Cell → Bool
same_cell a b = eqb a.kind b.kind && (eqb a.flags b.flags && (eqb a.first b.first && eqb a.second b.second))
