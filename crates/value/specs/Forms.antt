-- The stored form of a value. 01, "Value payload".
-- Assumes nothing.
use Rattle.std.specs.Prelude.{Bool, ◌&&◌, cond, List, [], ◌++◌, ℕ, ◌+◌, leb, length, Result, Ok, Err, is_ok, ⊤}
use Rattle.text.specs.Compare.{same_bytes}
use Rattle.value.specs.declared.cell.Cell.{Cell}
use Rattle.value.specs.declared.Value.{Value}
use Rattle.value.specs.declared.Value.TheVariants.{Plain, Text, Array, Wrong}
use Rattle.value.specs.declared.Fault.{Fault}
use Rattle.value.specs.Cells.{cell_at, cell_bytes}
use Rattle.value.specs.Scalars.{scalar_cell}
use Rattle.value.specs.Values.{decoded, content_of, content_len, fault_of, value_fault}

-- a value's numbers, unused ones 0, where the bytes of a string or byte array begin at `at` (what is `Wrong` has a fault and is never stored)
abbrev pub cell_of : ℕ → ℕ → Value → Cell
cell_of flags at (Plain s) = scalar_cell flags s
cell_of flags at (Text s) = record { kind = 5; flags = flags; first = at; second = s.len }
cell_of flags at (Array s) = record { kind = 9; flags = flags; first = at; second = s.len }
cell_of flags at Wrong = record { kind = 0; flags = flags; first = 0; second = 0 }

-- "A string (5) or byte array (9) is stored as the 32-byte value with ptr 32, then its n bytes": what c, read in memory m, is stored as
unfoldable pub form_of : List ℕ → Cell → List ℕ
form_of m c = cell_bytes (cell_of c.flags 32 (decoded c)) ++ content_of m (decoded c)

-- the payload of the value at address p, empty where it has a fault
unfoldable pub payload : List ℕ → ℕ → List ℕ
payload m p = cond (is_ok (value_fault m p)) (form_of m (cell_at m p)) []

-- a length, where there is no fault
abbrev pub with_len : Result ⊤ Fault → ℕ → Result ℕ Fault
with_len (Ok fine) n = Ok n
with_len (Err fault) n = Err fault

-- check 8, and data_len
unfoldable pub checked_value : List ℕ → ℕ → Result ℕ Fault
checked_value m p = with_len (value_fault m p) (length (payload m p))

-- "data_len is 32 + n": the same of a value that has been decoded
unfoldable pub checked_of : List ℕ → Value → Result ℕ Fault
checked_of m v = with_len (fault_of m v) (32 + content_len v)

-- "a value payload has just the stored form above": taken for a memory of its own, with the value at its start, it is stored as it stands
unfoldable pub good_stored : List ℕ → Bool
good_stored b = leb 32 (length b) && (is_ok (fault_of b (decoded (cell_at b 0))) && same_bytes (form_of b (cell_at b 0)) b)
