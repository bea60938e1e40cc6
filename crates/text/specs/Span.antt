-- Spans of a memory.
-- Assumes nothing.
use Rattle.std.specs.Prelude.{Bool, not, ◌&&◌, ◌||◌, ℕ, ◌-◌, leb, eqb}

-- 01: "A span (ptr, len) is inside memory of size m when ptr ≤ m, len ≤ m − ptr, and len = 0 or ptr ≠ 0."
unfoldable pub inside : ℕ → ℕ → ℕ → Bool
inside ptr len m = leb ptr m && (leb len (m - ptr) && (eqb len 0 || not (eqb ptr 0)))
