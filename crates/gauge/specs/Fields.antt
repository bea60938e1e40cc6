-- Fields added up: what the benchmark of reading computes.
-- Assumes nothing.
use Rattle.std.specs.Prelude.{ℕ, zero, suc, ◌+◌, ◌%◌, ◌^◌, List}
use Rattle.le.specs.Le.{le_at}

-- `sum` and n pairs from `at` on, each 4 bytes and the 8 behind them, modulo 2^64 after each field
unfoldable pub field_sum : ℕ → List ℕ → ℕ → ℕ → ℕ
field_sum zero s at sum = sum
field_sum (suc n) s at sum = field_sum n s (at + 12) (((sum + le_at 4 s at) % 2 ^ 64 + le_at 8 s (at + 4)) % 2 ^ 64)
