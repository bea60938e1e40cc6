-- The charge rule: what a write costs, by the length of its record. It has two editions, and "Both stay in use" (02, A11).
-- Assumes nothing.
use Rattle.std.specs.Prelude.{cond, ℕ, ◌+◌, ◌/◌, eqb}
use Rattle.manifest.specs.declared.charge.Charge.{Charge}
use Rattle.manifest.specs.declared.charge.Charge.TheVariants.{First, Second}

-- the edition that a line's number names: "1 (also when absent) or 2"; 0 stands for an absent line
unfoldable pub charge_named : ℕ → Charge
charge_named said = cond (eqb said 2) Second First

-- 01: "write 1 + total_len / 8". 02: "Under 2 a write costs 4 units plus total_len / 64 rounded up".
unfoldable pub charge_by : Charge → ℕ → ℕ
charge_by First total = 1 + total / 8
charge_by Second total = 4 + (total + 63) / 64
