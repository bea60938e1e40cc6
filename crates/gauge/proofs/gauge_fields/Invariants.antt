-- `gauge::gauge_fields` meets its contract: the sum so far, with the pairs that are left, is the sum of all. Assumes nothing.
use Rattle.std.proofs.Common.{◌≡◌, ◌-◌, ◌*◌, ◌/◌, length}
use Rattle.gauge.specs.Fields.{field_sum}
use Rattle.gauge.proofs.gauge_fields.Given as goal

abbrev pub invariant-loop-i : goal.invariant-loop-i
invariant-loop-i l = field_sum (length l.s / 12 - l.i) l.s (12 * l.i) l.sum ≡ field_sum (length l.s / 12) l.s 0 0
