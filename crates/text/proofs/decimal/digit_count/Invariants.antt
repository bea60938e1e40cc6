-- `text::decimal::digit_count` meets its contract: the digits counted, and those that `rest` still has. Assumes nothing.
use mathlib.Core.Path.{◌≡◌}
use Prim.Native.Nat.{◌+◌, ◌-◌}
use Rattle.text.specs.Decimal.{higher}
use Rattle.text.proofs.decimal.digit_count.Given as goal

abbrev pub invariant-loop-more : goal.invariant-loop-more
invariant-loop-more l = l.more + higher (19 - l.more) l.rest ≡ higher 19 l.n
