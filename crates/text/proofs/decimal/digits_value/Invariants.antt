-- `text::decimal::digits_value` meets its contract: the digits from here on, behind those of n, write what the whole does. Assumes nothing.
use mathlib.Core.Path.{◌≡◌}
use Prim.Native.Nat.{◌≤◌}
use lib.ListN.{drop}
use Rattle.text.specs.Decimal.{number_from}
use Rattle.text.proofs.decimal.digits_value.Given as goal

abbrev pub invariant-loop-b : goal.invariant-loop-b
invariant-loop-b l = (l.n ≤ 0xFFFF_FFFF_FFFF_FFFF) × (number_from l.n (drop l.b-index l.s) ≡ number_from 0 l.s)
