-- `text::decimal::put_digits` meets its contract: what is left to write, written over what there is, gives the result. Assumes nothing.
use mathlib.Core.Path.{◌≡◌}
use Rattle.le.specs.Splice.{splice}
use Rattle.text.specs.Decimal.{digits_in}
use Rattle.text.proofs.decimal.put_digits.Given as goal

abbrev pub invariant-loop-i : goal.invariant-loop-i
invariant-loop-i l = splice l.out l.at (digits_in l.i l.rest) ≡ splice l.initial.out l.at (digits_in l.k l.n)
