-- `value::pattern::float_bits` meets its contract: the NaN differs from itself, and nothing else does. Assumes nothing.
use mathlib.Core.Path.{◌∙◌, sym, ap, subst}
use lib.Dec.{T}
use lib.Ieee.{binary64, to_bits}
use lib.Ieee.Compare.{differs_from_itself}
use Rattle.value.proofs.Floats.{pattern-of-nan, not-nan}
use Rattle.value.proofs.pattern.float_bits.Goals as goal

pub returns-then-x : goal.returns-then-x
returns-then-x c = pattern-of-nan ∙ ap (to_bits binary64) (sym (differs_from_itself c.args.x (subst T (sym c.if-x.true) tt)))

pub float_to_bits-result : goal.float_to_bits-result
float_to_bits-result c = not-nan c.args.x c.if-x.false
