-- `value::pattern::float_of` meets its contract: the patterns above the infinity are the NaN. Assumes nothing.
use mathlib.Core.Path.{◌≡◌, ◌∙◌, refl}
use lib.Ieee.{nan, binary64, of_bits, div, of_fields}
use Rattle.value.proofs.Floats.{above, not-above}
use Rattle.value.proofs.pattern.float_of.Goals as goal

zero_by_zero : div binary64 (of_bits binary64 0) (of_bits binary64 0) ≡ nan
unfolding of_bits of_fields div
zero_by_zero = refl

pub returns-then-n-gt9218868437227405312 : goal.returns-then-n-gt9218868437227405312
returns-then-n-gt9218868437227405312 c = zero_by_zero ∙ above c.args.n c.if-n-gt9218868437227405312.true

pub float_from_bits-result : goal.float_from_bits-result
float_from_bits-result c = not-above c.args.n c.if-n-gt9218868437227405312.false
