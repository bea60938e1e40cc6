-- `value::decode::decode` meets its contract: one law of `DecodeLaws` for each type. Assumes nothing.
use mathlib.Core.Path.{◌∙◌}
use Rattle.value.proofs.Signs.{signed_back}
use Rattle.value.proofs.DecodeLaws.{of-unit, of-boolean, of-signed, of-unsigned, of-float, of-text, of_array, of_others}
use Rattle.value.proofs.decode.decode.Goals as goal

pub returns-in-0 : goal.returns-in-0
returns-in-0 c = of-unit _ c.in-0.is

pub returns-in-1 : goal.returns-in-1
returns-in-1 c = c.boolean_of.ensures ∙ of-boolean _ c.in-1.is

pub returns-in-2 : goal.returns-in-2
returns-in-2 c =
    of-signed _ c.in-2.is _
    (signed_back _ c.args.c.first c.signed_of.ensures)

pub returns-in-3 : goal.returns-in-3
returns-in-3 c = of-unsigned _ c.in-3.is

pub returns-in-4 : goal.returns-in-4
returns-in-4 c = of-float _ c.in-4.is _ c.float_of.ensures

pub returns-in-5 : goal.returns-in-5
returns-in-5 c = of-text _ c.in-5.is

pub returns-in-9 : goal.returns-in-9
returns-in-9 c = of_array _ c.in-9.is

pub returns-in_default : goal.returns-in_default
returns-in_default c =
    let n = c.in_default.in_default-own.rest in
    of_others _ n.0.0.0.0.0.0.1 n.0.0.0.0.0.1 n.0.0.0.0.1 n.0.0.0.1 n.0.0.1 n.0.1 n.1
