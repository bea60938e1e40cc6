-- `value::store::store_value` meets its contract: whole or not at all. Assumes nothing.
use mathlib.Core.Path.{sym, ◌∙◌}
use native.Mathlib.Omega.{arith}
use Rattle.value.proofs.FormLaws.{wholly-none, wholly-short, wholly-fits, checked-ok, checked-err}
use Rattle.value.proofs.store.store_value.Goals as goal

pub returns-in_default : goal.returns-in_default
returns-in_default c = wholly-none _ _ _ (checked-err _ _ _ (sym c.check_value.ensures ∙ c.in_default.is))

pub returns-then-out-at : goal.returns-then-out-at
returns-then-out-at c = wholly-short _ _ _ (omega arith)

pub returns-then-out-at-2 : goal.returns-then-out-at-2
returns-then-out-at-2 c = wholly-short _ _ _ (omega (arith, (checked-ok _ _ _ (sym c.check_value.ensures ∙ c.in-Ok.is)).1))

pub put_value-requires : goal.put_value-requires
put_value-requires c =
    let k = checked-ok _ _ _ (sym c.check_value.ensures ∙ c.in-Ok.is) in record { p_value = k.0; p_in_bounds = omega (arith, k.1) }

pub returns : goal.returns
returns c =
    c.put_value.ensures ∙ wholly-fits _ _ _ (omega (arith, (checked-ok _ _ _ (sym c.check_value.ensures ∙ c.in-Ok.is)).1))
