-- `value::shown::show_value` meets its contract: the pointer is moved where there is one. Assumes nothing.
use mathlib.Core.Path.{sym, ap, ◌∙◌}
use Rattle.value.specs.Shown.{pointed}
use Rattle.value.proofs.ShownLaws.{shown-moved, shown-plain}
use Rattle.value.proofs.shown.show_value.Goals as goal

pub returns-then-t : goal.returns-then-t
returns-then-t c =
    c.put.ensures ∙ sym (shown-moved _ _ _ (ap pointed (sym c.get-t.ensures) ∙ c.if-t.true))

pub returns-else-t : goal.returns-else-t
returns-else-t c = sym (shown-plain _ _ _ (ap pointed (sym c.get-t.ensures) ∙ c.if-t.false))
