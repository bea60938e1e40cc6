-- `text::compare::same` meets its contract, by its lengths. Assumes nothing.
use mathlib.Core.Path.{sym, ◌∙◌}
use Rattle.text.proofs.CompareLaws.{same-pointwise, same-length-differs}
use Rattle.text.proofs.compare.same.Goals as goal

pub returns-then-a-b : goal.returns-then-a-b
returns-then-a-b c = sym (same-length-differs _ _ c.if-a-b.true)

pub returns-in_default : goal.returns-in_default
returns-in_default c = c.eq.ensures ∙ same-pointwise _ _
