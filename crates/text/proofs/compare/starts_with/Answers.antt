-- `text::compare::starts_with` meets its contract. Assumes nothing.
use mathlib.Core.Path.{◌∙◌}
use Rattle.text.proofs.CompareLaws.{prefix-pointwise}
use Rattle.text.proofs.compare.starts_with.Goals as goal

pub returns : goal.returns
returns c = c.starts_with.ensures.value ∙ prefix-pointwise _ _
