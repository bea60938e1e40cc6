-- `script::forms::minus` meets its contract. Assumes nothing.
use Rattle.script.proofs.FormLaws.{minus-first}
use mathlib.Core.Path.{◌∙◌}
use Rattle.script.proofs.forms.minus.Goals as goal

pub returns : goal.returns
returns c = c.starts_with.ensures.value ∙ minus-first _
