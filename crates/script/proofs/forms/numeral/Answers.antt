-- `script::forms::numeral` meets its contract. Assumes nothing.
use Rattle.script.specs.Forms.{numeral}
use Rattle.script.proofs.forms.numeral.Goals as goal

pub returns : goal.returns
unfolding numeral
returns c = simp (c.is_some.ensures, c.read_number.ensures, c.field.ensures.0)
