-- `script::forms::value_at` meets its contract. Assumes nothing.
use Rattle.script.specs.Forms.{value_at}
use Rattle.script.proofs.forms.value_at.Goals as goal

pub returns : goal.returns
unfolding value_at
returns c = simp (c.unwrap_or.ensures, c.read_number.ensures, c.field.ensures.0)
