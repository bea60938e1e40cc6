-- `script::forms::formed` meets its contract. Assumes nothing.
use Rattle.script.specs.Forms.{formed}
use Rattle.script.proofs.forms.formed.Goals as goal

pub returns : goal.returns
unfolding formed
returns c = simp (c.same.ensures, c.field_count.ensures, c.field.ensures.0)
