-- `script::forms::is_return` meets its contract. Assumes nothing.
use Rattle.script.specs.Forms.{is_return}
use Rattle.script.specs.Words.{return_word}
use Rattle.script.proofs.forms.is_return.Goals as goal

pub returns : goal.returns
unfolding is_return return_word
returns c = simp (c.formed.ensures, c.good_code.ensures, c.field.ensures.0)
