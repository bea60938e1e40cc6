-- `script::forms::is_open` meets its contract. Assumes nothing.
use Rattle.script.specs.Forms.{is_open}
use Rattle.script.specs.Words.{open_word}
use Rattle.script.proofs.forms.is_open.Goals as goal

pub returns : goal.returns
unfolding is_open open_word
returns c = simp (c.formed.ensures, c.numeral.ensures, c.numeral-2.ensures, c.numeral-3.ensures, c.numeral-4.ensures, c.value_at.ensures)
