-- `script::forms::is_next` meets its contract. Assumes nothing.
use Rattle.script.specs.Forms.{is_next}
use Rattle.script.specs.Words.{next_word}
use Rattle.script.proofs.forms.is_next.Goals as goal

pub returns : goal.returns
unfolding is_next next_word
returns c = simp (c.formed.ensures, c.numeral.ensures, c.numeral-2.ensures)
