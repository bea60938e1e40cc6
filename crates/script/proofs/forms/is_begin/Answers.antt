-- `script::forms::is_begin` meets its contract. Assumes nothing.
use Rattle.script.specs.Forms.{is_begin}
use Rattle.script.specs.Words.{begin_word}
use Rattle.script.proofs.forms.is_begin.Goals as goal

pub returns : goal.returns
unfolding is_begin begin_word
returns c = simp (c.formed.ensures, c.numeral.ensures, c.numeral-2.ensures)
