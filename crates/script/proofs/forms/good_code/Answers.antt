-- `script::forms::good_code` meets its contract. Assumes nothing.
use Rattle.script.specs.Forms.{good_code}
use Rattle.script.proofs.forms.good_code.Goals as goal

pub returns : goal.returns
unfolding good_code
returns c = simp (c.in_range.ensures, c.is_some.ensures, c.unwrap_or.ensures, c.read_number-n.ensures, c.unsigned.ensures, c.minus.ensures)
