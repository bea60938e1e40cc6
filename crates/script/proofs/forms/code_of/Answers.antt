-- `script::forms::code_of` meets its contract. Assumes nothing.
use Rattle.script.proofs.FormLaws.{coded}
use Rattle.script.proofs.FormLaws.{good-range, code_is, code-none}
use mathlib.Core.Path.{sym, ◌∙◌}
use Rattle.script.proofs.forms.code_of.Goals as goal

pub signed-requires : goal.signed-requires
signed-requires c = simp (c.minus.ensures, c.unwrap_or.ensures, c.read_number.ensures, c.unsigned.ensures) (good-range _ (sym c.good_code.ensures ∙ c.if-good_code.true))

pub returns-then-good_code : goal.returns-then-good_code
returns-then-good_code c = coded _ _ (c.signed.ensures ∙ simp (c.minus.ensures, c.unwrap_or.ensures, c.read_number.ensures, c.unsigned.ensures) (sym (code_is _ (sym c.good_code.ensures ∙ c.if-good_code.true))))

pub returns : goal.returns
returns c = sym (code-none _ (sym c.good_code.ensures ∙ c.if-good_code.false))
