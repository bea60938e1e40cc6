-- `script::say::Printer::answer` meets its contract. Assumes nothing.
use Rattle.script.proofs.SayLaws.{number_put, code_put}
use lib.IntN.{nat_abs}
use mathlib.Core.Path.{ap, ◌∙◌}
use mir.Facts.{to_z-of_z}
use mir.Syntax.{w64}
use Rattle.script.proofs.say.Printer.answer.Goals as goal

pub returns-then-fine-clause-put : goal.returns-then-fine-clause-put
returns-then-fine-clause-put c = number_put _ _ _ _ _ c.fine.ensures c.if-fine.true c.numeral.ensures.put

pub returns-else-fine-clause-put : goal.returns-else-fine-clause-put
returns-else-fine-clause-put c =
    code_put _ _ _ _ _ _ _ c.fine.ensures c.if-fine.false
    (c.unsigned_abs.ensures.value ∙ ap nat_abs (to_z-of_z {w = w64} (record { sfits = c.number.type_inv }) ∙ c.number.ensures))
    c.field.ensures c.digits.ensures.put
