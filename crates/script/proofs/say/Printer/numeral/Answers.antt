-- `script::say::Printer::numeral` meets its contract. Assumes nothing.
use Rattle.script.proofs.SayLaws.{prints-then}
use Rattle.script.proofs.say.Printer.numeral.Goals as goal

pub returns-clause-put : goal.returns-clause-put
returns-clause-put c = prints-then _ _ _ _ _ c.byte.ensures c.digits.ensures.put
