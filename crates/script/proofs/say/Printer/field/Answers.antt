-- `script::say::Printer::field` meets its contract. Assumes nothing.
use Rattle.script.proofs.SayLaws.{prints-then}
use Rattle.script.proofs.say.Printer.field.Goals as goal

pub returns : goal.returns
returns c = prints-then _ _ _ _ _ c.byte.ensures c.bytes.ensures
