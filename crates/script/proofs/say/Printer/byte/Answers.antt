-- `script::say::Printer::byte` meets its contract. Assumes nothing.
use Rattle.script.proofs.SayLaws.{put_one}
use lib.ListN.{length-set}
use mathlib.Core.Path.{refl}
use native.Mathlib.Omega.{arith}
use Rattle.script.proofs.say.Printer.byte.Goals as goal

pub returns : goal.returns
returns c = record { same = refl; long = simp length-set; put = put_one _ _ _ (omega arith) }
