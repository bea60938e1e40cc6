-- `script::gather::held_with` meets its contract. Assumes nothing.
use Rattle.script.specs.Gathering.{held_with}
use native.Mathlib.Omega.{arith}
use Rattle.std.proofs.lemmas.Bool.Decides.{nat_tests}
use Rattle.script.proofs.gather.held_with.Goals as goal

pub returns-then-n-saturating_sub : goal.returns-then-n-saturating_sub
unfolding held_with
returns-then-n-saturating_sub c = grind (arith, nat_tests)

pub returns-else-n-saturating_sub : goal.returns-else-n-saturating_sub
unfolding held_with
returns-else-n-saturating_sub c = grind (arith, nat_tests)
