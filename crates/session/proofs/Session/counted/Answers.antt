-- `session::Session::counted` meets its contract. Assumes nothing.
use native.Mathlib.Omega.{arith}
use Rattle.std.proofs.lemmas.Bool.Decides.{nat_tests}
use Rattle.weave.specs.Sums.{added}
use Rattle.session.proofs.Session.counted.Goals as goal

pub returns : goal.returns
unfolding added
returns c = grind (arith, nat_tests)
