-- `weave::checks::numbers_fine` meets its contract. Assumes nothing.
use Rattle.weave.specs.Checks.{numbers_fine}
use Rattle.weave.proofs.checks.numbers_fine.Goals as goal

pub returns : goal.returns
unfolding numbers_fine
returns c = simp c.within.ensures
