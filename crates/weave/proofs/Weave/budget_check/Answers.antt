-- `weave::Weave::budget_check` meets its contract. Assumes nothing.
use Rattle.weave.specs.Checks.{budget_check}
use Rattle.weave.proofs.Weave.budget_check.Goals as goal

pub returns : goal.returns
unfolding budget_check
returns c = simp (c.need.ensures, c.within.ensures)
