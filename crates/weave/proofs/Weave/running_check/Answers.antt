-- `weave::Weave::running_check` meets its contract. Assumes nothing.
use Rattle.weave.specs.Checks.{running_check}
use Rattle.weave.proofs.Weave.running_check.Goals as goal

pub returns : goal.returns
unfolding running_check
returns c = simp (c.then.ensures, c.need-running.ensures, c.code.ensures)
