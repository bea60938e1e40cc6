-- `weave::Finding::then` meets its contract. Assumes nothing.
use Rattle.weave.specs.Codes.{first_by}
use Rattle.weave.proofs.Finding.then.Goals as goal

pub returns-then-fine : goal.returns-then-fine
unfolding first_by
returns-then-fine c = cc

pub returns-else-fine : goal.returns-else-fine
unfolding first_by
returns-else-fine c = cc
