-- `weave::codes::need` meets its contract. Assumes nothing.
use Rattle.weave.specs.Codes.{need}
use Rattle.weave.proofs.codes.need.Goals as goal

pub returns-then-t : goal.returns-then-t
unfolding need
returns-then-t c = cc

pub returns-else-t : goal.returns-else-t
unfolding need
returns-else-t c = cc
