-- `loafheron::hosts::host_said` meets its contract. Assumes nothing.
use Rattle.loafheron.specs.Crossing.{host_said}
use Rattle.loafheron.proofs.hosts.host_said.Goals as goal

pub returns : goal.returns
unfolding host_said
returns c = simp (c.weave_said-weave.ensures, c.flag_said-faulted.ensures)
