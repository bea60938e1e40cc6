-- `loafheron::crossing::slot_said` meets its contract. Assumes nothing.
use Rattle.loafheron.specs.Crossing.{slot_said}
use Rattle.loafheron.proofs.crossing.slot_said.Goals as goal

pub returns : goal.returns
unfolding slot_said
returns c = simp c.flag_said-desc.ensures
