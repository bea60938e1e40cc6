-- `weave::Weave::slot_fine` meets its contract. Assumes nothing.
use Rattle.weave.specs.Checks.{slot_fine}
use Rattle.weave.proofs.Weave.slot_fine.Goals as goal

pub returns : goal.returns
unfolding slot_fine
returns c = simp c.find_slot.ensures
