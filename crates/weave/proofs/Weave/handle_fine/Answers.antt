-- `weave::Weave::handle_fine` meets its contract. Assumes nothing.
use Rattle.weave.specs.Checks.{handle_fine}
use Rattle.weave.proofs.Weave.handle_fine.Goals as goal

pub returns : goal.returns
unfolding handle_fine
returns c = simp c.find_slot.ensures
