-- `weave::Weave::turn_fine` meets its contract. Assumes nothing.
use mathlib.Core.Path.{refl}
use Rattle.weave.specs.Checks.{turn_fine}
use Rattle.weave.proofs.Weave.turn_fine.Goals as goal

pub returns : goal.returns
unfolding turn_fine
returns c = refl
