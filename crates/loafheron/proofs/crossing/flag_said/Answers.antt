-- `loafheron::crossing::flag_said` meets its contract. Assumes nothing.
use mathlib.Core.Path.{refl}
use Rattle.loafheron.specs.Crossing.{flag_said}
use Rattle.loafheron.proofs.crossing.flag_said.Goals as goal

pub returns : goal.returns
unfolding flag_said
returns c = refl
