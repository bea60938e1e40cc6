-- `manifest::grant::Grant::none` meets its contract. Assumes nothing.
use mathlib.Core.Path.{refl}
use Rattle.manifest.specs.Places.{no_grants}
use Rattle.manifest.proofs.grant.Grant.none.Goals as goal

pub returns : goal.returns
unfolding no_grants
returns c = refl
