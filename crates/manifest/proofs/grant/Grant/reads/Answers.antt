-- `manifest::grant::Grant::reads` meets its contract. Assumes nothing.
use mathlib.Core.Path.{refl}
use Rattle.manifest.specs.Held.{reads}
use Rattle.manifest.proofs.grant.Grant.reads.Goals as goal

pub returns : goal.returns
unfolding reads
returns c = refl
