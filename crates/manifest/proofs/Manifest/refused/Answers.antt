-- `manifest::Manifest::refused` meets its contract. Assumes nothing.
use Rattle.manifest.specs.Places.{refused}
use Rattle.manifest.proofs.Manifest.refused.Goals as goal

pub returns : goal.returns
unfolding refused
returns c = simp c.none-grants.ensures
