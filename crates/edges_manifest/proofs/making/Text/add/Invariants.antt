-- `edges_manifest::making::Text::add` is safe and ends. Assumes nothing.
use Rattle.std.proofs.Common.{length}
use Rattle.edges_manifest.proofs.making.Text.add.Given as goal

abbrev pub decreases-loop-rest : goal.decreases-loop-rest
decreases-loop-rest l = length l.rest
