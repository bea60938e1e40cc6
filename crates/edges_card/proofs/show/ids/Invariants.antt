-- `edges_card::show::ids` is safe and ends. Assumes nothing.
use Rattle.std.proofs.Common.{length}
use Rattle.edges_card.proofs.show.ids.Given as goal

abbrev pub decreases-loop-rest : goal.decreases-loop-rest
decreases-loop-rest l = length l.rest
