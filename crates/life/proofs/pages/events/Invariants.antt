-- `life::pages::events` is safe and ends. Assumes nothing.
use Rattle.std.proofs.Common.{length}
use Rattle.life.proofs.pages.events.Given as goal

abbrev pub decreases-loop-rest : goal.decreases-loop-rest
decreases-loop-rest l = length l.rest
