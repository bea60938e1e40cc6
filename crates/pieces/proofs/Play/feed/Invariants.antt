-- `pieces::Play::feed` meets its contract. Assumes nothing.
use Rattle.std.proofs.Common.{◌≡◌, length}
use Rattle.pieces.specs.Feeding.{stand_of, fed}
use Rattle.pieces.proofs.Play.feed.Given as goal

-- what is still to be fed comes to what the whole piece comes to
abbrev pub invariant-loop-rest : goal.invariant-loop-rest
invariant-loop-rest l = (fed (stand_of l.self) l.rest).stand ≡ (fed (stand_of l.fn.self) l.piece).stand

abbrev pub decreases-loop-rest : goal.decreases-loop-rest
decreases-loop-rest l = length l.rest
