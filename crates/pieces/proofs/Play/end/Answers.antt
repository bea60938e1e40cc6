-- `pieces::Play::end` meets its contract. Assumes nothing.
use Rattle.pieces.proofs.StepLaws.{end_is}
use Rattle.pieces.proofs.Play.end.Goals as goal

pub returns : goal.returns
returns c = record { stand = end_is _ _ c.last.ensures.stand; line = c.last.ensures.line }
