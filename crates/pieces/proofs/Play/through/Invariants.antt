-- `pieces::Play::through` meets its contract. Assumes nothing.
use Rattle.pieces.specs.Feeding.{stand_of, ReadAll}
use Rattle.pieces.proofs.Play.through.Given as goal

-- so far some pieces were fed
abbrev pub invariant-loop : goal.invariant-loop
invariant-loop l = ReadAll (stand_of l.fn.self) (stand_of l.self)
