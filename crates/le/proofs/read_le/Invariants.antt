-- `le::read_le` meets its contract: what is read so far is the number of the first i bytes. Assumes nothing.
use mathlib.Core.Path.{◌≡◌}
use Rattle.le.specs.Le.{le_at}
use Rattle.le.proofs.read_le.Given as goal

abbrev pub invariant-loop-i : goal.invariant-loop-i
invariant-loop-i l = l.v ≡ le_at l.i l.s l.at
