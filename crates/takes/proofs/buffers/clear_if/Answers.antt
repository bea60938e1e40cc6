-- `takes::buffers::clear_if` meets its contract. Assumes nothing.
use Rattle.takes.proofs.BufferLaws.{zeroed}
use Rattle.takes.proofs.buffers.clear_if.Goals as goal

pub returns-then-t : goal.returns-then-t
returns-then-t c = rw c.if-t.true (zeroed _ _ c.zero_range.ensures)
