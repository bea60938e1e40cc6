-- `takes::begun::begun` meets its contract. Assumes nothing.
use Rattle.takes.specs.Begun.{begun}
use Rattle.takes.proofs.begun.begun.Goals as goal

pub returns : goal.returns
unfolding begun
returns c = simp (c.begun.ensures, c.arg_at-most.ensures, c.arg_at-time.ensures, c.trace_of-trace.ensures)
