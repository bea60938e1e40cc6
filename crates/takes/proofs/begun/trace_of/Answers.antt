-- `takes::begun::trace_of` meets its contract. Assumes nothing.
use native.Mathlib.Omega.{arith}
use Rattle.le.proofs.SpliceLaws.{length-part-most}
use Rattle.takes.specs.Begun.{trace_of}
use Rattle.takes.proofs.begun.trace_of.Goals as goal

pub copy_at-requires : goal.copy_at-requires
copy_at-requires c = rw c.cut.ensures (omega (arith, length-part-most 56 32 c.args.args.now))

pub returns : goal.returns
unfolding trace_of
returns c = rw c.cut.ensures at c.copy_at.ensures
