-- `weave::args::field` meets its contract, at any width. Assumes nothing.
use native.Mathlib.Omega.{arith}
use Rattle.le.proofs.LeLaws.{zero-fits}
use Rattle.weave.specs.Args.{field_at}
use Rattle.weave.proofs.ArgsLaws.{record-room}
use Rattle.weave.proofs.args.field.Goals as goal

pub overflow_add-a : goal.overflow_add-a
overflow_add-a g c = omega (arith, record-room _ _ _ _ c.record_fine.ensures c.if-record_fine.true)

pub get-requires : goal.get-requires
get-requires g c = omega (arith, record-room _ _ _ _ c.record_fine.ensures c.if-record_fine.true)

pub narrowed-requires : goal.narrowed-requires
narrowed-requires g c = zero-fits _

pub returns-then-record_fine : goal.returns-then-record_fine
unfolding field_at
returns-then-record_fine g c = simp (← c.record_fine.ensures, c.if-record_fine.true) c.get.ensures

pub returns : goal.returns
unfolding field_at
returns g c = simp (← c.record_fine.ensures, c.if-record_fine.false) c.narrowed.ensures
