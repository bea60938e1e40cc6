-- `weave::charges::write_charge` meets its contract: a record's size is a number of eighths. Assumes nothing.
use native.Mathlib.Omega.{arith}
use Rattle.manifest.specs.Charge.{charge_by}
use Rattle.weave.proofs.charges.write_charge.Goals as goal

pub returns-in-First : goal.returns-in-First
unfolding charge_by
returns-in-First c = rw c.in-First.is (omega (arith, c.record_eighths-eighths.ensures))

pub returns-in-Second : goal.returns-in-Second
unfolding charge_by
returns-in-Second c = rw c.in-Second.is (omega (arith, c.record_eighths-eighths.ensures))
