-- `value::scalar::scalar_cell` meets its contract: its two callees' numbers. Assumes nothing.
use Rattle.value.proofs.scalar.scalar_cell.Goals as goal

pub returns : goal.returns
returns c = simp (c.kind.ensures, c.bits.ensures)
