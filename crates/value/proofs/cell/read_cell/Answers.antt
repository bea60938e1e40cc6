-- `value::cell::read_cell` meets its contract: four numbers. Assumes nothing.
use Rattle.value.specs.Cells.{cell_at}
use Rattle.value.proofs.cell.read_cell.Goals as goal

pub returns : goal.returns
unfolding cell_at
returns c = cc
