-- `value::cell::put_cell` meets its contract: five writes, one after the other. Assumes nothing.
use Rattle.value.proofs.CellLaws.{cell-written}
use Rattle.value.proofs.cell.put_cell.Goals as goal

pub returns : goal.returns
returns c =
    cell-written _ _ _ _ _ _ _ _ c.put.ensures c.put-2.ensures c.put-3.ensures c.put-4.ensures c.zero_range.ensures
