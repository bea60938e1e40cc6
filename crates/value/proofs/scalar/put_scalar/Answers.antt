-- `value::scalar::put_scalar` meets its contract: the cell of a scalar. Assumes nothing.
use mathlib.Core.Path.{ap, ◌∙◌}
use Rattle.le.specs.Splice.{splice}
use Rattle.value.specs.Cells.{cell_bytes}
use Rattle.value.proofs.scalar.put_scalar.Goals as goal

pub returns : goal.returns
returns c =
    c.put_cell.ensures ∙ ap (λ k. splice c.args.out.now c.args.at (cell_bytes k)) c.scalar_cell-c.ensures
