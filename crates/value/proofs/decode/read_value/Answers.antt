-- `value::decode::read_value` meets its contract: its two callees. Assumes nothing.
use mathlib.Core.Path.{ap, ◌∙◌}
use Rattle.value.specs.Values.{decoded}
use Rattle.value.proofs.decode.read_value.Goals as goal

pub returns : goal.returns
returns c = c.decode.ensures ∙ ap decoded c.read_cell.ensures
