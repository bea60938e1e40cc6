-- `weave::args::WriteArgs::data_fine` meets its contract. Assumes nothing.
use Rattle.weave.specs.Args.{data_fine}
use Rattle.weave.proofs.args.WriteArgs.data_fine.Goals as goal

pub returns : goal.returns
unfolding data_fine
returns c = simp (c.is_value-value.ensures, c.inside-span.ensures)
