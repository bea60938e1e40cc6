-- `weave::args::WriteArgs::len_fine` meets its contract. Assumes nothing.
use Rattle.weave.specs.Args.{len_fine}
use Rattle.weave.proofs.args.WriteArgs.len_fine.Goals as goal

pub returns : goal.returns
unfolding len_fine
returns c = simp c.is_value-value.ensures
