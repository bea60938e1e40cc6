-- `weave::args::record_fine` meets its contract. Assumes nothing.
use Rattle.weave.specs.Args.{record_fine}
use Rattle.weave.proofs.args.record_fine.Goals as goal

pub returns : goal.returns
unfolding record_fine
returns c = simp c.inside.ensures
