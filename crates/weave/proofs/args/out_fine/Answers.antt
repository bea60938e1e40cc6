-- `weave::args::out_fine` meets its contract. Assumes nothing.
use Rattle.weave.specs.Args.{out_fine}
use Rattle.weave.proofs.args.out_fine.Goals as goal

pub returns : goal.returns
unfolding out_fine
returns c = simp c.inside.ensures
