-- `weave::args::filter_fine` meets its contract. Assumes nothing.
use Rattle.weave.specs.Args.{filter_fine}
use Rattle.weave.proofs.args.filter_fine.Goals as goal

pub returns : goal.returns
unfolding filter_fine
returns c = simp (c.inside-within.ensures, c.good_filter.ensures, c.bytes_at.ensures)
