-- `weave::args::NextArgs::read` meets its contract. Assumes nothing.
use Rattle.weave.specs.Args.{next_args}
use Rattle.weave.proofs.args.NextArgs.read.Goals as goal

pub returns : goal.returns
unfolding next_args
returns c = simp (c.field.ensures, c.field-2.ensures, c.field-3.ensures)
