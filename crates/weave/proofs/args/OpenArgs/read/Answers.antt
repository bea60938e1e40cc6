-- `weave::args::OpenArgs::read` meets its contract. Assumes nothing.
use Rattle.weave.specs.Args.{open_args}
use Rattle.weave.proofs.args.OpenArgs.read.Goals as goal

pub returns : goal.returns
unfolding open_args
returns c =
    simp (c.field.ensures, c.field-2.ensures, c.field-3.ensures, c.field-4.ensures, c.field-5.ensures, c.field-6.ensures)
