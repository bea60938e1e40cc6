-- `weave::args::ReadArgs::read` meets its contract. Assumes nothing.
use Rattle.weave.specs.Args.{read_args}
use Rattle.weave.proofs.args.ReadArgs.read.Goals as goal

pub returns : goal.returns
unfolding read_args
returns c =
    simp (c.field.ensures, c.field-2.ensures, c.field-3.ensures, c.field-4.ensures, c.field-5.ensures)
