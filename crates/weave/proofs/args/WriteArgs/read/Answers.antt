-- `weave::args::WriteArgs::read` meets its contract. Assumes nothing.
use Rattle.weave.specs.Args.{write_args}
use Rattle.weave.proofs.args.WriteArgs.read.Goals as goal

pub returns : goal.returns
unfolding write_args
returns c =
    simp (c.field.ensures, c.field-2.ensures, c.field-3.ensures, c.field-4.ensures, c.field-5.ensures)
