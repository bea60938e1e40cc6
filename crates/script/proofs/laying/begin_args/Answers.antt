-- `script::laying::begin_args` meets its contract. Assumes nothing.
use Rattle.script.specs.Laying.{begin_laid}
use Rattle.script.proofs.laying.begin_args.Goals as goal

pub returns : goal.returns
unfolding begin_laid
returns c = simp (c.put-2.ensures, c.put.ensures)
