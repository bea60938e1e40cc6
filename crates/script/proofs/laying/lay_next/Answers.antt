-- `script::laying::lay_next` meets its contract. Assumes nothing.
use Rattle.script.specs.Laying.{next_laid}
use Rattle.script.proofs.laying.lay_next.Goals as goal

pub returns : goal.returns
unfolding next_laid
returns c = c.put_three.ensures
