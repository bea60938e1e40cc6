-- `script::laying::lay_open` meets its contract. Assumes nothing.
use Rattle.script.proofs.LayLaws.{open-laid}
use Rattle.script.proofs.laying.lay_open.Goals as goal

pub returns : goal.returns
returns c = open-laid _ _ _ _ _ _ c.put_three.ensures c.put_three-2.ensures c.lay.ensures
