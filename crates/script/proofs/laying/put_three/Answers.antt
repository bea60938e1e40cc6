-- `script::laying::put_three` meets its contract. Assumes nothing.
use Rattle.script.proofs.LayLaws.{three-laid}
use Rattle.script.proofs.laying.put_three.Goals as goal

pub returns : goal.returns
returns c = three-laid _ _ _ _ _ _ _ _ c.put.ensures c.put-2.ensures c.put-3.ensures
