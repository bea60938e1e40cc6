-- `script::laying::lay_write` meets its contract. Assumes nothing.
use Rattle.script.proofs.LayLaws.{write-laid}
use mathlib.Core.Path.{refl}
use Rattle.script.proofs.laying.lay_write.Goals as goal

pub returns : goal.returns
returns c = write-laid _ _ _ _ _ _ _ _ refl c.put_three.ensures c.put_three-2.ensures c.lay.ensures c.lay-2.ensures
