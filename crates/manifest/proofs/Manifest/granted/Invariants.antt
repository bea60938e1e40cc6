-- `manifest::Manifest::granted` meets its contract: the grants from i on give what all of them give. Assumes nothing.
use lib.ListN.{take}
use Rattle.manifest.proofs.AskingLaws.{Asking}
use Rattle.manifest.proofs.Manifest.granted.Given as goal

abbrev pub invariant-loop-g : goal.invariant-loop-g
invariant-loop-g l = Asking (take l.fn.self.count l.fn.self.grants) l.text l.holder l.fn.out l.topic l.g-index
