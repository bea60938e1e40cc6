-- `manifest::Manifest::held` meets its contract. Assumes nothing.
use lib.ListN.{take}
use Rattle.manifest.proofs.HeldLaws.{Holding}
use Rattle.manifest.proofs.Manifest.held.Given as goal

abbrev pub invariant-loop-g : goal.invariant-loop-g
invariant-loop-g l = Holding (take l.fn.self.count l.fn.self.grants) l.holder l.initial.places l.places l.k l.g-index
