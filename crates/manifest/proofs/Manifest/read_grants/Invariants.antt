-- `manifest::Manifest::read_grants` meets its contract: the lines from here on, read behind the grants so far, give what all of them give. Assumes nothing.
use Prim.Native.Nat.{◌-◌}
use lib.ListN.{length}
use Rattle.manifest.proofs.ReadingLaws.{Reading}
use Rattle.manifest.proofs.Manifest.read_grants.Given as goal

abbrev pub invariant-loop-from : goal.invariant-loop-from
invariant-loop-from l = Reading l.text l.head l.at l.from l.count l.grants

abbrev pub decreases-loop-from : goal.decreases-loop-from
decreases-loop-from l = length l.text - l.from
