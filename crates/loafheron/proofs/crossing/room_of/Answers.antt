-- `loafheron::crossing::room_of` meets its contract. Assumes nothing.
use Rattle.loafheron.specs.Crossing.{room_of}
use Rattle.loafheron.proofs.CrossingLaws.{flag-byte}
use Rattle.loafheron.proofs.crossing.room_of.Goals as goal

pub returns : goal.returns
unfolding room_of
returns c = simp (c.from-desc.ensures, flag-byte)
