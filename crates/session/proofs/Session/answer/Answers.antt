-- `session::Session::answer` meets its contract. Assumes nothing.
use Rattle.script.proofs.SayLaws.{put-none}
use Rattle.session.specs.Sessions.{in_phase, answered}
use native.Mathlib.Omega.{arith}
use mathlib.Core.Path.{refl}
use Rattle.session.proofs.Session.answer.Goals as goal

pub returns-in-Listing : goal.returns-in-Listing
unfolding answered in_phase
returns-in-Listing c =
    simp c.in-Listing.is c.listing.ensures

pub returns-in-Overfull : goal.returns-in-Overfull
unfolding answered in_phase
returns-in-Overfull c =
    simp c.in-Overfull.is c.overfull.ensures

pub returns-in-Playing : goal.returns-in-Playing
unfolding answered in_phase
returns-in-Playing c =
    simp c.in-Playing.is c.playing.ensures

pub returns-in-Over : goal.returns-in-Over
unfolding answered in_phase
returns-in-Over c = simp c.in-Over.is (record { next = refl; buffers = refl; said = put-none _ _ (omega arith) })
