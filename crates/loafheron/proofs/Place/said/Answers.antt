-- `loafheron::Place::said` meets its contract. Assumes nothing.
use Rattle.loafheron.specs.Places.{place_said}
use Rattle.loafheron.proofs.Place.said.Goals as goal

pub returns-in_default : goal.returns-in_default
unfolding place_said
returns-in_default c = simp c.in_default.is

pub returns-in-Card : goal.returns-in-Card
unfolding place_said
returns-in-Card c = simp (c.in-Some.is, c.in-Card.is)

pub returns-in-Staging : goal.returns-in-Staging
unfolding place_said
returns-in-Staging c = simp (c.in-Some.is, c.in-Staging.is)
