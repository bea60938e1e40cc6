-- `loafheron::answers::outcome_of` meets its contract. Assumes nothing.
use Rattle.loafheron.proofs.CrossingLaws.{crosses}
use Rattle.loafheron.specs.Answers.{outcome_of}
use Rattle.loafheron.proofs.answers.outcome_of.Goals as goal

pub returns-in-Refused : goal.returns-in-Refused
unfolding outcome_of
returns-in-Refused c = simp (c.in-Refused.is, crosses _ c.in-Refused.c c.number.ensures)

pub returns-in-Discarded : goal.returns-in-Discarded
unfolding outcome_of
returns-in-Discarded c = simp (c.in-Discarded.is, crosses _ c.in-Discarded.c c.number-in-Discarded.ensures)

pub returns-in-Running : goal.returns-in-Running
unfolding outcome_of
returns-in-Running c = cc

pub returns-in-Committed : goal.returns-in-Committed
unfolding outcome_of
returns-in-Committed c = cc
