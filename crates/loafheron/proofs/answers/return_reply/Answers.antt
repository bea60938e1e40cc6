-- `loafheron::answers::return_reply` meets its contract. Assumes nothing.
use Rattle.loafheron.specs.Answers.{return_reply}
use Rattle.loafheron.proofs.answers.return_reply.Goals as goal

pub returns : goal.returns
unfolding return_reply
returns c = simp (c.outcome_of-outcome.ensures, c.state_of-state.ensures)
