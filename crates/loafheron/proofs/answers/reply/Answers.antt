-- `loafheron::answers::reply` meets its contract. Assumes nothing.
use Rattle.loafheron.proofs.CrossingLaws.{crosses}
use Rattle.loafheron.specs.Answers.{reply}
use Rattle.loafheron.proofs.answers.reply.Goals as goal

pub returns : goal.returns
unfolding reply
returns c = simp (crosses _ c.args.a.code c.number-code.ensures, c.state_of-state.ensures)
