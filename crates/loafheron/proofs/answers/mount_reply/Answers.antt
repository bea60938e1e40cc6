-- `loafheron::answers::mount_reply` meets its contract. Assumes nothing.
use Rattle.loafheron.proofs.CrossingLaws.{crosses}
use Rattle.loafheron.specs.Answers.{mount_reply}
use Rattle.loafheron.proofs.answers.mount_reply.Goals as goal

pub returns : goal.returns
unfolding mount_reply
returns c = simp (crosses _ c.args.m.code c.number-code.ensures, c.state_of-state.ensures)
