-- `loafheron::calls::loafheron_open` meets its contract. Assumes nothing.
use Rattle.loafheron.proofs.calls.loafheron_open.Goals as goal

pub returns : goal.returns
returns c = simp (c.reply.ensures, c.open-a.ensures, c.host_said-h.ensures)
