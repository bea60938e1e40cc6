-- `loafheron::calls::loafheron_close` meets its contract. Assumes nothing.
use Rattle.loafheron.proofs.calls.loafheron_close.Goals as goal

pub returns : goal.returns
returns c = simp (c.reply.ensures, c.close-a.ensures, c.host_said-h.ensures)
