-- `loafheron::calls::loafheron_read` meets its contract. Assumes nothing.
use mathlib.Core.Path.{◌∙◌}
use Rattle.loafheron.proofs.calls.loafheron_read.Goals as goal

pub returns : goal.returns
returns c = record { answer = simp (c.reply.ensures, c.read-a.ensures.answer, c.host_said-h.ensures); bytes = c.read-a.ensures.bytes ∙ simp c.host_said-h.ensures }
