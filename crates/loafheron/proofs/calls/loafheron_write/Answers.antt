-- `loafheron::calls::loafheron_write` meets its contract. Assumes nothing.
use mathlib.Core.Path.{◌∙◌}
use Rattle.loafheron.proofs.calls.loafheron_write.Goals as goal

pub returns : goal.returns
returns c = record { answer = simp (c.reply.ensures, c.write-a.ensures.answer, c.host_said-h.ensures); bytes = c.write-a.ensures.bytes ∙ simp c.host_said-h.ensures }
