-- `loafheron::calls::loafheron_next` meets its contract. Assumes nothing.
use mathlib.Core.Path.{◌∙◌}
use Rattle.loafheron.proofs.calls.loafheron_next.Goals as goal

pub returns : goal.returns
returns c = record { answer = simp (c.reply.ensures, c.next-a.ensures.answer, c.host_said-h.ensures); bytes = c.next-a.ensures.bytes ∙ simp c.host_said-h.ensures }
