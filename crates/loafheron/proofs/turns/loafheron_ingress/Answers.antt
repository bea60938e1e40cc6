-- `loafheron::turns::loafheron_ingress` meets its contract. Assumes nothing.
use mathlib.Core.Path.{◌∙◌}
use Rattle.loafheron.proofs.turns.loafheron_ingress.Goals as goal

pub returns : goal.returns
returns c = record { answer = simp (c.reply.ensures, c.ingress-a.ensures.answer, c.host_said-h.ensures); bytes = c.ingress-a.ensures.bytes ∙ simp c.host_said-h.ensures }
