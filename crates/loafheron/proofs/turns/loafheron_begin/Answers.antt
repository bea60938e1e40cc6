-- `loafheron::turns::loafheron_begin` meets its contract. Assumes nothing.
use mathlib.Core.Path.{◌∙◌}
use Rattle.loafheron.proofs.turns.loafheron_begin.Goals as goal

pub returns : goal.returns
returns c = record { answer = simp (c.reply.ensures, c.begin-a.ensures.answer, c.host_said-h.ensures); bytes = c.begin-a.ensures.bytes ∙ simp c.host_said-h.ensures }
