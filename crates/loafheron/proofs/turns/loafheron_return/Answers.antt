-- `loafheron::turns::loafheron_return` meets its contract. Assumes nothing.
use mathlib.Core.Path.{◌∙◌}
use mir.Syntax.{w64}
use mir.Facts.{to_z-of_z}
use Rattle.loafheron.proofs.turns.loafheron_return.Goals as goal

pub returns : goal.returns
returns c = record { answer = simp (c.return_reply.ensures, c.module_return-r.ensures.answer, c.host_said-h.ensures, to_z-of_z {w = w64} c.ranges.code); onto = c.module_return-r.ensures.onto ∙ simp (c.host_said-h.ensures, to_z-of_z {w = w64} c.ranges.code); entries = c.module_return-r.ensures.entries ∙ simp (c.host_said-h.ensures, to_z-of_z {w = w64} c.ranges.code); staged = c.module_return-r.ensures.staged ∙ simp (c.host_said-h.ensures, to_z-of_z {w = w64} c.ranges.code) }
