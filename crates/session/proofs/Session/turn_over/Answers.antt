-- `session::Session::turn_over` meets its contract. Assumes nothing.
use Rattle.session.proofs.CallLaws.{return-answers}
use Rattle.script.proofs.FormLaws.{coded}
use Rattle.session.proofs.Session.turn_over.Goals as goal

pub returns : goal.returns
returns c =
    simp (← coded _ _ c.code_of-code.ensures, ← c.field.ensures.0) (return-answers _ _ _ _ c.front-text.ensures _ _ _ _ _ _ _ _ c.module_return-a.ensures.answer c.module_return-a.ensures.onto c.module_return-a.ensures.staged c.module_return-a.ensures.entries c.becomes.ensures c.say_fate.ensures)
