-- `session::Session::write` meets its contract. Assumes nothing.
use Rattle.session.proofs.CallLaws.{write-answers}
use Rattle.script.specs.Words.{write_word}
use mathlib.Core.Path.{◌∙◌}
use Rattle.session.proofs.Session.write.Goals as goal

pub returns : goal.returns
unfolding write_word
returns c = write-answers _ _ _ _ c.front-text.ensures _ _ _ _ _ _ _ (c.lay_write.ensures ∙ simp (c.field.ensures.0, c.field-2.ensures.0)) c.write-a.ensures.answer c.write-a.ensures.bytes c.go_on.ensures.next_value c.go_on.ensures.put
