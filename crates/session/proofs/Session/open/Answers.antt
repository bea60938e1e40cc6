-- `session::Session::open` meets its contract. Assumes nothing.
use Rattle.session.proofs.CallLaws.{open-answers}
use Rattle.script.specs.Words.{open_word}
use mathlib.Core.Path.{◌∙◌}
use Rattle.session.proofs.Session.open.Goals as goal

pub returns : goal.returns
unfolding open_word
returns c = open-answers _ _ _ _ c.front-text.ensures _ _ _ _ _ _ (c.lay_open.ensures ∙ simp c.field.ensures.0) c.open-a.ensures c.go_on.ensures.next_value c.go_on.ensures.put
