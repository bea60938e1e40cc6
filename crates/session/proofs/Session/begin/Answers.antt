-- `session::Session::begin` meets its contract. Assumes nothing.
use Rattle.session.proofs.CallLaws.{begin-answers}
use Rattle.script.specs.Words.{begin_word}
use Rattle.session.proofs.Session.begin.Goals as goal

pub returns : goal.returns
unfolding begin_word
returns c = begin-answers _ _ _ _ c.front-text.ensures _ _ _ _ _ _ _ _ c.begin_args-args.ensures c.begin-a.ensures.answer c.begin-a.ensures.bytes c.go_on.ensures.next_value c.go_on.ensures.put
