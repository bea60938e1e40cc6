-- `session::Session::bad` meets its contract. Assumes nothing.
use mathlib.Core.Path.{sym}
use Rattle.script.specs.Words.{bad_word}
use Rattle.session.proofs.Session.bad.Goals as goal

pub returns : goal.returns
unfolding bad_word
returns c = record { next_value = c.becomes.ensures; put = rw (sym c.counted-number.ensures) c.say_answer.ensures.put }
