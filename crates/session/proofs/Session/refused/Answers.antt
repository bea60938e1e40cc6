-- `session::Session::refused` meets its contract. Assumes nothing.
use Rattle.script.specs.Words.{mount_word}
use Rattle.session.proofs.Session.refused.Goals as goal

pub returns : goal.returns
unfolding mount_word
returns c = record { next_value = c.becomes.ensures; put = c.say_answer.ensures.put }
