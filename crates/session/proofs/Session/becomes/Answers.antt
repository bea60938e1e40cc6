-- `session::Session::becomes` meets its contract. Assumes nothing.
use Rattle.session.specs.Sessions.{became}
use Rattle.session.proofs.Session.becomes.Goals as goal

pub returns : goal.returns
unfolding became
returns c = simp c.counted.ensures
