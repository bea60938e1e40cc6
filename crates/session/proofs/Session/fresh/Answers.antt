-- `session::Session::fresh` meets its contract. Assumes nothing.
use Rattle.session.specs.Sessions.{fresh_session}
use Rattle.session.proofs.Session.fresh.Goals as goal

pub returns : goal.returns
unfolding fresh_session
returns c = simp c.none.ensures
