-- `session::Session::played` meets its contract. Assumes nothing.
use Rattle.session.proofs.SessionLaws.{bad-answers}
use Rattle.session.specs.Sessions.{played}
use Rattle.session.proofs.Session.played.Goals as goal

pub returns-in-Begin : goal.returns-in-Begin
unfolding played
returns-in-Begin c = simp c.in-Begin.is c.begin.ensures

pub returns-in-Write : goal.returns-in-Write
unfolding played
returns-in-Write c = simp c.in-Write.is c.write.ensures

pub returns-in-Open : goal.returns-in-Open
unfolding played
returns-in-Open c = simp c.in-Open.is c.«open».ensures

pub returns-in-Next : goal.returns-in-Next
unfolding played
returns-in-Next c = simp c.in-Next.is c.next.ensures

pub returns-in-Return : goal.returns-in-Return
unfolding played
returns-in-Return c = simp c.in-Return.is c.turn_over.ensures

pub returns-in-Bad : goal.returns-in-Bad
unfolding played
returns-in-Bad c = simp c.in-Bad.is (bad-answers _ _ _ _ _ _ c.bad.ensures.next_value c.bad.ensures.put)
