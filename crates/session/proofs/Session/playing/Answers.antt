-- `session::Session::playing` meets its contract. Assumes nothing.
use Rattle.session.proofs.SessionLaws.{bad-answers}
use Rattle.session.specs.Sessions.{playing}
use borrow.Author.Tests.{le-leb, lt-leb}
use Rattle.session.proofs.Session.playing.Goals as goal

pub returns-then-line-gt-LONGEST : goal.returns-then-line-gt-LONGEST
unfolding playing
returns-then-line-gt-LONGEST c =
    simp (lt-leb _ _ c.if-line-gt-LONGEST.true) (bad-answers _ _ _ _ _ _ c.bad.ensures.next_value c.bad.ensures.put)

pub returns : goal.returns
unfolding playing
returns c =
    simp (le-leb _ _ c.if-line-gt-LONGEST.false, ← c.read.ensures) c.played.ensures
