-- `session::Session::listing` meets its contract. Assumes nothing.
use Rattle.session.specs.Sessions.{listing}
use Rattle.script.specs.Words.{go_word}
use Rattle.session.proofs.Session.listing.Goals as goal

pub returns-then-same : goal.returns-then-same
unfolding listing go_word
returns-then-same c =
    simp (← c.same.ensures, c.if-same.true) c.mount.ensures

pub returns : goal.returns
unfolding listing go_word
returns c =
    simp (← c.same.ensures, c.if-same.false) c.manifest_line.ensures
