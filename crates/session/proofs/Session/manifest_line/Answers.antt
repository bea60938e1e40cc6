-- `session::Session::manifest_line` meets its contract. Assumes nothing.
use Rattle.session.proofs.SessionLaws.{line_on, line-over}
use mathlib.Core.Path.{refl}
use Rattle.session.proofs.Session.manifest_line.Goals as goal

pub returns-then-within : goal.returns-then-within
returns-then-within c =
    line_on _ _ _ _ _ _ _ _ c.within.ensures c.if-within.true c.copy_at.ensures refl c.becomes.ensures

pub returns-else-within : goal.returns-else-within
returns-else-within c =
    line-over _ _ _ _ _ _ c.within.ensures c.if-within.false c.becomes-else-within.ensures
