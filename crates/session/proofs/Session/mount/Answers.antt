-- `session::Session::mount` meets its contract. Assumes nothing.
use Rattle.session.proofs.SessionLaws.{mount-fine, mount-refused}
use mathlib.Core.Path.{◌∙◌}
use Rattle.session.proofs.Session.mount.Goals as goal

pub returns-then-fine : goal.returns-then-fine
returns-then-fine c =
    mount-fine _ _ _ _ _ (c.mount-m.ensures.entries ∙ simp c.front-text.ensures) _ _ (c.mount-m.ensures.answer ∙ simp c.front-text.ensures) _ _ c.fine.ensures c.if-fine.true c.becomes.ensures

pub returns : goal.returns
returns c =
    mount-refused _ _ _ _ _ (c.mount-m.ensures.entries ∙ simp c.front-text.ensures) _ _ (c.mount-m.ensures.answer ∙ simp c.front-text.ensures) _ _ _ _ c.fine.ensures c.if-fine.false c.refused.ensures.next_value c.refused.ensures.put
