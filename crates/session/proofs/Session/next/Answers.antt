-- `session::Session::next` meets its contract. Assumes nothing.
use Rattle.session.proofs.CallLaws.{next-answers}
use Rattle.script.proofs.EventLaws.{page-short}
use Rattle.script.specs.Words.{next_word}
use native.Mathlib.Omega.{arith}
use borrow.Author.Rules.{rules}
use Rattle.session.proofs.Session.next.Goals as goal

pub events-requires : goal.events-requires
events-requires c =
    record { at_in_bounds = omega (arith, c.go_on-at.ensures.upper_bound); page_in_bounds = omega (arith, c.go_on-at.ensures.upper_bound, page-short _ _ _ (search rules) c.cut-page.ensures) }

pub returns : goal.returns
unfolding next_word
returns c =
    next-answers _ _ _ _ c.front-text.ensures _ _ _ _ _ _ _ _ _ _ c.lay_next.ensures c.next-a.ensures.answer c.next-a.ensures.bytes c.go_on-at.ensures.next_value c.go_on-at.ensures.put c.cut-page.ensures c.events.ensures.put
