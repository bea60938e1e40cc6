-- `host::Host::begin` meets its contract. Assumes nothing.
use mathlib.Core.Path.{◌∙◌}
use Rattle.host.specs.Hosts.{lent_entry}
use Rattle.host.specs.Begin.{begin_check, begin_answer, begin_staging}
use Rattle.host.proofs.Host.begin.Goals as goal

pub returns : goal.returns
unfolding begin_answer begin_staging begin_check lent_entry
returns c = record { answer = simp (c.settle.ensures, c.plain.ensures, c.with_weave-next.ensures, c.begun.ensures, c.then-check.ensures, c.then-2.ensures, c.then.ensures, c.need-two.ensures, c.need-three.ensures, c.need-four.ensures, c.enter-e.ensures); bytes = c.clear_if.ensures ∙ simp (c.fine.ensures, c.then-check.ensures, c.then-2.ensures, c.then.ensures, c.need-two.ensures, c.need-three.ensures, c.need-four.ensures, c.enter-e.ensures) }
