-- `manifest::charge::Charge::named` meets its contract. Assumes nothing.
use borrow.Author.Tests.{eq-eqb, ne_eqb}
use Rattle.manifest.specs.Charge.{charge_named}
use Rattle.manifest.proofs.charge.Charge.named.Goals as goal

pub returns-then-said-eq2 : goal.returns-then-said-eq2
unfolding charge_named
returns-then-said-eq2 c = simp (eq-eqb _ 2 c.if-said-eq2.true)

pub returns-else-said-eq2 : goal.returns-else-said-eq2
unfolding charge_named
returns-else-said-eq2 c = simp (ne_eqb _ 2 c.if-said-eq2.false)
