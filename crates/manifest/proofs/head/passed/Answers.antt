-- `manifest::head::passed` meets its contract. Assumes nothing.
use borrow.Author.Tests.{eq-eqb, ne_eqb}
use Rattle.manifest.specs.Places.{passed}
use Rattle.manifest.proofs.head.passed.Goals as goal

pub returns-then-said-eq0 : goal.returns-then-said-eq0
unfolding passed
returns-then-said-eq0 c = simp (eq-eqb _ 0 c.if-said-eq0.true)

pub returns : goal.returns
unfolding passed
returns c = simp (ne_eqb _ 0 c.if-said-eq0.false, c.line.ensures.0)
