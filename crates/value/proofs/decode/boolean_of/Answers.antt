-- `value::decode::boolean_of` meets its contract: one test for each boolean. Assumes nothing.
use borrow.Author.Tests.{eq-eqb, ne_eqb}
use Rattle.value.specs.Values.{boolean}
use Rattle.value.proofs.decode.boolean_of.Goals as goal

pub returns-then-b-eq0 : goal.returns-then-b-eq0
unfolding boolean
returns-then-b-eq0 c = simp (eq-eqb _ _ c.if-b-eq0.true)

pub returns-then-b-eq1 : goal.returns-then-b-eq1
unfolding boolean
returns-then-b-eq1 c = simp (ne_eqb _ _ c.if-b-eq0.false, eq-eqb _ _ c.if-b-eq1.true)

pub returns : goal.returns
unfolding boolean
returns c = simp (ne_eqb _ _ c.if-b-eq0.false, ne_eqb _ _ c.if-b-eq1.false)
