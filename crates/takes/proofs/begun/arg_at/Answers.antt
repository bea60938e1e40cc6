-- `takes::begun::arg_at` meets its contract. Assumes nothing.
use borrow.Author.Tests.{eq-eqb, ne_eqb}
use Rattle.takes.specs.Begun.{arg_at}
use Rattle.takes.proofs.begun.arg_at.Goals as goal

pub returns-then-args-eq-ARGS : goal.returns-then-args-eq-ARGS
unfolding arg_at
returns-then-args-eq-ARGS c = simp (eq-eqb _ _ c.if-args-eq-ARGS.true) c.get.ensures

pub returns : goal.returns
unfolding arg_at
returns c = simp (ne_eqb _ _ c.if-args-eq-ARGS.false)
