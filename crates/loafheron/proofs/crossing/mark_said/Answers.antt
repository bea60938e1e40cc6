-- `loafheron::crossing::mark_said` meets its contract. Assumes nothing.
use mathlib.Core.Path.{◌≡◌, ap}
use mir.Syntax.{w64}
use mir.Val.{of_z}
use borrow.Author.Rules.{rules}
use Rattle.loafheron.specs.Crossing.{mark_said}
use Rattle.weave.proofs.CodeLaws.{bits_of}
use Rattle.loafheron.proofs.CrossingLaws.{mark-other}
use Rattle.loafheron.proofs.crossing.mark_said.Goals as goal

pub returns-then-n-eq0 : goal.returns-then-n-eq0
unfolding mark_said
returns-then-n-eq0 c = let e : of_z w64 c.args.n ≡ 0 = search rules in rw (bits_of c.args.n c.ranges.n 0 e)

pub returns-then-n-eq-BUDGET : goal.returns-then-n-eq-BUDGET
unfolding mark_said
returns-then-n-eq-BUDGET c = let e : of_z w64 c.args.n ≡ 18446744073709551610 = search rules in rw (bits_of c.args.n c.ranges.n 18446744073709551610 e)

pub returns : goal.returns
returns c = mark-other c.args.n (λ e. c.if-n-eq0.false (ap (of_z w64) e)) (λ e. c.if-n-eq-BUDGET.false (ap (of_z w64) e))
