-- The answers for `text::lines::behind`.
use mathlib.Core.Path.{sym, ap, ◌∙◌}
use Prim.Native.Nat.{◌+◌, ◌-◌}
use native.Mathlib.Omega.{arith}
use lib.ListN.{length-drop}
use Rattle.text.specs.Lines.{tabbed}
use Rattle.text.proofs.LinesLaws.{rest-next, rest-none, rest-here}
use Rattle.text.proofs.lines.behind.Goals as goal

pub returns-then-e-line : goal.returns-then-e-line
unfolding tabbed
returns-then-e-line c =
    let l = c.loop in
    let k = c.args.k in
    (ap tabbed (sym (rest-none c.args.line.now l.at c.find-e.result l.invariant.0 c.find-e.ensures.0 (k - l.counter) (k - (l.counter + 1)) c.if-e-line.true (omega arith)) ∙ l.invariant.1), omega arith)

pub loop-preserved : goal.loop-preserved
loop-preserved c =
    let l = c.loop in
    let k = c.args.k in
    (omega (arith, c.find-e.ensures.1), sym (rest-next c.args.line.now l.at c.find-e.result l.invariant.0 c.find-e.ensures.0 (k - l.counter) (k - (l.counter + 1)) c.find-e.ensures.1 c.if-e-line.false (omega arith)) ∙ l.invariant.1)

pub returns : goal.returns
returns c =
    let l = c.loop in
    let a = c.args in
    (c.tail.ensures ∙ sym (rest-here a.line.now l.at (a.k - l.counter) (omega arith)) ∙ ap tabbed l.invariant.1, rw (c.tail.ensures, length-drop) (omega arith))
