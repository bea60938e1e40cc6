-- `text::lines::line` meets its contract. Assumes nothing.
use native.Mathlib.Omega.{arith}
use lib.ListN.{length-take, length-drop}
use Rattle.text.proofs.LinesLaws.{line-none, line-here}
use Rattle.text.proofs.lines.line.Goals as goal

pub returns-then-text-at : goal.returns-then-text-at
returns-then-text-at c =
    (line-none c.args.text.now c.args.at c.if-text-at.true, omega arith)

pub returns : goal.returns
returns c =
    (line-here c.args.text.now c.args.at c.if-text-at.false _ c.find-end.ensures.0, simp (length-take, length-drop) (omega arith))
