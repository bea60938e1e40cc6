-- `text::lines::field_count` meets its contract: the tabs are counted. Assumes nothing.
use mathlib.Core.Path.{◌≡◌}
use native.Mathlib.Omega.{arith}
use borrow.Author.Rules.{rules}
use lib.Dec.{eqb}
use Rattle.std.specs.List.{count_by}
use Rattle.text.proofs.LinesLaws.{count-tabs}
use Rattle.text.proofs.lines.field_count.Goals as goal

pub returns : goal.returns
returns c =
    let n : c.count.result ≡ count_by (λ b. eqb b 9) c.args.line.now = search rules in
    omega (arith, n, count-tabs c.args.line.now)
