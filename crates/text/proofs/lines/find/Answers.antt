-- `text::lines::find` meets its contract: what stands before the byte is as long as its place says. Assumes nothing.
use mathlib.Core.Path.{◌≡◌, ◌∙◌}
use native.Mathlib.Omega.{arith}
use borrow.Author.Rules.{rules}
use borrow.Author.Tests.{tests}
use lib.Dec.{eqb}
use lib.ListN.{drop, length, length-drop}
use Rattle.std.specs.List.{position}
use Rattle.std.proofs.lemmas.Iterator.{YieldsList-from_slice}
use Rattle.std.proofs.lemmas.Iterator.Search.{position_from_yields_List}
use Rattle.text.specs.Lines.{before}
use Rattle.text.proofs.LinesLaws.{before-found, before-short}
use Rattle.text.proofs.lines.find.Goals as goal

pub returns : goal.returns
returns c =
    let rest = drop c.args.from c.args.s.now in
    let p : c.position.result ≡ position (λ b. eqb b c.args.c) rest =
    position_from_yields_List (λ b. eqb b c.args.c) _ _ c.position.result c.position.ensures.ran (YieldsList-from_slice rest cc) (λ x b q k. search (rules, tests)) in
    let n : c.unwrap_or.result ≡ length (before c.args.c rest) = c.unwrap_or.ensures ∙ rw (p, c.tail-rest.ensures) (before-found c.args.c rest) in
    (omega (arith, n), omega (arith, n, length-drop c.args.from c.args.s.now, before-short c.args.c rest))
