-- `text::utf8::follows` meets its contract, from the laws of what is due. Assumes nothing.
use mathlib.Core.Path.{◌∙◌}
use mathlib.Core.Bool.{◌&&◌}
use Prim.Native.Nat.{◌+◌, ◌-◌}
use borrow.Author.Rules.{rules}
use borrow.Author.Tests.{tests}
use lib.Dec.{leb}
use lib.ListN.{take, drop}
use Rattle.std.proofs.lemmas.Iterator.{YieldsList-from_slice}
use Rattle.std.proofs.lemmas.Iterator.Search.{all_from_yields_List}
use Rattle.le.proofs.SpliceLaws.{lent-tail}
use Rattle.text.proofs.Utf8Laws.{lent-part, none-due, not-begun, due-begun}
use Rattle.text.proofs.utf8.follows.Goals as goal

pub returns-in-empty : goal.returns-in-empty
returns-in-empty c =
    let s = c.args.s.now in
    let at = c.args.at in
    none-due s at c.args.d.left _ _ c.requires _ (lent-part s at c.args.d.left) c.in-empty.len_below

pub returns-then-begun : goal.returns-then-begun
returns-then-begun c =
    let s = c.args.s.now in
    let at = c.args.at in
    let d = c.args.d in
    let p = take (at + d.left - at) (drop at s) in
    all_from_yields_List (λ b. leb 0x80 b && leb b 0xBF) _ _ c.all.result c.all.ensures.ran
    (YieldsList-from_slice (drop 1 p) (c.iter.ensures.rest ∙ lent-tail p 1)) (λ x b q k. search (rules, tests))
    ∙ due-begun s at d.left d.lo d.hi c.requires p (lent-part s at d.left) c.in-len1-up.len_at_least c.if-begun.true

pub returns-else-begun : goal.returns-else-begun
returns-else-begun c =
    let s = c.args.s.now in
    let at = c.args.at in
    let d = c.args.d in
    c.if-begun.false ∙ not-begun s at d.left d.lo d.hi c.requires _ (lent-part s at d.left) c.in-len1-up.len_at_least c.if-begun.false
