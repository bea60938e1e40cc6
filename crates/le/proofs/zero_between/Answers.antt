-- The answers for `le::zero_between`.
use mathlib.Core.Path.{◌≡◌, sym, ap, ◌∙◌}
use borrow.Author.Rules.{rules}
use borrow.Author.Tests.{tests}
use Prim.Native.Nat.{◌/◌, ◌*◌}
use lib.Dec.{eqb}
use lib.ListN.{length, drop}
use Rattle.std.specs.Cmp.Lexicographic.{pointwise}
use Rattle.std.specs.Simd.{first_chunks}
use Rattle.std.proofs.lemmas.Iterator.{YieldsList-from_slice}
use Rattle.std.proofs.lemmas.Iterator.Search.{all_from_yields_List}
use Rattle.le.specs.Splice.{zeros, all_zero}
use Rattle.le.proofs.ZeroLaws.{chunks_zero, eights-zero, eights-not}
use Rattle.le.proofs.zero_between.Goals as goal
use Rattle.le.proofs.zero_between.Goals.{After-all}

-- what the eights answer
eights : (c : After-all) → let p = c.cut.result.now in c.all.result ≡ chunks_zero 8 (length p / 8) p
eights c =
    let p = c.cut.result.now in
    all_from_yields_List (λ e. pointwise eqb e (zeros 8)) _ _ c.all.result c.all.ensures.ran (YieldsList-from_slice (first_chunks 8 (length p / 8) p) (c.iter.ensures.rest ∙ c.as_chunks.ensures.front)) (λ x b q k. search (rules, tests))

pub returns-then-all : goal.returns-then-all
returns-then-all c =
    let p = c.cut.result.now in
    all_from_yields_List (λ b. eqb b 0) _ _ c.all-then-all.result c.all-then-all.ensures.ran
    (YieldsList-from_slice (drop (length p / 8 * 8) p) (c.iter-then-all.ensures.rest ∙ c.as_chunks.ensures.back)) (λ x b q k. search (rules, tests))
    ∙ eights-zero p (sym (eights (goal.at.returns-then-all c).After-all) ∙ c.if-all.true)
    ∙ ap all_zero c.cut.ensures

pub returns-else-all : goal.returns-else-all
returns-else-all c =
    c.if-all.false ∙ eights-not c.cut.result.now (sym (eights (goal.at.returns-else-all c).After-all) ∙ c.if-all.false) ∙ ap all_zero c.cut.ensures
