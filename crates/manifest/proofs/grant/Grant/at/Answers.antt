-- `manifest::grant::Grant::at` meets its contract. Assumes nothing.
use mathlib.Core.Path.{◌≡◌, ap, ◌∙◌}
use mathlib.Core.List.{List}
use Prim.Native.Nat.{ℕ, ◌≤◌}
use native.Mathlib.Omega.{arith}
use lib.ListN.{length, drop}
use Rattle.text.specs.Lines.{fields, field, tabbed}
use Rattle.text.proofs.LinesLaws.{field-there, tab-further}
use Rattle.manifest.specs.Words.{out_word}
use Rattle.manifest.proofs.LineLaws.{holder-most, grant-rest}
use Rattle.manifest.proofs.ReadingLaws.{grant-is}
use Rattle.manifest.proofs.grant.Grant.at.Goals as goal
use Rattle.manifest.proofs.grant.Grant.at.Goals.{After-field, After-row_known-1, then-holder-eq0, else-holder-eq0}

-- what was found in the line: its second and its third field, and all that stands behind its third tab
module _ (c : After-field) where
  abbrev line : List ℕ
  line = c.args.line.now

  behind-two : c.behind-two.result.now ≡ tabbed (drop 2 (fields line))
  behind-two = tab-further 1 line _ c.behind-one.ensures.0 _ c.behind-two.ensures.0

  number_is : c.field.result.now ≡ field 1 line
  number_is = field-there 1 line _ c.behind-one.ensures.0 _ c.field.ensures.0

  way-is : c.field-way.result.now ≡ field 2 line
  way-is = field-there 2 line _ behind-two _ c.field-way.ensures.0

  topic-is : c.behind-topic.result.now ≡ tabbed (drop 3 (fields line))
  topic-is = tab-further 2 line _ behind-two _ c.behind-topic.ensures.0

pub holder_in-holder-requires : goal.holder_in-holder-requires
holder_in-holder-requires c = record { number_value = number_is c; way_value = (way-is c, topic-is c) }

-- the topic is no longer than the line
short : (c : After-row_known-1) → c.if-holder-eq0.len ≤ length c.args.line.now
short c =
    elim c.if-holder-eq0.branch [
      | then-holder-eq0 w ↦ omega (arith, w.field-then-holder-eq0.ensures.1, c.behind-topic.ensures.1)
      | else-holder-eq0 w ↦ omega (arith, c.behind-topic.ensures.1)
    ]

pub overflow_sub-result : goal.overflow_sub-result
overflow_sub-result c = omega (arith, short c)

pub overflow_cast-result : goal.overflow_cast-result
overflow_cast-result c = record { fits = omega arith }

pub overflow_cast-result-2 : goal.overflow_cast-result-2
overflow_cast-result-2 c = record { fits = omega (arith, short c) }

pub overflow_cast-result-3 : goal.overflow_cast-result-3
overflow_cast-result-3 c = record { fits = omega (arith, c.holder_in-holder.ensures, holder-most c.args.modules c.args.line.now) }

pub returns : goal.returns
unfolding out_word
returns c =
    let f = (goal.at.returns c).After-field in
    let e = c.holder_in-holder.ensures in
    let len : c.if-holder-eq0.len ≡ length (field 3 c.args.line.now) = elim c.if-holder-eq0.branch [
      | then-holder-eq0 w ↦ w.len-is ∙ ap length (field-there 3 _ _ (topic-is f) _ w.field-then-holder-eq0.ensures.0)
      | else-holder-eq0 w ↦ w.len-is ∙ ap length (topic-is f ∙ grant-rest (line f) c.args.modules _ e w.if-holder-eq0.false)
    ] in
    grant-is (line f) _ (way-is f) _ len c.args.modules c.args.end _ e _ c.same-out.ensures
