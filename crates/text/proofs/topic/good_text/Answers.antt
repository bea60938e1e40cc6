-- `text::topic::good_text` meets its contract: each return rewrites with the tests that led there. Assumes nothing.
use mathlib.Core.Path.{◌≡◌, sym, ap, ◌∙◌}
use native.Mathlib.Omega.{arith}
use borrow.Author.Tests.{le-leb, lt-leb}
use lib.ListN.{drop}
use Rattle.text.specs.declared.topic.Rule.{Rule}
use Rattle.text.specs.Utf8.{utf8}
use Rattle.text.specs.Topic.{no_control, good_text}
use Rattle.text.proofs.Utf8Laws.{utf8-end}
use Rattle.text.proofs.TopicLaws.{control-end}
use Rattle.text.proofs.topic.good_text.Goals as goal
use Rattle.text.proofs.topic.good_text.Goals.{After-plain_bytes-plain, After-valid}

-- what is behind the plain bytes gives what the whole gives
rest-utf8 : (c : After-plain_bytes-plain) → let s = c.args.s.now in utf8 (drop c.plain_bytes-plain.result s) ≡ utf8 s
rest-utf8 c = c.plain_bytes-plain.ensures.1 ∙ c.plain_front.ensures.1

rest-control : (c : After-plain_bytes-plain) (rule : Rule)
    → let s = c.args.s.now in no_control rule (drop c.plain_bytes-plain.result s) ≡ no_control rule s
rest-control c rule = c.plain_bytes-plain.ensures.2 rule ∙ c.plain_front.ensures.2 rule

-- whether the whole is UTF-8, by what is left of it
whole : (c : After-valid) → utf8 c.args.s.now ≡ c.valid.result
whole c =
    let rest-utf8 : let s = c.args.s.now in utf8 (drop c.plain_bytes-plain.result s) ≡ utf8 s = c.plain_bytes-plain.ensures.1 ∙ c.plain_front.ensures.1 in
    sym (rest-utf8) ∙ ap utf8 (sym c.tail-rest.ensures) ∙ sym c.valid.ensures

pub returns-then-s-least : goal.returns-then-s-least
unfolding good_text
returns-then-s-least c = simp (lt-leb _ _ c.if-s-least.true)

pub returns-then-most-s : goal.returns-then-most-s
unfolding good_text
returns-then-most-s c = simp (le-leb _ _ c.if-s-least.false, lt-leb _ _ c.if-most-s.true)

-- nothing is behind them
pub returns-then-plain-s : goal.returns-then-plain-s
unfolding good_text
returns-then-plain-s c =
    let a = c.args in
    let n = c.plain_bytes-plain.result in
    simp (le-leb _ _ c.if-s-least.false, le-leb _ _ c.if-most-s.false, sym (utf8-end a.s.now n _ (omega arith) (rest-utf8 (goal.at.returns-then-plain-s c).After-plain_bytes-plain)))
    (control-end a.rule a.s.now n _ (omega arith) (rest-control (goal.at.returns-then-plain-s c).After-plain_bytes-plain a.rule))

pub returns-then-valid : goal.returns-then-valid
unfolding good_text
returns-then-valid c =
    let rule = c.args.rule in
    simp (le-leb _ _ c.if-s-least.false, le-leb _ _ c.if-most-s.false, whole (goal.at.returns-then-valid c).After-valid ∙ c.if-valid.true)
    (c.no_control.ensures ∙ ap (no_control rule) c.tail-rest.ensures ∙ rest-control (goal.at.returns-then-valid c).After-plain_bytes-plain rule)

pub returns-else-valid : goal.returns-else-valid
unfolding good_text
returns-else-valid c = simp (le-leb _ _ c.if-s-least.false, le-leb _ _ c.if-most-s.false, whole (goal.at.returns-else-valid c).After-valid ∙ c.if-valid.false)
