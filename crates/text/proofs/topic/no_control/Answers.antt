-- `text::topic::no_control` meets its contract. Assumes nothing.
use mathlib.Core.Path.{◌∙◌}
use borrow.Author.Rules.{rules}
use borrow.Author.Tests.{tests}
use Rattle.std.proofs.lemmas.Iterator.{YieldsList-from_slice}
use Rattle.std.proofs.lemmas.Iterator.Search.{all_from_yields_List}
use Rattle.text.specs.Topic.{may_stand}
use Rattle.text.proofs.TopicLaws.{all-stand}
use Rattle.text.proofs.topic.no_control.Goals as goal

pub returns : goal.returns
returns c =
    let s = c.args.s.now in
    let rule = c.args.rule in
    all_from_yields_List (may_stand rule) _ _ _ c.all.ensures.ran (YieldsList-from_slice s cc) (λ x b q k. search (rules, tests)) ∙ all-stand rule s
