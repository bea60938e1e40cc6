-- `manifest::grant::Grant::gives` meets its contract. Assumes nothing.
use borrow.Author.Rules.{rules}
use Rattle.manifest.proofs.AskingLaws.{other-module, other_way, topic-asked}
use Rattle.manifest.proofs.grant.Grant.gives.Goals as goal

pub returns-then-self-holder : goal.returns-then-self-holder
returns-then-self-holder c = search (rules, other-module)

pub returns-then-self-out : goal.returns-then-self-out
returns-then-self-out c = search (rules, other_way)

pub returns : goal.returns
returns c = search (rules, topic-asked)
