-- `manifest::reading::holder_in` meets its contract. Assumes nothing.
use borrow.Author.Rules.{rules}
use Rattle.manifest.proofs.LineLaws.{holder-is, holder-none}
use Rattle.manifest.proofs.reading.holder_in.Goals as goal

pub returns-then-grant_form : goal.returns-then-grant_form
returns-then-grant_form c = search (rules, holder-is)

pub returns-else-grant_form : goal.returns-else-grant_form
returns-else-grant_form c = search (rules, holder-none)
