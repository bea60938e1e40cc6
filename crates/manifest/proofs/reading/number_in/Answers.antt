-- `manifest::reading::number_in` meets its contract. Assumes nothing.
use borrow.Author.Rules.{rules}
use Rattle.manifest.proofs.LineLaws.{number_is, number-none}
use Rattle.manifest.proofs.reading.number_in.Goals as goal

pub returns-then-same : goal.returns-then-same
returns-then-same c = search (rules, number_is)

pub returns-else-same : goal.returns-else-same
returns-else-same c = search (rules, number-none)
