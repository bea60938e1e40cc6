-- `manifest::reading::charge_at` meets its contract. Assumes nothing.
use mathlib.Core.Path.{ap, ◌∙◌}
use borrow.Author.Rules.{rules}
use Rattle.manifest.specs.Words.{charge_word}
use Rattle.manifest.specs.Line.{number_in, charge_in}
use Rattle.manifest.proofs.LineLaws.{charge-none}
use Rattle.manifest.proofs.reading.charge_at.Goals as goal

pub returns-then-starts_with : goal.returns-then-starts_with
unfolding charge_in charge_word
returns-then-starts_with c = c.number_in.ensures ∙ ap (number_in charge_word 2) c.line.ensures.0

pub returns-else-starts_with : goal.returns-else-starts_with
unfolding charge_word
returns-else-starts_with c = search (rules, charge-none)
