-- `manifest::reading::grant_form` meets its contract. Assumes nothing.
use borrow.Author.Rules.{rules}
use Rattle.manifest.specs.Words.{grant_word, in_word, out_word}
use Rattle.manifest.proofs.LineLaws.{form-is}
use Rattle.manifest.proofs.reading.grant_form.Goals as goal

pub returns : goal.returns
unfolding grant_word in_word out_word
returns c = search (rules, form-is)
