-- `manifest::reading::modules_in` meets its contract. Assumes nothing.
use Rattle.manifest.specs.Words.{modules_word}
use Rattle.manifest.specs.Line.{modules_in}
use Rattle.manifest.proofs.reading.modules_in.Goals as goal

pub returns : goal.returns
unfolding modules_in modules_word
returns c = c.number_in.ensures
