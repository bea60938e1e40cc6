-- `weave::Weave::lent_fine` meets its contract. Assumes nothing.
use Rattle.weave.specs.Checks.{lent_fine, same_lengths}
use Rattle.weave.proofs.Weave.lent_fine.Goals as goal

pub returns : goal.returns
unfolding lent_fine same_lengths
returns c =
    simp (c.eq-lengths.ensures, c.numbers_fine-numbers.ensures, c.turn_fine-turn.ensures)
