-- `pieces::closing::is_name` meets its contract. Assumes nothing.
use Rattle.pieces.specs.Feeding.{name_mark, is_name}
use Rattle.pieces.proofs.closing.is_name.Goals as goal

pub returns : goal.returns
unfolding is_name name_mark
returns c = simp c.starts_with.ensures
