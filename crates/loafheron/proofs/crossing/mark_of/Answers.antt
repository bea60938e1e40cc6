-- `loafheron::crossing::mark_of` meets its contract. Assumes nothing.
use mathlib.Core.Path.{ap, ◌∙◌}
use Rattle.loafheron.proofs.CrossingLaws.{crosses}
use Rattle.loafheron.specs.Crossing.{mark_of}
use Rattle.weave.specs.Codes.{number, spoiled_code}
use Rattle.loafheron.proofs.crossing.mark_of.Goals as goal

pub returns : goal.returns
unfolding mark_of
returns c = crosses _ (spoiled_code c.args.m) (c.number.ensures ∙ ap number c.code-c.ensures)
