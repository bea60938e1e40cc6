-- `weave::args::topic_fine` meets its contract. Assumes nothing.
use Rattle.weave.specs.Args.{topic_fine}
use Rattle.weave.proofs.args.topic_fine.Goals as goal

pub returns : goal.returns
unfolding topic_fine
returns c = simp (c.inside-within.ensures, c.good_topic.ensures, c.bytes_at.ensures)
