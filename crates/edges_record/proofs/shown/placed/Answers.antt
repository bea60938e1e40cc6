-- `edges_record::shown::placed` is safe: a good record can be shown, and there is room. Assumes nothing.
use Rattle.std.proofs.Common.{◌∙◌, sym}
use Rattle.record.proofs.ShownLaws.{good-shown}
use Rattle.edges_record.proofs.shown.placed.Goals as goal

pub put_shown-requires-clause-framed : goal.put_shown-requires-clause-framed
put_shown-requires-clause-framed c = good-shown _ _ (sym c.good_record.ensures ∙ c.if-good_record.true)
