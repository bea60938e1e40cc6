-- `edges_record::samples::with_value` is safe: a value in which check 8 found no fault is written, and there is room. Assumes nothing.
use Rattle.std.proofs.Common.{◌∙◌, sym}
use Rattle.value.proofs.FormLaws.{checked-ok}
use Rattle.edges_record.proofs.samples.with_value.Goals as goal

pub put_value_record-requires-clause-p_value : goal.put_value_record-requires-clause-p_value
put_value_record-requires-clause-p_value c = (checked-ok _ _ _ (sym c.check_value.ensures ∙ c.in-Ok.is)).0

pub put_value_record-requires-clause-d_value : goal.put_value_record-requires-clause-d_value
put_value_record-requires-clause-d_value c = (checked-ok _ _ _ (sym c.check_value.ensures ∙ c.in-Ok.is)).1
