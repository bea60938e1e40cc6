-- `script::forms::unsigned` meets its contract. Assumes nothing.
use Rattle.script.proofs.FormLaws.{unsigned-is}
use Rattle.script.proofs.forms.unsigned.Goals as goal

pub returns : goal.returns
returns c = unsigned-is c.args.f _ _ c.strip_prefix.ensures.cases c.unwrap_or.ensures
