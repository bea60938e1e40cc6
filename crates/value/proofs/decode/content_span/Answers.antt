-- `value::decode::content_span` meets its contract: each arm is the definition's. Assumes nothing.
use mathlib.Core.Path.{sym, ap}
use Rattle.value.specs.Values.{content_span}
use Rattle.value.proofs.decode.content_span.Goals as goal

pub returns-in-Plain : goal.returns-in-Plain
returns-in-Plain c = ap content_span (sym c.in-Plain.is)

pub returns-in-Wrong : goal.returns-in-Wrong
returns-in-Wrong c = ap content_span (sym c.in-Wrong.is)
