-- `value::check::span_fault` meets its contract: the span's test is the callee's. Assumes nothing.
use mathlib.Core.Path.{sym, ◌∙◌}
use Rattle.value.specs.Values.{span_fault}
use Rattle.value.proofs.check.span_fault.Goals as goal

pub returns-then-inside : goal.returns-then-inside
unfolding span_fault
returns-then-inside c = rw (sym c.inside.ensures ∙ c.if-inside.true)

pub returns-else-inside : goal.returns-else-inside
unfolding span_fault
returns-else-inside c = rw (sym c.inside.ensures ∙ c.if-inside.false)
