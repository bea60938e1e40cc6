-- `value::check::check_value` meets its contract: the 32 bytes can be read where their span is inside. Assumes nothing.
use mathlib.Core.Path.{◌≡◌, sym, ◌∙◌}
use borrow.Author.Rules.{rules}
use Rattle.std.specs.Prelude.{Err}
use Rattle.text.proofs.SpanLaws.{inside-end}
use Rattle.value.proofs.FaultLaws.{span-inside}
use Rattle.value.proofs.FormLaws.{checked-inside, checked-outside}
use Rattle.value.proofs.check.check_value.Goals as goal

pub returns-in_err-span_fault : goal.returns-in_err-span_fault
returns-in_err-span_fault c =
    let r : c.from_residual.result ≡ Err c.in_err-span_fault.field-0.0 = search rules in
    r ∙ checked-outside _ _ _ (sym c.span_fault.ensures ∙ c.in_err-span_fault.was)

pub read_value-v-requires : goal.read_value-v-requires
read_value-v-requires c = inside-end _ _ _ (span-inside _ _ (sym c.span_fault.ensures ∙ c.in_ok-span_fault.was))

pub returns : goal.returns
returns c =
    c.check_decoded.ensures ∙ rw c.read_value-v.ensures (checked-inside _ _ (span-inside _ _ (sym c.span_fault.ensures ∙ c.in_ok-span_fault.was)))
