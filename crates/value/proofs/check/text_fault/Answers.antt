-- `value::check::text_fault` meets its contract: the part is tested where the span is inside. Assumes nothing.
use mathlib.Core.Path.{◌≡◌, sym, ap, ◌∙◌}
use mathlib.Core.Bool.{true, false}
use borrow.Author.Rules.{rules}
use Rattle.std.specs.Prelude.{Err}
use Rattle.text.specs.Utf8.{utf8}
use Rattle.value.proofs.FaultLaws.{text-outside, text-inside}
use Rattle.value.proofs.check.text_fault.Goals as goal

pub returns-in_err-span_fault : goal.returns-in_err-span_fault
returns-in_err-span_fault c =
    let r : c.from_residual.result ≡ Err c.in_err-span_fault.field-0.0 = search rules in
    r ∙ text-outside _ _ _ (sym c.span_fault.ensures ∙ c.in_err-span_fault.was)

pub returns-then-valid : goal.returns-then-valid
returns-then-valid c =
    text-inside c.args.m.now c.args.s true (ap utf8 (sym c.cut.ensures) ∙ sym c.valid.ensures ∙ c.if-valid.true) (sym c.span_fault.ensures ∙ c.in_ok-span_fault.was)

pub returns-else-valid : goal.returns-else-valid
returns-else-valid c =
    text-inside c.args.m.now c.args.s false (ap utf8 (sym c.cut.ensures) ∙ sym c.valid.ensures ∙ c.if-valid.false) (sym c.span_fault.ensures ∙ c.in_ok-span_fault.was)
