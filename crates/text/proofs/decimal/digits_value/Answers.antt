-- The answers for `text::decimal::digits_value`.
use mathlib.Core.Path.{sym, ◌∙◌}
use native.Mathlib.Omega.{arith}
use Rattle.text.proofs.DecimalLaws.{number-none, number-over, number-turn, number-end}
use Rattle.text.proofs.decimal.digits_value.Goals as goal

pub returns-then-not-is_ascii_digit : goal.returns-then-not-is_ascii_digit
returns-then-not-is_ascii_digit c =
    number-none _ _ c.loop-b.b-index _ c.loop-b-test.true c.loop-b.invariant.1 (sym c.is_ascii_digit.ensures.value ∙ c.if-not-is_ascii_digit.true)

pub returns-in_err-checked_mul : goal.returns-in_err-checked_mul
returns-in_err-checked_mul c =
    rw c.from_residual.ensures
    (number-over _ _ c.loop-b.b-index _ c.loop-b-test.true c.loop-b.invariant.1 (omega (arith, c.in_err-checked_mul.ensures)))

pub returns-in_err-n : goal.returns-in_err-n
returns-in_err-n c =
    rw c.from_residual-in_err-n.ensures
    (number-over _ _ c.loop-b.b-index _ c.loop-b-test.true c.loop-b.invariant.1
    (omega (arith, c.from.ensures, c.in_ok-checked_mul.ensures, c.in_err-n.ensures)))

pub loop-b-preserved : goal.loop-b-preserved
loop-b-preserved c = (
  omega (arith, c.in_ok-n.ensures),
  number-turn _ _ c.loop-b.b-index _ c.loop-b-test.true c.loop-b.invariant.1 _
      (omega (arith, c.from.ensures, c.in_ok-checked_mul.ensures, c.in_ok-n.ensures))
      (sym c.is_ascii_digit.ensures.value ∙ c.if-not-is_ascii_digit.false),
)

pub returns : goal.returns
returns c = number-end _ _ c.loop-b.b-index _ c.loop-b.invariant.0 c.loop-b-test.false c.loop-b.invariant.1
