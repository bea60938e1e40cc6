-- The answers for `text::decimal::digit_count`.
use native.Mathlib.Omega.{arith}
use Rattle.text.proofs.DigitLaws.{count-few, count_turn, count-all}
use Rattle.text.proofs.decimal.digit_count.Goals as goal

pub returns-then-rest-lt10 : goal.returns-then-rest-lt10
returns-then-rest-lt10 c = let l = c.loop-more in count-few _ l.more l.rest l.invariant c.if-rest-lt10.true

pub loop-more-preserved : goal.loop-more-preserved
loop-more-preserved c = let l = c.loop-more in count_turn _ l.more l.rest l.invariant c.loop-more-test.true c.if-rest-lt10.false

pub returns : goal.returns
returns c = let l = c.loop-more in omega (arith, count-all _ l.more l.rest l.invariant c.loop-more-test.false)
