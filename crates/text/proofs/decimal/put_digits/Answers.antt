-- The answers for `text::decimal::put_digits`.
use Prim.Native.Nat.{◌-◌}
use native.Mathlib.Omega.{arith}
use Rattle.le.proofs.SpliceLaws.{splice-done}
use Rattle.text.proofs.DigitLaws.{digits-turn, digits-none}
use Rattle.text.proofs.decimal.put_digits.Goals as goal

pub loop-i-preserved : goal.loop-i-preserved
loop-i-preserved c = let l = c.loop-i in digits-turn l.out _ l.i (l.i - 1) _ _ (omega arith) l.invariant

pub returns : goal.returns
returns c = splice-done _ _ _ _ (digits-none _ _ (omega arith)) c.loop-i.invariant
