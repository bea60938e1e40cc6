-- `text::decimal::put_number` meets its contract. Assumes nothing.
use native.Mathlib.Omega.{arith}
use Rattle.text.proofs.DigitLaws.{no_room, all-put}
use Rattle.text.proofs.decimal.put_number.Goals as goal

pub returns-then-out-at : goal.returns-then-out-at
returns-then-out-at c = let whole = no_room _ _ _ _ c.digit_count-k.ensures (omega arith) in record { room = whole.0; bytes = whole.1 }

pub returns-then-out-at-2 : goal.returns-then-out-at-2
returns-then-out-at-2 c = let whole = no_room _ _ _ _ c.digit_count-k.ensures (omega arith) in record { room = whole.0; bytes = whole.1 }

pub returns : goal.returns
returns c = let whole = all-put _ _ _ _ c.digit_count-k.ensures _ c.if-out-at.false c.if-out-at-2.false c.put_digits.ensures in record { room = whole.0; bytes = whole.1 }
