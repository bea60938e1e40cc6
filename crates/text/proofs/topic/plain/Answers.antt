-- `text::topic::plain` meets its contract: the three tests, byte by byte. Assumes nothing.
use mathlib.Core.Path.{sym}
use mathlib.Core.Bool.{true≢false}
use native.Mathlib.Omega.{arith}
use lib.Bits.{and_le_r}
use Rattle.text.proofs.PlainLaws.{plain-number}
use Rattle.text.proofs.topic.plain.Goals as goal

pub returns-then-eight-ne0 : goal.returns-then-eight-ne0
returns-then-eight-ne0 c e = absurd (true≢false (sym e))

pub overflow_add-low : goal.overflow_add-low
overflow_add-low c = omega (arith, and_le_r c.args.eight 0x7F7F7F7F7F7F7F7F)

pub returns-then-low : goal.returns-then-low
returns-then-low c e = absurd (true≢false (sym e))

pub overflow_add-result : goal.overflow_add-result
overflow_add-result c = omega (arith, and_le_r c.args.eight 0x7F7F7F7F7F7F7F7F)

pub returns : goal.returns
returns c = plain-number c.args.eight c.if-eight-ne0.false c.if-low.false
