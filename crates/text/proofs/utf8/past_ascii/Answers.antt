-- The answers for `text::utf8::past_ascii`.
use mathlib.Core.Path.{◌≡◌, refl}
use native.Mathlib.Omega.{arith}
use lib.Bits.{bit_and}
use Rattle.text.proofs.PlainLaws.{utf8-eight}
use Rattle.text.proofs.utf8.past_ascii.Goals as goal

pub loop-i-init : goal.loop-i-init
loop-i-init c = (omega arith, omega arith, refl)

pub returns-then-get-ne0 : goal.returns-then-get-ne0
returns-then-get-ne0 c = (c.loop-i.invariant.0, c.loop-i.invariant.2)

pub loop-i-preserved : goal.loop-i-preserved
loop-i-preserved c =
    let s = c.args.s.now in
    let l = c.loop-i in
    let e : bit_and c.get.result 0x8080808080808080 ≡ 0 = omega arith in
    (omega arith, omega arith, utf8-eight s l.i _ c.type_inv.s (omega arith) (rw c.get.ensures at e) l.invariant.2)

pub returns : goal.returns
returns c = (c.loop-i.invariant.0, c.loop-i.invariant.2)
