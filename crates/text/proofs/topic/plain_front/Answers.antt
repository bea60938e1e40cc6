-- The answers for `text::topic::plain_front`.
use mathlib.Core.Path.{◌≡◌}
use Prim.Native.Nat.{◌+◌, ◌*◌}
use native.Mathlib.Omega.{arith}
use Rattle.text.proofs.PlainLaws.{utf8-plain, control-plain}
use Rattle.text.proofs.topic.plain_front.Goals as goal

pub loop-k-preserved : goal.loop-k-preserved
loop-k-preserved c =
    let b = c.type_inv.s in
    let s = c.args.s.now in
    let l = c.loop-k in
    let v = c.get in
    let p = c.plain.ensures c.if-not-plain.false in
    let next : 8 * l.k + 8 ≡ 8 * (l.k + 1) = omega arith in (
      rw next at (utf8-plain 8 s (8 * l.k) _ (omega arith) b (omega arith) v.result 0 (omega (arith, v.ensures)) p l.invariant.0),
      λ rule. rw next at (control-plain 8 s (8 * l.k) _ (omega arith) b (omega arith) v.result 0 (omega (arith, v.ensures)) p rule (l.invariant.1 rule)),
    )
