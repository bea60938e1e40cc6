-- The answers for `text::topic::plain_bytes`.
use mathlib.Core.Path.{refl}
use Prim.Native.Nat.{◌+◌, ◌≤◌}
use native.Mathlib.Omega.{arith}
use lib.ListN.{length, get_or}
use Rattle.text.proofs.Utf8Laws.{ascii-passed}
use Rattle.text.proofs.TopicLaws.{control-turn}
use Rattle.text.proofs.PlainLaws.{plain-stands, utf8-plain, control-plain}
use Rattle.text.proofs.topic.plain_bytes.Goals as goal
use Rattle.text.proofs.topic.plain_bytes.Goals.{then-s-i-ge4+then-plain, else-s-i-ge4}

pub loop-k-init : goal.loop-k-init
loop-k-init c =
    let b = c.type_inv.s in
    let a = c.args in
    let s = a.s.now in
    elim c.if-s-i-ge4.branch [
      | then-s-i-ge4+then-plain w ↦
          let l : a.from + 4 ≤ length s = omega arith in
          let p = w.plain.ensures w.if-plain.true in
          rw w.i-is (
            l,
            utf8-plain 4 s a.from _ l b (omega arith) _ 0x20202020 (omega (arith, w.get.ensures)) p refl,
            λ rule. control-plain 4 s a.from _ l b (omega arith) _ 0x20202020 (omega (arith, w.get.ensures)) p rule refl,
          )
      | else-s-i-ge4 w ↦ rw w.i-is (omega arith, refl, λ rule. refl)
    ]

pub loop-k-preserved : goal.loop-k-preserved
loop-k-preserved c =
    let s = c.args.s.now in
    let l = c.loop-k in (
      omega arith,
      ascii-passed s l.k _ c.loop-k-test.true l.invariant.1 (omega arith),
      λ rule. control-turn rule s l.k _ c.loop-k-test.true (plain-stands rule (get_or s l.k 0) (omega arith, omega arith)) (l.invariant.2 rule),
    )
