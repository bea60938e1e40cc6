-- The answers for `manifest::Manifest::held`.
use mathlib.Core.Path.{◌≡◌, refl, ◌∙◌}
use Prim.Native.Nat.{◌≤◌}
use native.Mathlib.Omega.{arith}
use lib.ListN.{length, take, length-take}
use Rattle.manifest.proofs.HeldLaws.{holding-start, holding-end, holding-no, holding-yes}
use Rattle.manifest.proofs.Manifest.held.Goals as goal
use Rattle.manifest.proofs.Manifest.held.Goals.{then-reads, else-reads}

pub loop-g-init : goal.loop-g-init
loop-g-init c =
    let a = c.args in
    -- the array in `self` has its 64 elements
    let room : length a.self.grants ≡ 64 = omega arith in
    holding-start _ _ _ (omega (arith, length-take a.self.count a.self.grants)) c.requires

pub loop-g-preserved : goal.loop-g-preserved
loop-g-preserved c =
    let own = c.front-g-items.ensures in
    elim c.if-reads.branch [
      | then-reads w ↦ holding-yes c.loop-g.invariant (rw own at c.loop-g-test.true) _ (rw own at c.reads.ensures) w.if-reads.true _ _ (rw own refl) (rw own refl) _ (omega arith) w.places-is (w.k-is ∙ omega arith)
      | else-reads w ↦ holding-no c.loop-g.invariant (rw own at c.loop-g-test.true) _ (rw own at c.reads.ensures) w.if-reads.false w.places-is w.k-is
    ]

pub returns : goal.returns
returns c =
    let past : length c.front-g-items.result.now ≤ c.loop-g.g-index = omega (arith, c.loop-g-test.false) in
    let h = holding-end c.loop-g.invariant (rw c.front-g-items.ensures at past) in
    record { many = h.many; put = h.put; front = h.front }
