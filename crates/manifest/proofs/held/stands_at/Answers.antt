-- The answers for `manifest::held::stands_at`.
use mathlib.Core.Path.{refl}
use Prim.Native.Nat.{suc}
use native.Mathlib.Omega.{arith}
use Rattle.manifest.proofs.HeldLaws.{asked-start, asked-end, asked-yes, asked-no}
use Rattle.manifest.proofs.held.stands_at.Goals as goal

pub loop-i-init : goal.loop-i-init
loop-i-init c = asked-start _ _ _

pub overflow_sub-places : goal.overflow_sub-places
overflow_sub-places c = c.loop-i.invariant.under

pub offset_bounds-places-i : goal.offset_bounds-places-i
offset_bounds-places-i c = omega (arith, c.loop-i.invariant.under, c.loop-i-test.true)

pub bounds-places-i : goal.bounds-places-i
bounds-places-i c = omega (arith, c.loop-i.invariant.under, c.loop-i-test.true)

pub overflow_add-i : goal.overflow_add-i
overflow_add-i c = omega (arith, c.loop-i.invariant.under, c.loop-i-test.true)

pub offset_bounds-places-i-in-loop-i : goal.offset_bounds-places-i-in-loop-i
offset_bounds-places-i-in-loop-i c = omega (arith, c.loop-i.invariant.under, c.loop-i-test.true)

pub bounds-places-i-in-loop-i : goal.bounds-places-i-in-loop-i
bounds-places-i-in-loop-i c = omega (arith, c.loop-i.invariant.under, c.loop-i-test.true)

pub returns-then-same : goal.returns-then-same
returns-then-same c = asked-yes c.loop-i.invariant c.loop-i-test.true _ (suc _) (omega arith) refl c.cut.ensures c.same.ensures c.if-same.true

pub overflow_add-i-in-loop-i : goal.overflow_add-i-in-loop-i
overflow_add-i-in-loop-i c = omega (arith, c.loop-i.invariant.under, c.loop-i-test.true)

pub loop-i-smaller : goal.loop-i-smaller
loop-i-smaller c = omega (arith, c.loop-i.invariant.under, c.loop-i-test.true)

pub loop-i-preserved : goal.loop-i-preserved
loop-i-preserved c = asked-no c.loop-i.invariant c.loop-i-test.true _ _ (omega arith) (omega arith) c.cut.ensures c.same.ensures c.if-same.false

pub returns : goal.returns
returns c = asked-end c.loop-i.invariant c.loop-i-test.false
