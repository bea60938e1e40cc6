-- The answers for `le::read_le`.
use mathlib.Core.Path.{refl}
use Prim.Native.Nat.{◌+◌}
use native.Mathlib.Omega.{arith}
use Rattle.le.specs.Le.{le_at}
use Rattle.le.proofs.LeLaws.{le_at-below, le_at-turn}
use Rattle.le.proofs.read_le.Goals as goal

pub loop-i-init : goal.loop-i-init
unfolding le_at
loop-i-init c = refl

pub overflow_add-v : goal.overflow_add-v
overflow_add-v c =
    let a = c.args in
    let l = c.loop-i in
    omega (arith, le_at-turn l.i a.at a.s.now l.v _ c.type_inv.s (omega arith) l.invariant c.from-byte.ensures, le_at-below 8 (l.i + 1) a.s.now a.at c.type_inv.s (omega arith))

pub loop-i-preserved : goal.loop-i-preserved
loop-i-preserved c =
    let a = c.args in
    let l = c.loop-i in
    le_at-turn l.i a.at a.s.now l.v _ c.type_inv.s (omega arith) l.invariant c.from-byte.ensures
