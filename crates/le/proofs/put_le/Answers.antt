-- The answers for `le::put_le`.
use native.Mathlib.Nat.{add-zero, sub-zero}
use Prim.Native.Nat.{◌+◌}
use native.Mathlib.Omega.{arith}
use Rattle.le.proofs.LeLaws.{le_bytes-cons, le_bytes-none}
use Rattle.le.proofs.SpliceLaws.{splice-turn, splice-done}
use Rattle.le.proofs.put_le.Goals as goal

pub loop-i-init : goal.loop-i-init
loop-i-init c = simp (add-zero, sub-zero)

pub loop-i-preserved : goal.loop-i-preserved
loop-i-preserved c =
    let l = c.loop-i in
    splice-turn l.s (c.args.at + l.i) _ _ _ _ _ (omega arith) (le_bytes-cons _ _ _ (omega arith)) l.invariant

pub returns : goal.returns
returns c = splice-done _ _ _ _ (le_bytes-none _ _ (omega arith)) c.loop-i.invariant
