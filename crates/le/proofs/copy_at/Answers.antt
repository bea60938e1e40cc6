-- The answers for `le::copy_at`.
use native.Mathlib.Nat.{add-zero}
use Prim.Native.Nat.{◌+◌}
use native.Mathlib.Omega.{arith}
use lib.ListN.{drop_of_length-le}
use Rattle.le.proofs.SpliceLaws.{splice-turn, splice-done, drop_head}
use Rattle.le.proofs.copy_at.Goals as goal

pub loop-i-init : goal.loop-i-init
loop-i-init c = simp add-zero

pub loop-i-preserved : goal.loop-i-preserved
loop-i-preserved c =
    let a = c.args in
    let l = c.loop-i in
    splice-turn l.dst (a.at + l.i) _ _ _ _ _ (omega arith) (drop_head a.src.now l.i (l.i + 1) (omega arith) (omega arith)) l.invariant

pub returns : goal.returns
returns c = splice-done _ _ _ _ (drop_of_length-le c.args.src.now {i = c.loop-i.i} (omega arith)) c.loop-i.invariant
