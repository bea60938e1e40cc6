-- `le::zero_range` meets its contract. Assumes nothing.
use mathlib.Core.Path.{◌≡◌, ap, ◌∙◌}
use Prim.Native.Nat.{◌-◌}
use native.Mathlib.Omega.{arith}
use lib.ListN.{length-replicate}
use Rattle.le.specs.Splice.{splice, zeros, part}
use Rattle.le.proofs.SpliceLaws.{mid-splice, length_part}
use Rattle.le.proofs.zero_range.Goals as goal

pub returns : goal.returns
unfolding part
returns c =
    let a = c.args in
    let filled : c.fill.new.self ≡ zeros (a.to - a.from) = c.fill.ensures.after (λ y e. e) ∙ ap zeros (length_part a.from (a.to - a.from) a.dst.now (omega arith)) in
    mid-splice _ _ _ _ (rw filled (length-replicate (a.to - a.from) 0)) (omega arith) ∙ ap (splice a.dst.now a.from) filled
