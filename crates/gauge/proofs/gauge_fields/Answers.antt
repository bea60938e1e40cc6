-- The answers for `gauge::gauge_fields`.
use Rattle.std.proofs.Common.{rules, refl, length, ◌/◌}
use Rattle.gauge.proofs.FieldLaws.{sum-turn, sum-end}
use Rattle.gauge.proofs.gauge_fields.Goals as goal

pub loop-i-preserved : goal.loop-i-preserved
loop-i-preserved c =
    let l = c.loop-i in
    sum-turn
    c.args.s.now
    (length c.args.s.now / 12)
    l.i
    l.sum
    _
    _
    _
    _
    _
    (search rules)
    (search rules)
    (search rules)
    refl
    refl
    l.invariant

pub returns : goal.returns
returns c =
    let l = c.loop-i in sum-end c.args.s.now (length c.args.s.now / 12) l.i _ l.sum _ (search rules) l.invariant
