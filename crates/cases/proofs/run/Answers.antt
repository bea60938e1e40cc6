-- The answers for `cases::run`.
use Rattle.std.proofs.Common.{rules, of_calls, refl}
use Rattle.cases.proofs.RunLaws.{first-line, no-line}
use Rattle.cases.proofs.run.Goals as goal

pub loop-rest-preserved : goal.loop-rest-preserved
loop-rest-preserved g c =
    let e = first-line c.loop-rest.rest.now c.line-l.result.now c.tail-rest.result.now (search rules) (search rules) (search rules) in (
      search of_calls,
      λ last f. c.loop-rest.invariant.1 last (rw e (_, (c.line-l.result, refl, record { shown = _; shows = refl; left = _; called = c.case.ensures; leaves = refl }), f)),
    )

pub returns : goal.returns
returns g c = (
  c.read_full-n.result,
  c.read_full-n.ensures.in_bounds,
  (c.args.case, c.read_full-n.new.self),
  (c.loop-rest.case, c.loop-rest.streams),
  refl,
  c.loop-rest.invariant.1 _ (rw (no-line c.loop-rest.rest.now (search rules)) refl),
  search rules,
  search rules,
)
