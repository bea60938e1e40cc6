-- The answers for `pieces::Play::feed`.
use Rattle.std.proofs.Common.{arith, length-drop, ap, length, ◌∙◌, ◌<◌}
use Rattle.std.proofs.lemmas.Bool.Decides.{nat_tests}
use Rattle.script.proofs.GatherLaws.{gathered-ahead}
use Rattle.pieces.proofs.StepLaws.{feed-more, feed-done}
use Rattle.pieces.proofs.Play.feed.Goals as goal

pub loop-rest-smaller : goal.loop-rest-smaller
loop-rest-smaller c =
    let more : 0 < length c.loop-rest.rest.now = grind (arith, nat_tests) in
    omega
    (arith, more, gathered-ahead c.loop-rest.rest.now 0 0 more, c.step-s.ensures.took, ap length c.tail-rest.ensures ∙ length-drop c.step-s.result.took c.loop-rest.rest.now)

pub loop-rest-preserved : goal.loop-rest-preserved
loop-rest-preserved c = feed-more _ _ _ _ _ _ _ _ _ c.step-s.ensures.hears c.step-s.ensures.took c.tail-rest.ensures c.loop-rest.invariant

pub returns : goal.returns
returns c = feed-done _ _ _ (grind (arith, nat_tests)) c.loop-rest.invariant
