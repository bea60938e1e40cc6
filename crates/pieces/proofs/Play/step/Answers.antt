-- `pieces::Play::step` meets its contract. Assumes nothing.
use Rattle.std.proofs.Common.{arith, refl, ap}
use Rattle.script.specs.declared.gather.Gathered.{Gathered}
use Rattle.script.specs.Gathering.{gathered}
use Rattle.pieces.proofs.StepLaws.{step-whole, step_part}
use Rattle.pieces.proofs.Play.step.Goals as goal

pub returns-then-g : goal.returns-then-g
unfolding gathered
returns-then-g c =
    record {
      hears = step-whole c.args.self.now _ c.args.piece.now _ 0 _ _ _ (omega arith) c.front-held.ensures refl c.gather-g.ensures.value c.gather-g.ensures.line_after _ _ _ c.if-g.true c.closed-wrote.ensures.hears;
      took = ap (λ (g : Gathered). g.at) c.gather-g.ensures.value;
    }

pub returns-else-g : goal.returns-else-g
unfolding gathered
returns-else-g c =
    record {
      hears = step_part c.args.self.now _ c.args.piece.now _ 0 _ _ _ (omega arith) c.front-held.ensures refl c.gather-g.ensures.value c.gather-g.ensures.line_after c.if-g.false;
      took = ap (λ (g : Gathered). g.at) c.gather-g.ensures.value;
    }
