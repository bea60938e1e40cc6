-- `pieces::Play::last` meets its contract. Assumes nothing.
use Rattle.std.proofs.Common.{arith, refl}
use Rattle.pieces.proofs.StepLaws.{last_none, last-held}
use Rattle.pieces.proofs.Play.last.Goals as goal

pub returns-then-front-lt1 : goal.returns-then-front-lt1
returns-then-front-lt1 c = record { stand = last_none c.args.self.now _ c.front.ensures (omega (arith, c.if-front-lt1.true)); line = refl }

pub returns : goal.returns
returns c =
    record { stand = last-held c.args.self.now _ c.front.ensures _ _ _ _ c.if-front-lt1.false c.closed-n.ensures.hears; line = c.closed-n.ensures.line }
