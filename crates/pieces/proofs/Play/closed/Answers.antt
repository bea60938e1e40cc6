-- `pieces::Play::closed` meets its contract. Assumes nothing.
use Rattle.pieces.proofs.StepLaws.{name-short, closed-name, closed-line}
use mathlib.Core.Path.{refl, sym, ap}
use Rattle.pieces.specs.declared.Play.{Play}
use Rattle.pieces.proofs.Play.closed.Goals as goal

pub title-requires : goal.title-requires
title-requires c = rw (sym c.front-line.ensures) (name-short _ _ _ c.is_name.ensures c.if-is_name.true)

pub returns-then-is_name : goal.returns-then-is_name
returns-then-is_name c =
    record {
      hears = closed-name c.args.self.now _ _ _ _ _ c.front-line.ensures c.is_name.ensures _ c.if-is_name.true c.title.ensures.play_value c.title.ensures.put;
      line = ap (λ (p : Play). p.line) c.title.ensures.play_value;
    }

pub returns : goal.returns
returns c =
    record {
      hears = closed-line c.args.self.now _ _ _ _ _ c.front-line.ensures c.is_name.ensures _ _ c.if-is_name.false c.answer.ensures;
      line = refl;
    }
