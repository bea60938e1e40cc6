-- `pieces::Play::finish` meets its contract. Assumes nothing.
use Rattle.pieces.proofs.StepLaws.{finish-none, finish-some, finish-short}
use Rattle.pieces.proofs.Play.finish.Goals as goal

pub returns-then-self-clause-put : goal.returns-then-self-clause-put
returns-then-self-clause-put c = finish-none _ _ _ _ c.if-self.true

pub returns-clause-put : goal.returns-clause-put
returns-clause-put c = finish-some _ _ _ _ _ _ c.if-self.false c.end.ensures

pub returns-clause-upper_bound : goal.returns-clause-upper_bound
returns-clause-upper_bound c = finish-short _ _ _ _ _ _ (finish-some _ _ _ _ _ _ c.if-self.false c.end.ensures)
