-- `weave::Code::naming` meets its contract. Assumes nothing.
use Rattle.weave.proofs.Code.naming.Goals as goal

pub returns-then-bad : goal.returns-then-bad
returns-then-bad c = simp (← c.bad.ensures, c.if-bad.true)

pub returns : goal.returns
returns c = simp (← c.bad.ensures, c.if-bad.false) c.plain.ensures
