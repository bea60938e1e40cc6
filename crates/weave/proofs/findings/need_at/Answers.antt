-- `weave::findings::need_at` meets its contract. Assumes nothing.
use Rattle.weave.proofs.findings.need_at.Goals as goal

pub returns : goal.returns
returns c = simp (c.naming.ensures, c.need.ensures)
