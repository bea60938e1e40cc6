-- `pieces::Play::title` meets its contract. Assumes nothing.
use Rattle.script.proofs.SayLaws.{put-long}
use Rattle.pieces.proofs.StepLaws.{title-put}
use Rattle.std.proofs.Common.{arith, ap, length}
use Rattle.pieces.proofs.Play.title.Goals as goal

pub bytes-requires : goal.bytes-requires
bytes-requires c = omega (arith, put-long _ _ _ _ _ c.finish-at.ensures.put, ap length c.front.ensures)

pub byte-requires : goal.byte-requires
byte-requires c = omega (arith, put-long _ _ _ _ _ c.finish-at.ensures.put, ap length c.front.ensures)

pub returns-clause-put : goal.returns-clause-put
returns-clause-put c = title-put _ _ _ _ _ _ _ _ _ c.finish-at.ensures.put (rw c.front.ensures at c.bytes.ensures.put) c.byte.ensures.put
