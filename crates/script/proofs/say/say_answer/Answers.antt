-- `script::say::say_answer` meets its contract. Assumes nothing.
use Rattle.script.proofs.SayLaws.{line-put}
use Rattle.script.proofs.say.say_answer.Goals as goal

pub returns-clause-put : goal.returns-clause-put
returns-clause-put c = line-put _ _ _ _ _ _ _ _ _ c.bytes.ensures.put c.answer.ensures.put.put c.byte.ensures.put
