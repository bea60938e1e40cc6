-- `session::fates::say_fate` meets its contract. Assumes nothing.
use Rattle.script.proofs.SayLaws.{put_then, prints-from, line-put, four-put}
use Rattle.script.specs.Saying.{printed, behind}
use Rattle.session.specs.Fates.{said_fate}
use Rattle.script.specs.Words.{return_word, running_word, discarded_word, committed_word}
use native.Mathlib.Omega.{arith}
use Rattle.session.proofs.fates.say_fate.Goals.{in-Refused, in-Discarded, in-Running, in-Committed}
use Rattle.session.proofs.fates.say_fate.Goals as goal

pub byte-requires : goal.byte-requires
byte-requires c =
    elim c.match-f.branch [
      | in-Refused w ↦ rw w.p-is (omega arith)
      | in-Discarded w ↦ rw w.p-is (omega arith)
      | in-Running w ↦ rw w.p-is (omega arith)
      | in-Committed w ↦ rw w.p-is (omega arith)
    ]

pub returns : goal.returns
unfolding said_fate printed behind return_word running_word discarded_word committed_word
returns c =
    elim c.match-f.branch [
      | in-Refused w ↦ simp w.in-Refused.is (line-put _ _ _ _ _ _ _ _ _ w.bytes.ensures.put w.answer.ensures.put.put (prints-from _ _ _ _ w.p-is c.byte.ensures).put)
      | in-Discarded w ↦ simp w.in-Discarded.is (line-put _ _ _ _ _ _ _ _ _ w.bytes-in-Discarded.ensures.put w.answer-in-Discarded.ensures.put.put (prints-from _ _ _ _ w.p-is c.byte.ensures).put)
      | in-Running w ↦ simp w.in-Running.is (put_then _ _ _ _ _ _ _ _ w.bytes-in-Running.ensures.put (prints-from _ _ _ _ w.p-is c.byte.ensures).put)
      | in-Committed w ↦ simp w.in-Committed.is (four-put _ _ _ _ _ _ _ _ _ _ _ _ w.bytes-in-Committed.ensures.put w.numeral.ensures.put.put w.numeral-in-Committed.ensures.put.put (prints-from _ _ _ _ w.p-is c.byte.ensures).put)
    ]
