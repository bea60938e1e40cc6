-- `session::Session::overfull` meets its contract. Assumes nothing.
use Rattle.script.proofs.SayLaws.{put-none}
use Rattle.session.specs.Sessions.{refused_mount}
use Rattle.script.specs.Words.{go_word}
use native.Mathlib.Omega.{arith}
use mathlib.Core.Path.{refl}
use Rattle.session.proofs.Session.overfull.Goals as goal

pub returns-then-same : goal.returns-then-same
unfolding refused_mount go_word
returns-then-same c = simp (← c.same.ensures, c.if-same.true) (record { next = c.refused.ensures.next_value; buffers = refl; said = c.refused.ensures.put })

pub returns : goal.returns
unfolding refused_mount go_word
returns c = simp (← c.same.ensures, c.if-same.false) (record { next = c.becomes.ensures; buffers = refl; said = put-none _ _ (omega arith) })
