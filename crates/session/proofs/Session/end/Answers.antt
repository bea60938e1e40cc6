-- `session::Session::end` meets its contract. Assumes nothing.
use Rattle.script.proofs.SayLaws.{put-none}
use Rattle.session.specs.Sessions.{end_in}
use Rattle.script.specs.Words.{bad_word}
use native.Mathlib.Omega.{arith}
use mathlib.Core.Path.{sym}
use Rattle.std.proofs.Common.{inl, inr}
use Rattle.session.proofs.Session.end.Goals as goal

pub returns-in-Listing : goal.returns-in-Listing
unfolding end_in bad_word
returns-in-Listing c =
    elim c.in-Listing.is [
      | inl e ↦ simp e (rw (sym c.counted.ensures) c.say_answer.ensures.put)
      | inr e ↦ simp e (rw (sym c.counted.ensures) c.say_answer.ensures.put)
    ]

pub returns-in-Playing : goal.returns-in-Playing
unfolding end_in
returns-in-Playing c =
    elim c.in-Playing.is [ inl e ↦ simp e (put-none _ _ (omega arith)) | inr e ↦ simp e (put-none _ _ (omega arith)) ]
