-- How an answer crosses: 01's number for each code and each fate, the values, the field, the state.
-- Assumes nothing.
use Rattle.std.specs.Prelude.{pos}
use Rattle.weave.specs.Codes.{number}
use Rattle.host.specs.declared.Answer.{Answer}
use Rattle.host.specs.declared.Fate.{Fate}
use Rattle.host.specs.declared.Fate.TheVariants.{Refused, Discarded, Running, Committed}
use Rattle.host.specs.declared.Mounted.{Mounted}
use Rattle.host.specs.declared.Returned.{Returned}
use Rattle.loafheron.specs.declared.MountReply.{MountReply}
use Rattle.loafheron.specs.declared.Outcome.{Outcome}
use Rattle.loafheron.specs.declared.Reply.{Reply}
use Rattle.loafheron.specs.declared.ReturnReply.{ReturnReply}
use Rattle.loafheron.specs.Crossing.{state_of}

-- "(-5: sizes, used length or manifest; -3: with the offset of the first record not sound)"
unfoldable pub mount_reply : Mounted → MountReply
mount_reply m = record { code = number m.code; at = m.at; state = state_of m.host }

-- "Each operation takes the host's state and hands the next state back"; 02, A5: the field as it is
unfoldable pub reply : Answer → Reply
reply a = record { code = number a.code; value = a.value; field = a.field; state = state_of a.host }

-- "If an answer is an enum, a definition tells you this paper's number and values for each of its cases." "The outcome gives events and bytes."
unfoldable pub outcome_of : Fate → Outcome
outcome_of (Refused c) = record { kind = 0; code = number c; events = 0; bytes = 0 }
outcome_of (Discarded c) = record { kind = 1; code = number c; events = 0; bytes = 0 }
outcome_of Running = record { kind = 2; code = pos 0; events = 0; bytes = 0 }
outcome_of (Committed events' bytes') = record { kind = 3; code = pos 0; events = events'; bytes = bytes' }

unfoldable pub return_reply : Returned → ReturnReply
return_reply r = record { outcome = outcome_of r.fate; state = state_of r.host }
