-- Nothing is lost in crossing: a state that was handed to C and comes back is the host's own.
-- Assumes nothing.
use mathlib.Core.Path.{◌≡◌, refl}
use mathlib.Core.Bool.{Bool, true, false}
use mathlib.Core.List.{List, [], ◌∷◌}
use Rattle.weave.specs.declared.Mark.{Mark}
use Rattle.weave.specs.declared.Spoiled.{Spoiled}
use Rattle.weave.specs.declared.Spoiled.TheVariants.{Not, Overspent, Panicked}
use Rattle.weave.specs.declared.Slot.{Slot}
use Rattle.weave.specs.Codes.{number, reason_for}
use Rattle.host.specs.declared.Host.{Host}
use Rattle.loafheron.specs.Crossing.{flag, flag_said, mark_of, mark_said, room_of, slot_said, rooms_of, slots_said, state_of, weave_said, host_said}

pub flag-back : (t : Bool) → flag_said (flag t) ≡ t
unfolding flag_said flag
flag-back true = refl
flag-back false = refl

reason-back : (s : Spoiled) → mark_said (number (reason_for s)) ≡ record { 0 = s }
unfolding mark_said
reason-back Not = refl
reason-back Overspent = refl
reason-back Panicked = refl

pub mark-back : (m : Mark) → mark_said (mark_of m) ≡ m
unfolding mark_of
mark-back m = reason-back m.0

pub slot-back : (s : Slot) → slot_said (room_of s) ≡ s
unfolding slot_said room_of
slot-back s = simp (flag-back)

pub slots-back : (ss : List Slot) → slots_said (rooms_of ss) ≡ ss
unfolding slots_said rooms_of
slots-back [] = refl
slots-back (s ∷ ss) = simp (slot-back, slots-back ss)

pub there_and_back : (h : Host) → host_said (state_of h) ≡ h
unfolding host_said weave_said state_of
there_and_back h = simp (flag-back, mark-back, slots-back)
