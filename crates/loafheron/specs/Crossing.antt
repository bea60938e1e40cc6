-- How the state crosses to C: every field as a number, and back.
-- Assumes nothing.
use Rattle.std.specs.Prelude.{Bool, not, cond, List, map, ℕ, eqb, ℤ, pos, negsuc}
use Rattle.weave.specs.Codes.{number, spoiled_code}
use Rattle.weave.specs.declared.Mark.{Mark}
use Rattle.weave.specs.declared.Spoiled.TheVariants.{Not, Overspent, Panicked}
use Rattle.weave.specs.declared.Slot.{Slot}
use Rattle.weave.specs.declared.Weave.{Weave}
use Rattle.host.specs.declared.Host.{Host}
use Rattle.loafheron.specs.declared.Room.{Room}
use Rattle.loafheron.specs.declared.State.{State}

-- a flag is 0 or 1; any number but 0 says yes
unfoldable pub flag : Bool → ℕ
flag t = cond t 1 0

unfoldable pub flag_said : ℕ → Bool
flag_said n = not (eqb n 0)

-- "its reason, -6 or -1"; 0 in a weave that is not spoiled
unfoldable pub mark_of : Mark → ℤ
mark_of m = number (spoiled_code m)

-- 0 and -6 say what they are; any other number is no reason, and is taken as a panic
unfoldable pub mark_said : ℤ → Mark
mark_said (pos n) = record { 0 = cond (eqb n 0) Not Panicked }
mark_said (negsuc n) = record { 0 = cond (eqb n 5) Overspent Panicked }

unfoldable pub room_of : Slot → Room
room_of s =
    record {
      handle = s.handle;
      from = s.cursor.from.0;
      to = s.cursor.to.0;
      limit = s.cursor.limit;
      desc = flag s.cursor.desc;
      size = s.cursor.size;
      filter = s.cursor.filter;
    }

unfoldable pub slot_said : Room → Slot
slot_said r =
    record {
      handle = r.handle;
      cursor = record {
        filter = r.filter;
        size = r.size;
        from = record { 0 = r.from };
        to = record { 0 = r.to };
        limit = r.limit;
        desc = flag_said r.desc;
      };
    }

unfoldable pub rooms_of : List Slot → List Room
rooms_of s = map room_of s

unfoldable pub slots_said : List Room → List Slot
slots_said r = map slot_said r

-- the whole state
unfoldable pub state_of : Host → State
state_of h =
    record {
      staginglen = h.lengths.staging;
      cardlen = h.lengths.card;
      manifestlen = h.lengths.«manifest»;
      indexlen = h.index;
      used = h.used;
      next = h.next.0;
      faulted = flag h.faulted;
      running = flag h.weave.running;
      spoiled = mark_of h.weave.spoiled;
      turn = h.weave.turn;
      late = flag h.weave.late;
      staged = h.weave.staged;
      count = h.weave.count;
      units = h.weave.units;
      resmax = h.weave.resmax;
      time = h.weave.time.0;
      opened = h.weave.opened;
      trace = h.weave.trace;
      rooms = rooms_of h.weave.slots;
    }

unfoldable pub weave_said : State → Weave
weave_said s =
    record {
      running = flag_said s.running;
      spoiled = mark_said s.spoiled;
      turn = s.turn;
      late = flag_said s.late;
      staged = s.staged;
      count = s.count;
      units = s.units;
      resmax = s.resmax;
      time = record { 0 = s.time };
      trace = s.trace;
      opened = s.opened;
      slots = slots_said s.rooms;
    }

unfoldable pub host_said : State → Host
host_said s =
    record {
      lengths = record { staging = s.staginglen; card = s.cardlen; «manifest» = s.manifestlen };
      index = s.indexlen;
      used = s.used;
      next = record { 0 = s.next };
      faulted = flag_said s.faulted;
      weave = weave_said s;
    }
