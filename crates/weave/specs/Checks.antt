-- The checks that speak of the state.
-- Assumes nothing.
use Rattle.std.specs.Prelude.{Bool, not, ◌&&◌, ◌||◌, ℕ, ◌+◌, ◌^◌, leb, ltb, eqb}
use Rattle.weave.specs.declared.Code.{Code}
use Rattle.weave.specs.declared.Code.TheVariants.{NotNow, Budget}
use Rattle.weave.specs.declared.Lengths.{Lengths}
use Rattle.weave.specs.declared.Weave.{Weave}
use Rattle.weave.specs.Codes.{need, first, spoiled_code}
use Rattle.weave.specs.Table.{has_handle, slot_place}

-- "other lent lengths that differ from those at mount"
unfoldable pub same_lengths : Lengths → Lengths → Bool
same_lengths was is =
    eqb is.staging was.staging && (eqb is.card was.card && eqb is.«manifest» was.«manifest»)

-- "a next number .. outside 1 to 2^63, alone or with the staged events added"
unfoldable pub numbers_fine : ℕ → ℕ → Bool
numbers_fine next count = leb 1 next && leb (next + count) (2 ^ 63)

-- "in a weave, a turn outside 1 to the module count"
unfoldable pub turn_fine : Weave → ℕ → Bool
turn_fine w modules = not w.running || (leb 1 w.turn && leb w.turn modules)

-- Check 1, but for the memory: the lengths, "a bad manifest, a used length above the card's, staged bytes above the staging's", and the above
unfoldable pub lent_fine : Lengths → Lengths → Bool → ℕ → ℕ → ℕ → Weave → Bool
lent_fine was is good modules used next w =
    same_lengths was is
    && (good
    && (leb used is.card
    && (leb w.staged is.staging && (numbers_fine next w.count && turn_fine w modules))))

-- checks 2 and 3 of a module call
unfoldable pub running_check : Weave → Code
running_check w = first (need w.running NotNow) (spoiled_code w.spoiled)

-- check 9: "handle not open"
unfoldable pub handle_fine : Weave → ℕ → Bool
handle_fine w k = ltb 0 k && ltb (slot_place (has_handle k) w.slots) 4

-- check 9: "4 are open or 65,535 have been opened"
unfoldable pub slot_fine : Weave → Bool
slot_fine w = ltb (slot_place (has_handle 0) w.slots) 4 && ltb w.opened 65535

-- check 10: "If units + charge > res_max the call is -6"
unfoldable pub budget_check : Weave → ℕ → Code
budget_check w charge = need (leb (w.units + charge) w.resmax) Budget
