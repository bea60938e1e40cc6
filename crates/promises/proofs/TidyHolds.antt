-- Every box that a mount and any calls lead to has a tidy table of cursors.
-- Assumes nothing.
use mathlib.Core.Path.{◌≡◌, refl}
use mathlib.Core.Bool.{true}
use mathlib.Core.List.{List, [], ◌∷◌}
use Prim.Native.Nat.{ℕ, ◌+◌, ◌≤◌, ◌<◌}
use native.Mathlib.Omega.{arith}
use borrow.Author.Tests.{ltb-true}
use lib.Dec.{ltb}
use lib.ListN.{length}
use Rattle.le.proofs.TestLaws.{and_left, and_right}
use Rattle.weave.specs.declared.Weave.{Weave}
use Rattle.weave.specs.Sums.{added}
use Rattle.weave.specs.Table.{has_handle, slot_place}
use Rattle.weave.specs.States.{fresh_weave, begun_weave}
use Rattle.weave.specs.Checks.{handle_fine, slot_fine}
use Rattle.weave.proofs.SumLaws.{added-sum}
use Rattle.takes.specs.Begun.{begun}
use Rattle.host.specs.Hosts.{Lent, with_weave}
use Rattle.host.specs.Ending.{committed}
use Rattle.promises.specs.Box.{World, Op, step, mounted_as, run}
use Rattle.promises.specs.Turn.{Tidy, TidyIn}
use Rattle.promises.proofs.MountHolds.{mount-fresh}
use Rattle.promises.proofs.MoveLaws.{Cursors, Same, Opens, Hands, Closes, Cleared, Move, Rests, Begins, GoesOn, Commits, Discards, opened_after, slots_after, after}
use Rattle.promises.proofs.MovesHold.{moved}
use Rattle.promises.proofs.TurnLaws.{tidy-none, tidy-free, tidy-moved, tidy-opened}

-- ---- what check 9 says of the table

-- tl_open: a room is free, and its handle is the next number
pub slot-free : (w : Weave) → slot_fine w ≡ true → slot_place (has_handle 0) w.slots < 4
unfolding slot_fine
slot-free w f = ltb-true (slot_place (has_handle 0) w.slots) 4 (and_left (ltb (slot_place (has_handle 0) w.slots) 4) _ f)

pub handle-new : (w : Weave) → slot_fine w ≡ true → added w.opened 1 65535 ≡ w.opened + 1
unfolding slot_fine
handle-new w f =
    let few = ltb-true w.opened 65535 (and_right (ltb (slot_place (has_handle 0) w.slots) 4) _ f) in
    added-sum w.opened 1 65535 (omega (arith, few))

-- an open handle's place
pub handle-there : (w : Weave) → Tidy w.slots w.opened → (k : ℕ) → handle_fine w k ≡ true → slot_place (has_handle k) w.slots < length w.slots
unfolding handle_fine
handle-there w t k f = rw t.four (ltb-true (slot_place (has_handle k) w.slots) 4 (and_right (ltb 0 k) _ f))

pub handle-least : (w : Weave) (k : ℕ) → handle_fine w k ≡ true → 1 ≤ k
unfolding handle_fine
handle-least w k f = ltb-true 0 k (and_left (ltb 0 k) _ f)

-- ---- any move

pub cursors-tidy : (w : World) (o : Op) (c : Cursors w o) → TidyIn w → Tidy (slots_after w o c) (opened_after w o c)
cursors-tidy w o Same t = t
cursors-tidy w o (Opens s e f) t =
    let new = handle-new w.host.weave f in
    rw new (tidy-opened w.host.weave.slots w.host.weave.opened t (slot_place (has_handle 0) w.host.weave.slots) s (rw new at e))
cursors-tidy w o (Hands k rs f room g) t =
    tidy-moved w.host.weave.slots w.host.weave.opened t k _ refl (handle-there w.host.weave t k f)
cursors-tidy w o (Closes k f) t = tidy-free w.host.weave.slots w.host.weave.opened t (slot_place (has_handle k) w.host.weave.slots)
cursors-tidy w o (Cleared i) t = tidy-none w.host.weave.opened

tidy-move : (w : World) (o : Op) (m : Move w o) → TidyIn w → TidyIn (after w o m)
unfolding with_weave begun begun_weave fresh_weave committed
tidy-move w o Rests t = t
tidy-move w o (Begins args i b) t = tidy-none 0
tidy-move w o (GoesOn r c) t = cursors-tidy w o c.cursors t
tidy-move w o (Commits i s code c) t = tidy-none 0
tidy-move w o (Discards i) t = tidy-none 0

pub tidy-run : (os : List Op) (w : World) → TidyIn w → TidyIn (run w os)
tidy-run [] w t = t
tidy-run (o ∷ os) w t = tidy-run os (step w o).world (rw (moved w o).world (tidy-move w o (moved w o).move t))

pub life-tidy : (l : Lent) (table : List ℕ) (used : ℕ) (os : List Op) → TidyIn (run (mounted_as l table used) os)
unfolding fresh_weave
life-tidy l table used os = tidy-run os (mounted_as l table used) (rw (mount-fresh l table used) (tidy-none 0))
