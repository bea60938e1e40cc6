-- Promise 3: what one cursor hands over within a turn is a first part of one list, and a next answers 0 exactly when the whole list was out before it.
-- Assumes nothing.
use mathlib.Core.Path.{◌≡◌, refl, sym, ◌∙◌}
use mathlib.Core.Bool.{true, false, cond, true≢false}
use mathlib.Core.List.{List, [], ◌∷◌, ◌++◌, append_assoc}
use Prim.Native.Nat.{ℕ, ◌+◌, ◌<◌}
use native.Mathlib.Omega.{arith}
use borrow.Author.Tests.{eqb-true, eqb-false}
use lib.Dec.{eqb}
use lib.ListN.{length, get_or, set}
use Rattle.le.proofs.TestLaws.{Tested, passes, fails, tested}
use Rattle.card.specs.Pick.{All}
use Rattle.card.specs.Listing.{fit, advance}
use Rattle.weave.specs.declared.Slot.{Slot}
use Rattle.weave.specs.Checks.{handle_fine}
use Rattle.weave.specs.Table.{free_slot, has_handle, slot_place}
use Rattle.weave.specs.Moves.{cursor_of}
use Rattle.reads.specs.Paging.{next_list}
use Rattle.promises.specs.Box.{World, Indexed, Op, step, run}
use Rattle.promises.specs.Turn.{InTurn, given_by, handed_over}
use Rattle.promises.proofs.MoveLaws.{Cursors, Same, Opens, Hands, Closes, Cleared, Turning, Stays, Turns, Move, Rests, Begins, GoesOn, Commits, Discards, opened_after, slots_after, turn_after, after, handed_on, handed_by}
use Rattle.promises.proofs.MovesHold.{moved}
use Rattle.promises.proofs.IndexHolds.{turn-indexed}
use Rattle.promises.proofs.SlotLaws.{place-passes}
use Rattle.promises.proofs.TurnLaws.{other-handle, handle-is, free-handle, tidy-free, tidy-moved, tidy-opened, Followed, append-nil, follow-still, follow-other, follow-own, follow-shut}
use Rattle.promises.proofs.TidyHolds.{handle-new, handle-there}

abbrev pub FollowedIn : World → ℕ → List (List ℕ) → List (List ℕ) → Type 0
FollowedIn w k whole out =
    Followed w.host.weave.running w.lent.text w.host.weave.turn w.host.used w.lent.card w.host.weave.slots w.host.weave.opened k whole out

module _ (w : World) (x : Indexed w) (k : ℕ) (whole out : List (List ℕ)) (f : FollowedIn w k whole out) where
  abbrev slots' : List Slot
  slots' = w.host.weave.slots

  -- it is followed, with such slots, so many opened, and this out
  abbrev FollowedBy : List Slot → ℕ → List (List ℕ) → Type 0
  FollowedBy slots opened out' = Followed w.host.weave.running w.lent.text w.host.weave.turn w.host.used w.lent.card slots opened k whole out'

  still : FollowedBy slots' w.host.weave.opened (out ++ [])
  still = follow-still _ _ _ _ _ _ _ k whole out f

  -- the slot of another handle is not k's
  not-k : (j : ℕ) → (j ≡ k → ⊥) → slot_place (has_handle j) slots' < length slots' → has_handle k (get_or slots' (slot_place (has_handle j) slots') free_slot) ≡ false
  not-k j n p =
      other-handle k _ (λ e. n (sym (handle-is j (get_or slots' (slot_place (has_handle j) slots') free_slot) (place-passes (has_handle j) free_slot slots' p)) ∙ e))

  -- ---- calls that store a slot: of the cursor itself, or of another

  module _ (j : ℕ) (e : handle_fine w.host.weave j ≡ true) where
    abbrev place : ℕ
    place = slot_place (has_handle j) slots'

    there : place < length slots'
    there = handle-there w.host.weave f.tidy j e

    hands-followed : (rs : List (List ℕ)) (n : ℕ) → (Indexed w → rs ≡ fit n (next_list w.lent w.host j))
        → FollowedBy (set slots' place (record { handle = j; cursor = advance (cursor_of w.host.weave j) rs })) w.host.weave.opened (out ++ cond (eqb j k) rs [])
    unfolding cursor_of next_list
    hands-followed rs n walks = rw (walks x) (go (tested (eqb j k)))
      where
        go : Tested (eqb j k)
            → FollowedBy (set slots' place (record { handle = j; cursor = advance (cursor_of w.host.weave j) (fit n (next_list w.lent w.host j)) })) w.host.weave.opened
            (out ++ cond (eqb j k) (fit n (next_list w.lent w.host j)) [])
        go (passes q) = let is : j ≡ k = eqb-true j k q in rw (q, is) (follow-own _ _ _ _ _ _ _ k whole out f n (rw is at there))
        go (fails q) =
            rw (q, append-nil out)
            (follow-other _ _ _ _ _ _ _ k whole out f place _ w.host.weave.opened (other-handle k _ (eqb-false j k q))
            (not-k j (eqb-false j k q)) (tidy-moved slots' w.host.weave.opened f.tidy j _ refl there) f.most)

    closes-followed : FollowedBy (set slots' place free_slot) w.host.weave.opened (out ++ [])
    closes-followed = rw (append-nil out) (go (tested (eqb j k)))
      where
        go : Tested (eqb j k) → FollowedBy (set slots' place free_slot) w.host.weave.opened out
        go (passes q) = let is : j ≡ k = eqb-true j k q in rw is (follow-shut _ _ _ _ _ _ _ k whole out f (rw is at there))
        go (fails q) =
            follow-other _ _ _ _ _ _ _ k whole out f place free_slot w.host.weave.opened (free-handle k f.least)
            (not-k j (eqb-false j k q)) (tidy-free slots' w.host.weave.opened f.tidy place) f.most

  cursors-followed : (o : Op) (c : Cursors w o) → InTurn o → FollowedBy (slots_after w o c) (opened_after w o c) (out ++ handed_on k w o c)
  cursors-followed o Same i = still
  cursors-followed o (Opens s e fine) i =
      let new = handle-new w.host.weave fine in
      let is : s.handle ≡ w.host.weave.opened + 1 = e ∙ new in
      rw (new, append-nil out)
      (follow-other _ _ _ _ _ _ _ k whole out f (slot_place (has_handle 0) slots') s (w.host.weave.opened + 1) (other-handle k s (λ q. omega (arith, f.most)))
      (not-k 0 (λ q. omega (arith, f.least))) (tidy-opened slots' w.host.weave.opened f.tidy (slot_place (has_handle 0) slots') s is) (omega (arith, f.most)))
  cursors-followed o (Hands j rs e n walks) i = hands-followed j e rs n walks
  cursors-followed o (Closes j e) i = closes-followed j e
  cursors-followed o (Cleared never) i = absurd (never i)

  same_turn : (o : Op) (t : Turning w o) → InTurn o → turn_after w o t ≡ w.host.weave.turn
  same_turn o Stays i = refl
  same_turn o (Turns never low) i = absurd (never i)

  follow-move : (o : Op) (m : Move w o) → InTurn o → FollowedIn (after w o m) k whole (out ++ handed_by k w o m)
  follow-move o Rests i = still
  follow-move o (Begins args idle b) i = absurd (true≢false (sym f.runs ∙ idle))
  follow-move o (GoesOn r c) i = rw (same_turn o c.turn i) (cursors-followed o c.cursors i)
  follow-move o (Commits never s code c) i = absurd (never i)
  follow-move o (Discards never) i = absurd (never i)

  pub follow-step : (o : Op) → InTurn o → FollowedIn (step w o).world k whole (out ++ given_by k w o)
  follow-step o i = rw ((moved w o).world, (moved w o).given k) (follow-move o (moved w o).move i)

-- whatever else is called
pub follow-run : (os : List Op) (w : World) → Indexed w → (k : ℕ) (whole out : List (List ℕ)) → All InTurn os → FollowedIn w k whole out → FollowedIn (run w os) k whole (out ++ handed_over k w os)
follow-run [] w x k whole out i f = rw (append-nil out) f
follow-run (o ∷ os) w x k whole out i f =
    rw (← append_assoc out (given_by k w o) (handed_over k (step w o).world os))
    (follow-run os (step w o).world (turn-indexed w o i.0 x) k whole (out ++ given_by k w o) i.1 (follow-step w x k whole out f o i.0))

pub run-indexed : (os : List Op) (w : World) → Indexed w → All InTurn os → Indexed (run w os)
run-indexed [] w x i = x
run-indexed (o ∷ os) w x i = run-indexed os (step w o).world (turn-indexed w o i.0 x) i.1
