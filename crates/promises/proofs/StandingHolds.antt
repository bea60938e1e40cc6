-- The box stands as the calls and their answers tell, after every sequence of calls.
-- Assumes nothing.
use mathlib.Core.Path.{◌≡◌, refl, sym, ap, ◌∙◌}
use mathlib.Core.Bool.{false, ◌&&◌, ◌||◌}
use mathlib.Core.List.{List, [], ◌∷◌}
use Prim.Native.Nat.{ℕ, zero, suc, ◌+◌, ◌≤◌, ◌<◌}
use native.Mathlib.Omega.{arith}
use borrow.Author.Tests.{ne_eqb, eqb-true, lt-ltb, eq-eqb}
use lib.Dec.{eqb, ltb}
use lib.ListN.{length, get_or, set}
use Rattle.le.proofs.TestLaws.{Tested, passes, fails, tested}
use Rattle.card.specs.Pick.{only}
use Rattle.weave.specs.declared.Slot.{Slot}
use Rattle.weave.specs.declared.Weave.{Weave}
use Rattle.weave.specs.Table.{free_slot, no_slots, has_handle, slot_place}
use Rattle.weave.specs.States.{fresh_weave, begun_weave}
use Rattle.weave.specs.Checks.{handle_fine, slot_fine}
use Rattle.weave.proofs.SumLaws.{leb-same}
use Rattle.takes.specs.Begun.{begun}
use Rattle.host.specs.Hosts.{Lent, with_weave}
use Rattle.host.specs.Ending.{committed}
use Rattle.promises.specs.Box.{World, Op, step, mounted_under, run}
use Rattle.promises.specs.Standing.{Standing, at_mount, without, heard, standing, is_among, Stands}
use Rattle.promises.specs.Turn.{Tidy}
use Rattle.promises.proofs.MountHolds.{mount-fresh, mount-healthy}
use Rattle.promises.proofs.SlotLaws.{one, many, many-first, many-alike, stored-many, place-passes, found-exactly}
use Rattle.promises.proofs.MoveLaws.{Cursors, Same, Opens, Hands, Closes, Cleared, Move, Rests, Begins, GoesOn, Commits, Discards, opened_after, slots_after, after, marked_by, faulted_by, opened_by, open_by, heard_by}
use Rattle.promises.proofs.MovesHold.{moved}
use Rattle.promises.proofs.TurnLaws.{handle-is, free-handle, tidy-none}
use Rattle.promises.proofs.TidyHolds.{slot-free, handle-new, handle-there, handle-least, cursors-tidy}

-- ---- a list of handles

-- how often a handle is among them
abbrev often : ℕ → List ℕ → ℕ
often k js = many (λ (j : ℕ). eqb j k) 0 js

often-first : (k j : ℕ) (js : List ℕ) → often k (j ∷ js) ≡ one (eqb j k) + often k js
often-first k j js = many-first (λ (i : ℕ). eqb i k) 0 j js

among-often : (k : ℕ) (js : List ℕ) → is_among k js ≡ ltb 0 (often k js)
unfolding only
among-often k [] = refl
among-often k (j ∷ js) = go (tested (eqb j k)) (among-often k js)
  where
    go : Tested (eqb j k) → is_among k js ≡ ltb 0 (often k js) → eqb j k || is_among k js ≡ ltb 0 (often k (j ∷ js))
    go (passes e) ih = rw e (sym (lt-ltb 0 (suc (often k js)) (omega arith)))
    go (fails e) ih = rw e ih

-- a handle is taken off
without-own : (k : ℕ) (js : List ℕ) → often k (without k js) ≡ 0
unfolding only
without-own k [] = refl
without-own k (j ∷ js) = go (tested (eqb j k)) (without-own k js)
  where
    go : Tested (eqb j k) → often k (without k js) ≡ 0 → often k (without k (j ∷ js)) ≡ 0
    go (passes e) ih = rw e ih
    go (fails e) ih = rw (e, e) ih

without_other : (i k : ℕ) → eqb k i ≡ false → (js : List ℕ) → often i (without k js) ≡ often i js
unfolding only
without_other i k n [] = refl
without_other i k n (j ∷ js) = go (tested (eqb j k)) (without_other i k n js)
  where
    go : Tested (eqb j k) → often i (without k js) ≡ often i js → often i (without k (j ∷ js)) ≡ often i (j ∷ js)
    go (passes e) ih = rw e (ih ∙ rw (eqb-true j k e, n))
    go (fails e) ih = rw e (omega (arith, ih, often-first i j js, often-first i j (without k js)))

without-long : (k : ℕ) (js : List ℕ) → length (without k js) + often k js ≡ length js
unfolding only
without-long k [] = refl
without-long k (j ∷ js) = go (tested (eqb j k)) (without-long k js)
  where
    go : Tested (eqb j k) → length (without k js) + often k js ≡ length js → length (without k (j ∷ js)) + often k (j ∷ js) ≡ suc (length js)
    go (passes e) ih = rw e (omega arith)
    go (fails e) ih = rw e (omega arith)

-- ---- a table that has just these handles

-- how many slots have a handle
abbrev having : ℕ → List Slot → ℕ
having k slots = many (has_handle k) free_slot slots

record Holds (slots : List Slot) (opened : ℕ) (js : List ℕ) : Type 0 where
  tidy : Tidy slots opened
  each : (k : ℕ) → 1 ≤ k → having k slots ≡ often k js
  none : often 0 js ≡ 0
  -- the other rooms are free
  free : having 0 slots + length js ≡ 4

holds-none : (n : ℕ) → Holds no_slots n []
unfolding no_slots has_handle free_slot only
holds-none n = record { tidy = tidy-none n; each = λ k h. many-alike (has_handle k) free_slot 4 free_slot (free-handle k h); none = refl; free = refl }

-- what check 9 asks of a handle, and of room
handles-are : (v : Weave) (js : List ℕ) → Holds v.slots v.opened js → (k : ℕ) → handle_fine v k ≡ is_among k js
unfolding handle_fine
handles-are v js t zero = sym (among-often 0 js ∙ ap (λ (n : ℕ). ltb 0 n) t.none)
handles-are v js t (suc k) =
    rw (lt-ltb 0 (suc k) (omega arith))
    (ap (λ (n : ℕ). ltb (slot_place (has_handle (suc k)) v.slots) n) (sym t.tidy.four)
    ∙ found-exactly (has_handle (suc k)) free_slot v.slots
    ∙ ap (λ (n : ℕ). ltb 0 n) (t.each (suc k) (omega arith))
    ∙ sym (among-often (suc k) js))

room-is : (v : Weave) (js : List ℕ) (n : ℕ) → Holds v.slots v.opened js → v.opened ≡ n → slot_fine v ≡ ltb (length js) 4 && ltb n 65535
unfolding slot_fine
room-is v js n t e = rw (free, e)
  where
    free : ltb (slot_place (has_handle 0) v.slots) 4 ≡ ltb (length js) 4
    free =
        ap (λ (i : ℕ). ltb (slot_place (has_handle 0) v.slots) i) (sym t.tidy.four)
        ∙ found-exactly (has_handle 0) free_slot v.slots
        ∙ leb-same 1 (having 0 v.slots) (suc (length js)) 4 (λ h. omega (arith, t.free)) (λ h. omega (arith, t.free))

-- a slot y is stored over the first with the handle k: how many have the handle j
stored-over : (slots : List Slot) (k j : ℕ) (y : Slot) → slot_place (has_handle k) slots < length slots
    → having j (set slots (slot_place (has_handle k) slots) y) + one (eqb k j) ≡ having j slots + one (eqb y.handle j)
unfolding has_handle
stored-over slots k j y p =
    let place = slot_place (has_handle k) slots in
    let its : (get_or slots place free_slot).handle ≡ k = handle-is k (get_or slots place free_slot) (place-passes (has_handle k) free_slot slots p) in
    ap (λ (n : ℕ). having j (set slots place y) + one (eqb n j)) (sym its) ∙ stored-many (has_handle j) free_slot slots place y p

-- .. and with a slot of the same handle as many as before
stored-alike : (slots : List Slot) (k j : ℕ) (y : Slot) → y.handle ≡ k → slot_place (has_handle k) slots < length slots
    → having j (set slots (slot_place (has_handle k) slots) y) ≡ having j slots
stored-alike slots k j y e p = omega (arith, stored-over slots k j y p, ap (λ (n : ℕ). one (eqb n j)) e)

-- ---- what becomes of the cursors

module _ (w : World) (o : Op) (js : List ℕ) (t : Holds w.host.weave.slots w.host.weave.opened js) where
  abbrev v : Weave
  v = w.host.weave

  cursors-hold : (c : Cursors w o) → Holds (slots_after w o c) (opened_after w o c) (open_by w o c js)
  unfolding free_slot
  cursors-hold Same = t
  cursors-hold (Opens s e f) =
      let there : slot_place (has_handle 0) v.slots < length v.slots = rw t.tidy.four (slot-free v f) in
      let new : eqb s.handle 0 ≡ false = ne_eqb s.handle 0 (λ q. omega (arith, e, handle-new v f)) in
      record {
        tidy = cursors-tidy w o (Opens s e f) t.tidy;
        each = λ k h. omega (arith, stored-over v.slots 0 k s there, ap one (ne_eqb 0 k (λ q. omega arith)), t.each k h, often-first k s.handle js);
        none = omega (arith, often-first 0 s.handle js, ap one new, t.none);
        free = omega (arith, stored-over v.slots 0 0 s there, ap one new, t.free);
      }
  cursors-hold (Hands k rs f room g) =
      let there = handle-there v t.tidy k f in
      record {
        tidy = cursors-tidy w o (Hands k rs f room g) t.tidy;
        each = λ j h. stored-alike v.slots k j _ refl there ∙ t.each j h;
        none = t.none;
        free = ap (λ (n : ℕ). n + length js) (stored-alike v.slots k 0 _ refl there) ∙ t.free;
      }
  cursors-hold (Closes k f) =
      record {
        tidy = cursors-tidy w o (Closes k f) t.tidy;
        each = λ j h. go j h (tested (eqb k j));
        none = without_other 0 k not-0 js ∙ t.none;
        free =
            omega (
              arith,
              stored-over v.slots k 0 free_slot there,
              ap one not-0,
              t.free,
              without-long k js,
              t.each k least,
              t.tidy.once k least,
              gone k least,
              ap one (eq-eqb k k refl),
            );
      }
    where
      there : slot_place (has_handle k) v.slots < length v.slots
      there = handle-there v t.tidy k f

      least : 1 ≤ k
      least = handle-least v k f

      not-0 : eqb k 0 ≡ false
      not-0 = ne_eqb k 0 (λ q. omega (arith, least))

      gone : (j : ℕ) → 1 ≤ j → having j (slots_after w o (Closes k f)) + one (eqb k j) ≡ having j v.slots
      gone j h = omega (arith, stored-over v.slots k j free_slot there, ap one (ne_eqb 0 j (λ q. omega arith)))

      go : (j : ℕ) → 1 ≤ j → Tested (eqb k j) → having j (slots_after w o (Closes k f)) ≡ often j (without k js)
      go j h (passes e) =
          omega (arith, gone j h, ap one e, t.tidy.once j h, ap (λ (i : ℕ). often j (without i js)) (eqb-true k j e), without-own j js)
      go j h (fails e) = omega (arith, gone j h, ap one e, t.each j h, without_other j k e js)
  cursors-hold (Cleared i) = holds-none v.opened

  opened-heard : (c : Cursors w o) (n : ℕ) → v.opened ≡ n → opened_after w o c ≡ opened_by w o c n
  opened-heard Same n e = e
  opened-heard (Opens s q f) n e = handle-new v f ∙ ap (λ (i : ℕ). i + 1) e
  opened-heard (Hands k rs f room g) n e = e
  opened-heard (Closes k f) n e = e
  opened-heard (Cleared i) n e = e

-- ---- any move

record Follows (w : World) (s : Standing) : Type 0 where
  running : w.host.weave.running ≡ s.running
  faulted : w.host.faulted ≡ s.faulted
  mark : w.host.weave.spoiled.0 ≡ s.mark
  opened : w.host.weave.opened ≡ s.opened
  cursors : Holds w.host.weave.slots w.host.weave.opened s.handles

follows-move : (w : World) (o : Op) (m : Move w o) (s : Standing) → Follows w s → Follows (after w o m) (heard_by w o m s)
unfolding with_weave begun begun_weave fresh_weave committed
follows-move w o Rests s t = t
follows-move w o (Begins args i b) s t = record { running = refl; faulted = t.faulted; mark = refl; opened = refl; cursors = holds-none 0 }
follows-move w o (GoesOn r c) s t = record {
  running = t.running;
  faulted = ap (faulted_by c.mark) t.faulted;
  mark = ap (marked_by c.mark) t.mark;
  opened = opened-heard w o s.handles t.cursors c.cursors s.opened t.opened;
  cursors = cursors-hold w o s.handles t.cursors c.cursors;
}
follows-move w o (Commits i q code c) s t = record { running = refl; faulted = t.faulted; mark = refl; opened = refl; cursors = holds-none 0 }
follows-move w o (Discards i) s t = record { running = refl; faulted = t.faulted; mark = refl; opened = refl; cursors = holds-none 0 }

follows-run : (os : List Op) (w : World) (s : Standing) → Follows w s → Follows (run w os) (standing w s os)
follows-run [] w s t = t
follows-run (o ∷ os) w s t =
    follows-run os (step w o).world (heard s o (step w o).said)
    (rw ((moved w o).world, (moved w o).heard-as s) (follows-move w o (moved w o).move s t))

-- THE PROMISE: mounted, refused or not, and asked whatever may be asked, the box stands as it was heard, by any charge rule
pub ruled-stands : (charge : ℕ → ℕ) (l : Lent) (table : List ℕ) (used : ℕ) (os : List Op) → Stands (run (mounted_under charge l table used) os) (standing (mounted_under charge l table used) at_mount os)
unfolding fresh_weave
ruled-stands charge l table used os =
    let w = run (mounted_under charge l table used) os in
    let s = standing (mounted_under charge l table used) at_mount os in
    let t = follows-run os (mounted_under charge l table used) at_mount start in
    record {
      running = t.running;
      faulted = t.faulted;
      mark = t.mark;
      opened = t.opened;
      handles = handles-are w.host.weave s.handles t.cursors;
      room = room-is w.host.weave s.handles s.opened t.cursors t.opened;
    }
  where
    start : Follows (mounted_under charge l table used) at_mount
    start = record {
      running = rw (mount-fresh l table used);
      faulted = mount-healthy l table used;
      mark = rw (mount-fresh l table used);
      opened = rw (mount-fresh l table used);
      cursors = rw (mount-fresh l table used) (holds-none 0);
    }
