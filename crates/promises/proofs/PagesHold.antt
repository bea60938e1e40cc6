-- Promise 3, as it was given: from any box that a mount and any calls lead to, for a cursor that an open answers, through any calls of the turn.
-- Assumes nothing.
use mathlib.Core.Path.{◌≡◌, refl, sym, ap, ◌∙◌}
use mathlib.Core.Bool.{true, false, true≢false}
use mathlib.Core.List.{List, [], ◌∷◌, ◌++◌, append_assoc}
use mathlib.Core.Logic.{◌↔◌}
use Prim.Native.Nat.{ℕ, ◌+◌, ◌≤◌, ◌<◌}
use native.Mathlib.Omega.{arith}
use borrow.Author.Tests.{eq-eqb, leb-true, leb-false}
use lib.Dec.{leb}
use lib.ListN.{length, get_or, set, length-append}
use Rattle.le.proofs.TestLaws.{Tested, passes, fails, tested}
use Rattle.manifest.specs.Saying.{may_read}
use Rattle.record.proofs.GoodLaws.{good-long}
use Rattle.card.specs.Pick.{All}
use Rattle.card.specs.Records.{records, size}
use Rattle.card.specs.Listing.{list_of, fit, page_of}
use Rattle.card.specs.declared.Cursor.{Cursor}
use Rattle.card.proofs.RecordsLaws.{records-good}
use Rattle.card.proofs.ListingLaws.{listed_has}
use Rattle.weave.specs.declared.Code.TheVariants.{Fine}
use Rattle.weave.specs.declared.Slot.{Slot}
use Rattle.weave.specs.Codes.{is_fine}
use Rattle.weave.specs.Findings.{is_clear}
use Rattle.weave.specs.Sums.{added}
use Rattle.weave.specs.Moves.{cursor_of, opened_with}
use Rattle.weave.specs.States.{paid, tabled}
use Rattle.weave.specs.Args.{open_args, next_args}
use Rattle.weave.specs.Table.{free_slot, has_handle, slot_place, slot_of}
use Rattle.takes.specs.Opening.{opening}
use Rattle.takes.specs.Pages.{page_bytes, page_code}
use Rattle.host.specs.Hosts.{with_weave, settle}
use Rattle.host.specs.Cursors.{open_check, open_next, open_answer}
use Rattle.reads.specs.Paging.{next_found, next_look, next_list, page_found, next_check, answer_by, next_answer, walk_look}
use Rattle.reads.proofs.PagingLaws.{check-before}
use Rattle.reads.proofs.IndexedLaws.{look-walks}
use Rattle.card.specs.Look.{Look, page_by, is_fault}
use Rattle.card.proofs.LookLaws.{walked-page, walked-sound}
use Rattle.card.proofs.PickLaws.{all-at, all_map}
use Rattle.promises.specs.Box.{World, Indexed, card_records, Op, Open, Next, Answered, step, is_refused, run}
use Rattle.promises.specs.Accepted.{OpenMay, NextMay}
use Rattle.promises.specs.Diary.{answer_of}
use Rattle.promises.specs.Turn.{InTurn, given_by, handed_over, list_left, FirstPart, TidyIn, is_next_on, Nexts}
use Rattle.promises.proofs.AcceptedLaws.{settle-ok}
use Rattle.promises.proofs.AcceptedHolds.{open-exactly, next-exactly}
use Rattle.promises.proofs.MovesHold.{next-hands, next-on}
use Rattle.promises.proofs.IndexHolds.{turn-indexed}
use Rattle.promises.proofs.SlotLaws.{place_none, place-new, got-stored, length-stored}
use Rattle.promises.proofs.TurnLaws.{own-handle, tidy-opened, Left, listing, shut, append-nil}
use Rattle.promises.proofs.TidyHolds.{slot-free, handle-new, handle-there}
use Rattle.promises.proofs.TurnHolds.{FollowedIn, follow-step, follow-run, run-indexed}

-- ---- a page is never empty but at the end

abbrev pub Long : List ℕ → Type 0
Long r = 136 ≤ length r

pub records-long : (s : List ℕ) (id : ℕ) → All Long (records s id)
records-long s id = all-at [] Long (records s id) (λ k h. good-long (get_or (records s id) k []) (id + k) (records-good s id k h))

pub left-long : (w : World) (k : ℕ) → All Long (list_left w k)
unfolding next_list
left-long w k = listed_has Long (may_read w.lent.text w.host.weave.turn) (cursor_of w.host.weave k) (card_records w) (records-long _ 1)

some-long : (rs : List (List ℕ)) → All Long rs → All (λ (r : List ℕ). 1 ≤ length r) rs
some-long rs a = all_map Long (λ (r : List ℕ). 1 ≤ length r) (λ r h. omega (arith, h)) rs a

size-some : (cap : ℕ) (r : List ℕ) (t : List (List ℕ)) → leb (length r) cap ≡ true → length r ≤ size (fit cap (r ∷ t))
unfolding fit
size-some cap r t e = rw e (omega arith)

fit-some : (cap : ℕ) (r : List ℕ) (t : List (List ℕ)) → leb (length r) cap ≡ true → 1 ≤ length (fit cap (r ∷ t))
unfolding fit
fit-some cap r t e = rw e (omega arith)

-- what an accepted page of the list rs answers
module _ (cap : ℕ) where
  pub page-zero : (rs : List (List ℕ)) → All Long rs → is_fine (page_code (page_of cap rs)) ≡ true → page_bytes (page_of cap rs) ≡ 0 → rs ≡ []
  unfolding page_of
  page-zero [] a c z = refl
  page-zero (r ∷ t) a c z = go (tested (leb (length r) cap)) c z
    where
      go : Tested (leb (length r) cap) → is_fine (page_code (page_of cap (r ∷ t))) ≡ true → page_bytes (page_of cap (r ∷ t)) ≡ 0 → (r ∷ t) ≡ []
      go (passes e) c z = absurd (omega (arith, rw e at z, size-some cap r t e, a.0))
      go (fails e) c z = absurd (true≢false (sym (rw e at c)))

  page-some : (rs : List (List ℕ)) → is_fine (page_code (page_of cap rs)) ≡ true → (rs ≡ [] → ⊥) → 1 ≤ length (fit cap rs)
  unfolding page_of
  page-some [] c n = absurd (n refl)
  page-some (r ∷ t) c n = go (tested (leb (length r) cap)) c
    where
      go : Tested (leb (length r) cap) → is_fine (page_code (page_of cap (r ∷ t))) ≡ true → 1 ≤ length (fit cap (r ∷ t))
      go (passes e) c = fit-some cap r t e
      go (fails e) c = absurd (true≢false (sym (rw e at c)))

  pub zero-page : (rs : List (List ℕ)) → rs ≡ [] → page_bytes (page_of cap rs) ≡ 0
  unfolding page_of
  zero-page rs e = rw e

nothing : (rs : List (List ℕ)) → length rs ≡ 0 → rs ≡ []
nothing [] e = refl
nothing (r ∷ rs) e = absurd (omega arith)

-- ---- a next that isn't refused

-- on a sound card with a table that fits, what is found is the walk's page
module _ (w : World) (x : Indexed w) (m : List ℕ) (at : ℕ) where
  pub page-is : page_by (next_look w.lent w.index w.host m at) ≡ page_of (next_args m at).out.len (list_left w (next_args m at).handle)
  unfolding walk_look
  page-is =
      ap page_by (look-walks w.lent w.index w.host x.sound x.fits m at)
      ∙ rw x.sound (walked-page (next_args m at).out.len (list_left w (next_args m at).handle) (some-long (list_left w (next_args m at).handle) (left-long w (next_args m at).handle)))

  pub look-sound : is_fault (next_look w.lent w.index w.host m at).stop ≡ false
  unfolding walk_look
  look-sound =
      ap (λ (k : Look). is_fault k.stop) (look-walks w.lent w.index w.host x.sound x.fits m at)
      ∙ rw x.sound (walked-sound (next_args m at).out.len (list_left w (next_args m at).handle))

module _ (w : World) (x : Indexed w) (m : List ℕ) (at : ℕ) (e : is_refused (step w (Next m at)).said ≡ false) where
  may : NextMay w.lent w.index w.host m at
  may = (next-exactly w m at).0 e

  room : is_fine (page_code (page_of (next_args m at).out.len (list_left w (next_args m at).handle))) ≡ true
  room = rw (page-is w x m at) at may.room

  answer-is : answer_of (step w (Next m at)).said ≡ page_bytes (page_of (next_args m at).out.len (list_left w (next_args m at).handle))
  unfolding step next_answer answer_by settle page_found
  answer-is =
      let c = settle-ok w.host (next_check w.lent w.index w.host m at) _ _ e in
      rw (c, check-before w.host (next_found w.lent w.index w.host m at) (next_look w.lent w.index w.host m at) c, page-is w x m at)

  module _ (k : ℕ) (is : (next_args m at).handle ≡ k) (whole out : List (List ℕ)) (f : FollowedIn w k whole out) where
    left_is : out ++ list_left w k ≡ whole
    unfolding next_list cursor_of
    left_is = go f.left
      where
        p : slot_place (has_handle k) w.host.weave.slots < length w.host.weave.slots
        p = rw is at (handle-there w.host.weave f.tidy (next_args m at).handle may.handle)

        go : Left w.lent.text w.host.weave.turn w.host.used w.lent.card w.host.weave.slots k whole out → out ++ list_left w k ≡ whole
        go (listing p' q) = q
        go (shut rest z q) = absurd (omega (arith, p, place_none (has_handle k) free_slot w.host.weave.slots z))

    ended : list_left w k ≡ [] → out ≡ whole
    ended z = sym (append-nil out) ∙ ap (λ (x : List (List ℕ)). out ++ x) (sym z) ∙ left_is

    over : out ≡ whole → list_left w k ≡ []
    over q = nothing (list_left w k) (omega (arith, ap length left_is, length-append out (list_left w k), ap length q))

    -- it answers 0 exactly when the whole list was out before it
    pub zero-exactly : (answer_of (step w (Next m at)).said ≡ 0) ↔ (out ≡ whole)
    zero-exactly = (
      λ z. ended (page-zero (next_args m at).out.len (list_left w k) (left-long w k) (rw is at room) (rw is at (sym answer-is ∙ z))),
      λ q. answer-is ∙ rw is (zero-page (next_args m at).out.len (list_left w k) (over q)),
    )

    -- and it hands over at least one record, unless the whole list was out
    pub some-given : (out ≡ whole → ⊥) → 1 ≤ length (given_by k w (Next m at))
    some-given n =
        rw (e, eq-eqb (next_args m at).handle k is, next-hands w m at x, is)
        (page-some (next_args m at).out.len (list_left w k) (rw is at room) (λ z. n (ended z)))

-- ---- from an open on

part_of : (text : List ℕ) (turn used : ℕ) (card : List ℕ) (slots : List Slot) (k : ℕ) (whole out : List (List ℕ)) → Left text turn used card slots k whole out → FirstPart out whole
part_of text turn used card slots k whole out (listing p q) = (_, q)
part_of text turn used card slots k whole out (shut rest z q) = (rest, q)

module _ (w : World) (t : TidyIn w) (x : Indexed w) (m : List ℕ) (at k : ℕ) (o : (step w (Open m at)).said ≡ Answered Fine k) where
  abbrev slots' : List Slot
  slots' = w.host.weave.slots

  abbrev place : ℕ
  place = slot_place (has_handle 0) slots'

  may-open : OpenMay w.lent w.host m at
  may-open = (open-exactly w m at).0 (ap is_refused o)

  opened-fine : is_clear (open_check w.lent w.host m at) ≡ true
  unfolding step open_answer
  opened-fine = settle-ok w.host (open_check w.lent w.host m at) _ _ (ap is_refused o)

  place-low : place < length slots'
  place-low = rw t.four (slot-free w.host.weave may-open.room)

  handle-sum : added w.host.weave.opened 1 65535 ≡ w.host.weave.opened + 1
  handle-sum = handle-new w.host.weave may-open.room

  -- "handle numbers 1, 2, 3 .. within the weave"
  pub handle-next : k ≡ w.host.weave.opened + 1
  unfolding step open_answer settle
  handle-next = sym (rw opened-fine at (ap answer_of o)) ∙ handle-sum

  -- the slot that is stored
  abbrev new : Slot
  new = opening m (open_args m at) (w.host.weave.opened + 1)

  new-handle : new.handle ≡ w.host.weave.opened + 1
  unfolding opening
  new-handle = refl

  new-place : slot_place (has_handle (w.host.weave.opened + 1)) (set slots' place new) ≡ place
  new-place =
      place-new (has_handle (w.host.weave.opened + 1)) free_slot slots' place new (t.none_above (w.host.weave.opened + 1) (omega arith))
      (own-handle (w.host.weave.opened + 1) new new-handle) place-low

  new-cursor : (slot_of (set slots' place new) (slot_place (has_handle (w.host.weave.opened + 1)) (set slots' place new))).cursor ≡ new.cursor
  unfolding slot_of
  new-cursor =
      ap (λ (s : Slot). s.cursor) (ap (λ (i : ℕ). get_or (set slots' place new) i free_slot) new-place ∙ got-stored slots' place new free_slot place-low)

  -- the cursor is followed from here on, and nothing of its list is out
  pub open-follows : FollowedIn (step w (Open m at)).world k (list_left (step w (Open m at)).world k) []
  unfolding step open_answer settle open_next opened_with with_weave paid tabled next_list cursor_of
  open-follows =
      rw (opened-fine, handle-sum, handle-next)
      (record {
        runs = may-open.gated.running;
        tidy = tidy-opened slots' w.host.weave.opened t place new new-handle;
        least = omega arith;
        most = omega arith;
        left = listing (rw (new-place, length-stored slots' place new) place-low) refl;
      })

  -- what it lists: every committed event that filter, window and grants allow, cut to the limit
  pub open-lists : list_left (step w (Open m at)).world k
      ≡ list_of (may_read w.lent.text w.host.weave.turn) (opening m (open_args m at) k).cursor (card_records w)
  unfolding step open_answer settle open_next opened_with with_weave paid tabled next_list cursor_of slot_of
  open-lists =
      rw (opened-fine, handle-sum, handle-next)
      (ap (λ (c : Cursor). list_of (may_read w.lent.text w.host.weave.turn) c (card_records w)) new-cursor)

  module _ (os : List Op) (i : All InTurn os) where
    abbrev w₁ : World
    w₁ = (step w (Open m at)).world

    indexed : Indexed w₁
    indexed = turn-indexed w (Open m at) tt x

    followed : FollowedIn (run w₁ os) k (list_left w₁ k) (handed_over k w₁ os)
    followed = follow-run os w₁ indexed k (list_left w₁ k) [] i open-follows

    -- THE PROMISE: "what one cursor hands over is a first part of one list"
    pub first_part : FirstPart (handed_over k w₁ os) (list_left w₁ k)
    first_part = part_of _ _ _ _ _ k (list_left w₁ k) (handed_over k w₁ os) followed.left

    -- "and a next that isn't refused answers 0 exactly when the whole list was out before it"
    pub end-exactly : (m' : List ℕ) (at' : ℕ) → (next_args m' at').handle ≡ k → is_refused (step (run w₁ os) (Next m' at')).said ≡ false
        → (answer_of (step (run w₁ os) (Next m' at')).said ≡ 0) ↔ (handed_over k w₁ os ≡ list_left w₁ k)
    end-exactly m' at' is e = zero-exactly (run w₁ os) (run-indexed os w₁ indexed i) m' at' e k is (list_left w₁ k) (handed_over k w₁ os) followed

-- ---- nothing of this holds because nothing happens: as many accepted nexts as there are events bring the whole list out

next-in-turn : (k : ℕ) (o : Op) → is_next_on k o ≡ true → InTurn o
next-in-turn k o e = rw (next-on k o e).is tt

next-gives : (w : World) → Indexed w → (k : ℕ) (whole out : List (List ℕ)) → FollowedIn w k whole out → (o : Op) → is_next_on k o ≡ true → is_refused (step w o).said ≡ false
    → (out ≡ whole → ⊥) → 1 ≤ length (given_by k w o)
next-gives w x k whole out f o i e n =
    let on = next-on k o i in
    rw on.is (some-given w x on.memory on.at (rw on.is at e) k on.handle whole out f n)

-- a first part that is as long is the whole
all-out : (whole out rest : List (List ℕ)) → out ++ rest ≡ whole → length whole ≤ length out → out ≡ whole
all-out whole out rest e h = sym (append-nil out) ∙ ap (λ (x : List (List ℕ)). out ++ x) (sym (nothing rest (omega (arith, ap length e, length-append out rest)))) ∙ e

drained-from : (os : List Op) (w : World) → Indexed w → (k : ℕ) (whole out : List (List ℕ)) → FollowedIn w k whole out → Nexts k w os → length whole ≤ length out + length os
    → length whole ≤ length (out ++ handed_over k w os)
drained-from [] w x k whole out f n h = rw (append-nil out) (omega arith)
drained-from (o ∷ os) w x k whole out f n h =
    go (tested (leb (length whole) (length out)))
    (λ h'. drained-from os (step w o).world (turn-indexed w o (next-in-turn k o n.0) x) k whole (out ++ given_by k w o) (follow-step w x k whole out f o (next-in-turn k o n.0)) n.1.1 h')
  where
    go : Tested (leb (length whole) (length out))
        → (length whole ≤ length (out ++ given_by k w o) + length os → length whole ≤ length ((out ++ given_by k w o) ++ handed_over k (step w o).world os))
        → length whole ≤ length (out ++ (given_by k w o ++ handed_over k (step w o).world os))
    go (passes e) ih = omega (arith, leb-true (length whole) (length out) e, length-append out (given_by k w o ++ handed_over k (step w o).world os))
    go (fails e) ih =
        let short = leb-false (length whole) (length out) e in
        let more = next-gives w x k whole out f o n.0 n.1.0 (λ q. omega (arith, short, ap length q)) in
        rw (← append_assoc out (given_by k w o) (handed_over k (step w o).world os)) (ih (omega (arith, h, more, length-append out (given_by k w o))))

nexts-in-turn : (os : List Op) (w : World) (k : ℕ) → Nexts k w os → All InTurn os
nexts-in-turn [] w k n = tt
nexts-in-turn (o ∷ os) w k n = (next-in-turn k o n.0, nexts-in-turn os (step w o).world k n.1.1)

-- THE PROMISE, drained: as many nexts that are not refused as the list has events, and the whole list is out
pub drained : (w : World) → TidyIn w → Indexed w → (m : List ℕ) (at k : ℕ) → (step w (Open m at)).said ≡ Answered Fine k → (os : List Op)
    → Nexts k (step w (Open m at)).world os → length (list_left (step w (Open m at)).world k) ≤ length os
    → handed_over k (step w (Open m at)).world os ≡ list_left (step w (Open m at)).world k
drained w t x m at k o os n h =
    let w₁ = (step w (Open m at)).world in
    let p = first_part w t x m at k o os (nexts-in-turn os w₁ k n) in
    all-out (list_left w₁ k) (handed_over k w₁ os) p.0 p.1 (drained-from os w₁ (turn-indexed w (Open m at) tt x) k (list_left w₁ k) [] (open-follows w t x m at k o) n (omega arith))
