-- One cursor through a turn: what is known of it, and what each kind of change to the table leaves of that.
-- Assumes nothing.
use mathlib.Core.Path.{◌≡◌, refl, sym, ap, ◌∙◌}
use mathlib.Core.Bool.{Bool, true, false}
use mathlib.Core.List.{List, [], ◌∷◌, ◌++◌, append_assoc}
use Prim.Native.Nat.{ℕ, ◌+◌, ◌≤◌, ◌<◌}
use native.Mathlib.Omega.{arith}
use borrow.Author.Tests.{eq-eqb, ne_eqb, eqb-true}
use lib.ListN.{length, take, get_or, set}
use Rattle.le.proofs.TestLaws.{Tested, passes, fails, tested}
use Rattle.manifest.specs.Saying.{may_read}
use Rattle.card.specs.declared.Cursor.{Cursor}
use Rattle.card.specs.Pick.{only}
use Rattle.card.specs.Records.{records}
use Rattle.card.specs.Listing.{list_of, fit, advance}
use Rattle.card.proofs.RecordsLaws.{records-rise}
use Rattle.card.proofs.ListingLaws.{fit-first, fit-lists}
use Rattle.weave.specs.declared.Slot.{Slot}
use Rattle.weave.specs.Table.{free_slot, no_slots, has_handle, slot_place, slot_of}
use Rattle.promises.specs.Turn.{Tidy}
use Rattle.promises.proofs.SlotLaws.{many-alike, stored-fewer, stored_same, stored_more, place_none, place-passes, place_kept, got_kept, stored-gone, place_same, got-stored, length-stored}

-- ---- handles

-- the slot of another handle
pub other-handle : (k : ℕ) (s : Slot) → (s.handle ≡ k → ⊥) → has_handle k s ≡ false
unfolding has_handle
other-handle k s n = ne_eqb s.handle k n

pub own-handle : (k : ℕ) (s : Slot) → s.handle ≡ k → has_handle k s ≡ true
unfolding has_handle
own-handle k s e = eq-eqb s.handle k e

pub handle-is : (k : ℕ) (s : Slot) → has_handle k s ≡ true → s.handle ≡ k
unfolding has_handle
handle-is k s e = eqb-true s.handle k e

pub free-handle : (k : ℕ) → 1 ≤ k → has_handle k free_slot ≡ false
unfolding free_slot
free-handle k h = other-handle k free_slot (λ e. omega arith)

-- ---- a tidy table stays tidy

pub tidy-none : (n : ℕ) → Tidy no_slots n
unfolding no_slots
tidy-none n = record { four = refl; once = λ k h. rw (none k h) (omega arith); none_above = λ k h. none k (omega arith) }
  where
    none : (k : ℕ) → 1 ≤ k → length (only (has_handle k) no_slots) ≡ 0
    none k h = many-alike (has_handle k) free_slot 4 free_slot (free-handle k h)

module _ (slots : List Slot) (opened : ℕ) (t : Tidy slots opened) where
  long : (i : ℕ) (s : Slot) → length (set slots i s) ≡ 4
  long i s = length-stored slots i s ∙ t.four

  -- a cursor is closed
  pub tidy-free : (i : ℕ) → Tidy (set slots i free_slot) opened
  tidy-free i = record {
    four = long i free_slot;
    once = λ k h. omega (arith, stored-fewer (has_handle k) free_slot slots i free_slot (free-handle k h), t.once k h);
    none_above = λ k h. omega (arith, stored-fewer (has_handle k) free_slot slots i free_slot (free-handle k (omega arith)), t.none_above k h);
  }

  -- a cursor moves: the slot with its handle is stored anew
  pub tidy-moved : (j : ℕ) (s : Slot) → s.handle ≡ j → slot_place (has_handle j) slots < length slots → Tidy (set slots (slot_place (has_handle j) slots) s) opened
  tidy-moved j s e p = record {
    four = long (slot_place (has_handle j) slots) s;
    once = λ k h. omega (arith, fewer k, t.once k h);
    none_above = λ k h. omega (arith, fewer k, t.none_above k h);
  }
    where
      fewer : (k : ℕ) → length (only (has_handle k) (set slots (slot_place (has_handle j) slots) s)) ≤ length (only (has_handle k) slots)
      fewer k = go (tested (has_handle k s))
        where
          go : Tested (has_handle k s) → length (only (has_handle k) (set slots (slot_place (has_handle j) slots) s)) ≤ length (only (has_handle k) slots)
          go (fails q) = stored-fewer (has_handle k) free_slot slots (slot_place (has_handle j) slots) s q
          go (passes q) =
              stored_same (has_handle k) free_slot slots (slot_place (has_handle j) slots) s p
              (rw (sym (handle-is k s q) ∙ e) (place-passes (has_handle j) free_slot slots p))

  -- a cursor is opened, with a handle that is new
  pub tidy-opened : (i : ℕ) (s : Slot) → s.handle ≡ opened + 1 → Tidy (set slots i s) (opened + 1)
  tidy-opened i s e = record {
    four = long i s;
    once = λ k h. go k h (tested (has_handle k s));
    none_above = λ k h. omega (arith, stored-fewer (has_handle k) free_slot slots i s (other-handle k s (λ q. omega arith)), t.none_above k (omega arith));
  }
    where
      go : (k : ℕ) → 1 ≤ k → Tested (has_handle k s) → length (only (has_handle k) (set slots i s)) ≤ 1
      go k h (fails q) = omega (arith, stored-fewer (has_handle k) free_slot slots i s q, t.once k h)
      go k h (passes q) = omega (arith, stored_more (has_handle k) free_slot slots i s, t.none_above k (omega (arith, handle-is k s q)))

-- ---- one cursor through a turn

-- what a cursor lists: the handle's cursor, over what is on the card, as far as the module may read it
abbrev pub list_at : List ℕ → ℕ → ℕ → List ℕ → List Slot → ℕ → List (List ℕ)
list_at text turn used card slots k =
    list_of (may_read text turn) (slot_of slots (slot_place (has_handle k) slots)).cursor (records (take used card) 1)

-- of its list `whole`, `out` is out: either it is open and lists the rest, or it is closed for good
pub data Left (text : List ℕ) (turn used : ℕ) (card : List ℕ) (slots : List Slot) (k : ℕ) (whole out : List (List ℕ)) : Type 0 where
  listing : slot_place (has_handle k) slots < length slots → out ++ list_at text turn used card slots k ≡ whole → Left text turn used card slots k whole out
  shut : (rest : List (List ℕ)) → length (only (has_handle k) slots) ≡ 0 → out ++ rest ≡ whole → Left text turn used card slots k whole out

pub record Followed (running : Bool) (text : List ℕ) (turn used : ℕ) (card : List ℕ) (slots : List Slot) (opened k : ℕ) (whole out : List (List ℕ)) : Type 0 where
  pub runs : running ≡ true
  pub tidy : Tidy slots opened
  pub least : 1 ≤ k
  pub most : k ≤ opened
  pub left : Left text turn used card slots k whole out

pub append-nil : (l : List (List ℕ)) → l ++ [] ≡ l
append-nil [] = refl
append-nil (x ∷ l) = ap (λ (z : List (List ℕ)). x ∷ z) (append-nil l)

module _ (running : Bool) (text : List ℕ) (turn used : ℕ) (card : List ℕ) (slots : List Slot) (opened k : ℕ) (whole out : List (List ℕ))
    (f : Followed running text turn used card slots opened k whole out) where
  -- nothing of it comes out
  pub follow-still : Followed running text turn used card slots opened k whole (out ++ [])
  follow-still = rw (append-nil out) f

  -- another slot is stored, of another handle
  module _ (i : ℕ) (s : Slot) (opened' : ℕ) (n : has_handle k s ≡ false) (o : i < length slots → has_handle k (get_or slots i free_slot) ≡ false)
      (t : Tidy (set slots i s) opened') (m : k ≤ opened') where
    left_other : Left text turn used card slots k whole out → Left text turn used card (set slots i s) k whole out
    unfolding slot_of
    left_other (listing p e) =
        listing (rw (place_kept (has_handle k) free_slot s n slots i o, length-stored slots i s) p)
        (rw (place_kept (has_handle k) free_slot s n slots i o, got_kept (has_handle k) free_slot s n slots i o) e)
    left_other (shut rest z e) = shut rest (omega (arith, stored-fewer (has_handle k) free_slot slots i s n)) e

    pub follow-other : Followed running text turn used card (set slots i s) opened' k whole out
    follow-other = record { runs = f.runs; tidy = t; least = f.least; most = m; left = left_other f.left }

  -- it hands over a page, and its cursor moves past just that
  pub follow-own : (cap : ℕ) → slot_place (has_handle k) slots < length slots
      → Followed running text turn used card
      (set slots (slot_place (has_handle k) slots) (record { handle = k; cursor = advance (slot_of slots (slot_place (has_handle k) slots)).cursor (fit cap (list_at text turn used card slots k)) }))
      opened k whole (out ++ fit cap (list_at text turn used card slots k))
  unfolding slot_of
  follow-own cap p = record {
    runs = f.runs;
    tidy = tidy-moved slots opened f.tidy k moved refl p;
    least = f.least;
    most = f.most;
    left = go f.left;
  }
    where
      c : Cursor
      c = (get_or slots (slot_place (has_handle k) slots) free_slot).cursor

      page : List (List ℕ)
      page = fit cap (list_at text turn used card slots k)

      moved : Slot
      moved = record { handle = k; cursor = advance c page }

      go : Left text turn used card slots k whole out → Left text turn used card (set slots (slot_place (has_handle k) slots) moved) k whole (out ++ page)
      go (listing p' e) =
          listing (rw (place_same (has_handle k) free_slot moved (own-handle k moved refl) slots p, length-stored slots (slot_place (has_handle k) slots) moved) p)
          (rw (place_same (has_handle k) free_slot moved (own-handle k moved refl) slots p, got-stored slots (slot_place (has_handle k) slots) moved free_slot p, append_assoc)
          (ap (λ (z : List (List ℕ)). out ++ (page ++ z)) (fit-lists (may_read text turn) c (records (take used card) 1) cap (records-rise (take used card) 1))
          ∙ ap (λ (z : List (List ℕ)). out ++ z) (sym (fit-first cap (list_at text turn used card slots k))) ∙ e))
      go (shut rest z e) = absurd (omega (arith, place_none (has_handle k) free_slot slots z))

  -- it is closed
  pub follow-shut : slot_place (has_handle k) slots < length slots → Followed running text turn used card (set slots (slot_place (has_handle k) slots) free_slot) opened k whole out
  follow-shut p = record {
    runs = f.runs;
    tidy = tidy-free slots opened f.tidy (slot_place (has_handle k) slots);
    least = f.least;
    most = f.most;
    left = go f.left;
  }
    where
      none : length (only (has_handle k) (set slots (slot_place (has_handle k) slots) free_slot)) ≡ 0
      none = omega (arith, stored-gone (has_handle k) free_slot free_slot (free-handle k f.least) slots p, f.tidy.once k f.least)

      go : Left text turn used card slots k whole out → Left text turn used card (set slots (slot_place (has_handle k) slots) free_slot) k whole out
      go (listing p' e) = shut (list_at text turn used card slots k) none e
      go (shut rest z e) = shut rest none e
