-- The list of a cursor, in 01's words: what is in it, what is not, and how long it is.
-- Assumes nothing.
use mathlib.Core.Path.{◌≡◌, refl}
use mathlib.Core.Bool.{Bool, true, false}
use mathlib.Core.List.{List, Memᴰ}
use Prim.Native.Nat.{ℕ, ◌≤◌}
use native.Mathlib.Omega.{arith}
use native.Mathlib.Nat.{min-le_left}
use borrow.Author.Tests.{leb-true, ltb-true, le-leb, lt-ltb}
use lib.Dec.{leb}
use lib.ListN.{length, length-take}
use Rattle.le.proofs.TestLaws.{and_left, and_right, and_both}
use Rattle.text.specs.Compare.{prefix_of}
use Rattle.record.specs.Record.{id_of, topic_of}
use Rattle.card.specs.Pick.{All, only}
use Rattle.card.specs.Listing.{filter_of, listed, in_order, list_of, Before}
use Rattle.card.specs.declared.Cursor.{Cursor}
use Rattle.card.proofs.RecordsLaws.{Rising}
use Rattle.card.proofs.ListingLaws.{listed-all, listed-every, sorted-order}
use Rattle.card.proofs.PickLaws.{members, all_map, all-only, all-reverse, mem-only, mem-reverse, only-passes, sorted-only}
use Rattle.promises.specs.Turn.{Allowed, ListedOf}

module _ (may : List ℕ → Bool) (c : Cursor) where
  pub listed-means : (r : List ℕ) → listed may c r ≡ true → Allowed may c r
  listed-means r e =
      let asks = and_right (may (topic_of r)) _ e in
      let window = and_right (prefix_of (filter_of c) (topic_of r)) _ asks in
      record {
        granted = and_left (may (topic_of r)) _ e;
        begins = and_left (prefix_of (filter_of c) (topic_of r)) _ asks;
        from = leb-true c.from.0 (id_of r) (and_left (leb c.from.0 (id_of r)) _ window);
        to = ltb-true (id_of r) c.to.0 (and_right (leb c.from.0 (id_of r)) _ window);
      }

  pub means-listed : (r : List ℕ) → Allowed may c r → listed may c r ≡ true
  means-listed r a =
      and_both (may (topic_of r)) _ a.granted
      (and_both (prefix_of (filter_of c) (topic_of r)) _ a.begins
      (and_both (leb c.from.0 (id_of r)) _ (le-leb c.from.0 (id_of r) a.from) (lt-ltb (id_of r) c.to.0 a.to)))

  -- every event of the list is allowed
  pub all-allowed : (rs : List (List ℕ)) → All (Allowed may c) (list_of may c rs)
  all-allowed rs = all_map (λ (r : List ℕ). listed may c r ≡ true) (Allowed may c) listed-means (list_of may c rs) (listed-all may c rs)

  -- every event that is allowed is in the list, where the limit does not cut it
  pub every-allowed : (rs : List (List ℕ)) (r : List ℕ) → Memᴰ r rs → Allowed may c r → length (only (listed may c) (in_order c.desc rs)) ≤ c.limit
      → Memᴰ r (list_of may c rs)
  every-allowed rs r m a h = listed-every may c rs r m (means-listed r a) h

  -- "The limit counts from the list's head; 0 means no event"
  pub within-limit : (rs : List (List ℕ)) → length (list_of may c rs) ≤ c.limit
  unfolding list_of
  within-limit rs = omega (arith, length-take c.limit (only (listed may c) (in_order c.desc rs)), min-le_left c.limit (length (only (listed may c) (in_order c.desc rs))))

-- ---- all that are allowed, and the limit

ordered-all : (P : List ℕ → Type 0) (d : Bool) (rs : List (List ℕ)) → All P rs → All P (in_order d rs)
unfolding in_order
ordered-all P false rs a = a
ordered-all P true rs a = all-reverse P rs a

ordered-mem : (r : List ℕ) (d : Bool) (rs : List (List ℕ)) → Memᴰ r rs → Memᴰ r (in_order d rs)
unfolding in_order
ordered-mem r false rs m = m
ordered-mem r true rs m = mem-reverse r rs m

pub all_listed : (may : List ℕ → Bool) (c : Cursor) (rs : List (List ℕ)) → Rising rs → ListedOf may c rs (only (listed may c) (in_order c.desc rs))
unfolding list_of
all_listed may c rs up = record {
  every = λ r m a. mem-only (listed may c) r (in_order c.desc rs) (means-listed may c r a) (ordered-mem r c.desc rs m);
  of-these = all-only (λ (r : List ℕ). Memᴰ r rs) (listed may c) (in_order c.desc rs) (ordered-all (λ (r : List ℕ). Memᴰ r rs) c.desc rs (members rs));
  none-besides = all_map (λ (r : List ℕ). listed may c r ≡ true) (Allowed may c) (listed-means may c) (only (listed may c) (in_order c.desc rs)) (only-passes (listed may c) (in_order c.desc rs));
  in_order = sorted-only (Before c.desc) (listed may c) (in_order c.desc rs) (sorted-order c.desc rs up);
  head = refl;
}
