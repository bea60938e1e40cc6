-- The laws that the reading asks for: the grant of a line, the loop of `read_grants` line by line, and a whole text by the tests that `read` makes.
-- Assumes nothing.
use mathlib.Core.Path.{◌≡◌, refl, sym, ap, ◌∙◌}
use mathlib.Core.Bool.{Bool, true, false, ◌&&◌, cond, and-false}
use mathlib.Core.List.{List, [], ◌∷◌}
use Prim.Native.Nat.{ℕ, suc, ◌+◌, ◌-◌, ◌≤◌, ◌<◌}
use native.Mathlib.Numerals.{add-one}
use native.Mathlib.Nat.{add-zero, zero-add}
use native.Mathlib.Omega.{arith}
use borrow.Author.Tests.{le-leb, lt-leb, lt-ltb, le-ltb}
use lib.Dec.{leb, eqb}
use lib.ListN.{length, set, drop, length-set}
use lib.Seq.{sets}
use Rattle.text.specs.Compare.{same_bytes}
use Rattle.text.specs.Lines.{lines, line_at, closed, field}
use Rattle.text.proofs.LinesLaws.{line-next, lines_end}
use Rattle.manifest.specs.declared.grant.Grant.{Grant}
use Rattle.manifest.specs.declared.charge.Charge.{Charge}
use Rattle.manifest.specs.declared.head.Head.{Head}
use Rattle.manifest.specs.declared.Manifest.{Manifest}
use Rattle.manifest.specs.Words.{out_word}
use Rattle.manifest.specs.Line.{modules_in, charge_in, holder_in}
use Rattle.manifest.specs.Charge.{charge_named}
use Rattle.manifest.specs.Head.{modules_of}
use Rattle.manifest.specs.Saying.{all_grants, good_grants, good_head}
use Rattle.manifest.specs.Places.{no_grants, grant_at, grants_at, refused, read_lines, passed, onward, read_rest, read_of}

-- ---- the grant of a line, by its third and fourth field

pub grant-is : (l way : List ℕ) → way ≡ field 2 l → (len : ℕ) → len ≡ length (field 3 l) → (modules end k : ℕ) → k ≡ holder_in modules l
    → (o : Bool) → o ≡ same_bytes way out_word → record { holder = k; out = o; start = end - len; len = len } ≡ grant_at modules end l
unfolding grant_at
grant-is l way ew len el modules end k ek o eo = rw (← ew, ← el, ← ek, ← eo)

-- ---- lines read behind i grants that the room has already. `all` is what the whole gives.

unfoldable pub read_behind : Head → ℕ → ℕ → List Grant → List (List ℕ) → Manifest
read_behind hd at i grants ls =
    cond (leb (i + length ls) 64 && all_grants hd.modules ls)
    (record { good = true; head = hd; count = i + length ls; grants = sets grants i (grants_at hd.modules at ls) })
    refused

-- behind none: the lines themselves
behind-none : (hd : Head) (at : ℕ) (ls : List (List ℕ)) → read_behind hd at 0 no_grants ls ≡ read_lines hd at ls
unfolding read_behind read_lines good_grants
behind-none hd at ls = rw (zero-add (length ls))

module _ (hd : Head) (at i : ℕ) (gs : List Grant) (all : Manifest) where
  read-end : i ≤ 64 → read_behind hd at i gs [] ≡ all → record { good = true; head = hd; count = i; grants = gs } ≡ all
  unfolding read_behind all_grants grants_at
  read-end h inv = rw (add-zero i, le-leb i 64 h) at inv

  module _ (l : List ℕ) (ls : List (List ℕ)) (inv : read_behind hd at i gs (l ∷ ls) ≡ all) where
    read-full : 64 ≤ i → refused ≡ all
    unfolding read_behind
    read-full h = rw (lt-leb (i + suc (length ls)) 64 (omega arith)) at inv

    read-bad : holder_in hd.modules l ≡ 0 → refused ≡ all
    unfolding read_behind all_grants
    read-bad z = rw (le-ltb 0 (holder_in hd.modules l) (omega arith), and-false (leb (i + suc (length ls)) 64)) at inv

    read-turn : (end : ℕ) → end ≡ at + length l → (holder_in hd.modules l ≡ 0 → ⊥)
        → read_behind hd (end + 1) (i + 1) (set gs i (grant_at hd.modules end l)) ls ≡ all
    unfolding read_behind all_grants grants_at
    read-turn end e z =
        let s : i + suc (length ls) ≡ i + 1 + length ls = omega arith in
        rw (e, add-one i) (rw (lt-ltb 0 (holder_in hd.modules l) (omega arith), s, add-one i) at inv)

-- ---- the loop: `count` grants are read, and the line that starts at `from` is next

pub record Reading (text : List ℕ) (hd : Head) (at from count : ℕ) (gs : List Grant) : Type 0 where
  pub past : at ≤ from
  pub few : count ≤ 64
  pub room : length gs ≡ 64
  pub same : read_behind hd from count gs (lines (drop from text)) ≡ read_lines hd at (lines (drop at text))

room-64 : (gs : List Grant) → gs ≡ no_grants → length gs ≡ 64
unfolding no_grants
room-64 gs e = rw e

pub reading-start : (text : List ℕ) (hd : Head) (at : ℕ) (gs : List Grant) → gs ≡ no_grants → Reading text hd at at 0 gs
reading-start text hd at gs e =
    record { past = omega arith; few = omega arith; room = room-64 gs e; same = rw e (behind-none hd at (lines (drop at text))) }

module _ (text : List ℕ) (hd : Head) (at from count : ℕ) (gs : List Grant) (w : Reading text hd at from count gs) where
  pub reading-done : length text ≤ from
      → record { good = true; head = hd; count = count; grants = gs } ≡ read_lines hd at (lines (drop at text))
  reading-done h = read-end hd from count gs _ w.few (rw (lines_end text from h) at w.same)

  module _ (h : from < length text) where
    pub reading-full : (r : Manifest) → 64 ≤ count → r ≡ refused → r ≡ read_lines hd at (lines (drop at text))
    reading-full r b q = q ∙ read-full hd from count gs _ _ _ (rw (line-next text from h) at w.same) b

    module _ (l : List ℕ) (el : l ≡ line_at from text) (g : Grant) (eg : g ≡ grant_at hd.modules (from + length l) l) where
      stepped : read_behind hd from count gs (l ∷ lines (drop (from + length l + 1) text)) ≡ read_lines hd at (lines (drop at text))
      stepped = rw el (rw (line-next text from h) at w.same)

      holder-is : g.holder ≡ holder_in hd.modules l
      unfolding grant_at
      holder-is = ap (λ (x : Grant). x.holder) eg

      pub reading-bad : (r : Manifest) → g.holder ≡ 0 → r ≡ refused → r ≡ read_lines hd at (lines (drop at text))
      reading-bad r z q = q ∙ read-bad hd from count gs _ _ _ stepped (sym holder-is ∙ z)

      pub reading-more : count < 64 → (g.holder ≡ 0 → ⊥) → Reading text hd at (from + length l + 1) (count + 1) (set gs count g)
      reading-more b z =
          record {
            past = omega (arith, w.past);
            few = omega arith;
            room = simp length-set w.room;
            same = rw eg (read-turn hd from count gs _ _ _ stepped (from + length l) refl (λ q. z (holder-is ∙ q)));
          }

-- ---- the lines behind line one, as `read_rest` takes them: the first says k, and the lines go on at f

pub passed-behind : (k at n : ℕ) → at ≤ passed k at n
unfolding passed
passed-behind k at n = go (eqb k 0)
  where
    go : (b : Bool) → at ≤ cond b at (at + n + 1)
    go true = omega arith
    go false = omega arith

pub rest-is : (text : List ℕ) (at k : ℕ) → k ≡ charge_in (line_at at text) → (f : ℕ) → f ≡ passed k at (length (line_at at text))
    → (c : Charge) → c ≡ charge_named k → (modules' : ℕ) (r : Manifest)
    → r ≡ read_lines (record { modules = modules'; charge = c }) f (lines (drop f text)) → r ≡ read_rest modules' at text
unfolding read_rest onward
rest-is text at k ek f ef c ec modules' r q = rw (← ek, ← ef, ← ec) q

-- ---- a whole text, by the tests that `read` makes: b says whether it is closed, line one is l and says m

module _ (text : List ℕ) (r : Manifest) where
  pub read-long : 65536 < length text → r ≡ refused → r ≡ read_of text
  unfolding read_of good_head
  read-long h e = rw (lt-leb (length text) 65536 h) e

  module _ (h : length text ≤ 65536) (b : Bool) (eb : b ≡ closed text) where
    pub read-open : b ≡ false → r ≡ refused → r ≡ read_of text
    unfolding read_of good_head
    read-open c e = rw (le-leb (length text) 65536 h, ← eb, c) e

    module _ (c : b ≡ true) (l : List ℕ) (el : l ≡ line_at 0 text) (m : ℕ) (em : m ≡ modules_in l) where
      modules-is : modules_of text ≡ m
      unfolding modules_of
      modules-is = rw (← el) (sym em)

      pub read-headless : m ≡ 0 → r ≡ refused → r ≡ read_of text
      unfolding read_of good_head
      read-headless z q = rw (le-leb (length text) 65536 h, ← eb, c, modules-is, le-ltb 0 m (omega arith)) q

      pub read_whole : (m ≡ 0 → ⊥) → r ≡ read_rest m (length l + 1) text → r ≡ read_of text
      unfolding read_of good_head
      read_whole z q = rw (le-leb (length text) 65536 h, ← eb, c, modules-is, lt-ltb 0 m (omega arith), ← el) q
