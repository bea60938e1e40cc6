-- A record that is handed over: all its fields read the same, and its payload with the pointer moved.
-- Assumes nothing.
use mathlib.Core.Path.{◌≡◌, refl, sym, ap, ◌∙◌}
use mathlib.Core.Bool.{Bool, true, false, cond}
use mathlib.Core.List.{List, [], ◌∷◌, ◌++◌}
use Prim.Native.Nat.{ℕ, zero, suc, ◌+◌, ◌≤◌, ◌<◌}
use native.Mathlib.Omega.{arith}
use native.Mathlib.Nat.{add_assoc, add-zero}
use lib.ListN.{length, take, drop, get_or}
use Rattle.le.specs.Le.{le_at, le_bytes}
use Rattle.le.specs.Splice.{part, splice}
use Rattle.le.proofs.LeLaws.{le_at-in-part, le_at-splice-before}
use Rattle.le.proofs.SpliceLaws.{take-splice, drop-splice, part-before, part_right, part-first, part-within}
use Rattle.le.proofs.TestLaws.{Tested, passes, fails, tested}
use Rattle.text.specs.Flags.{is_value}
use Rattle.text.proofs.SizeLaws.{up8-above}
use Rattle.value.specs.Shown.{pointed, shown_at}
use Rattle.value.proofs.ShownLaws.{shown_value, length-shown_at, shown-moved, shown-plain}
use Rattle.record.specs.Record.{flags_of, topic_len_of, data_len_of, topic_of, payload_at, payload_of}
use Rattle.record.specs.Shown.{shown, shown_from, Framed}
use Rattle.record.proofs.ShownLaws.{length-shown}
use Rattle.card.specs.Pick.{All}
use Rattle.card.specs.Records.{size}
use Rattle.card.proofs.PageLaws.{length-shown_from}
use Rattle.promises.specs.ReadBack.{HandedAs, HasPage}

-- a part of bytes that were laid over from k of it on
part-spliced : (a n : ℕ) (s : List ℕ) (k : ℕ) (ys : List ℕ) → part a n (splice s (a + k) ys) ≡ splice (part a n s) k ys
unfolding part
part-spliced a n s k ys = ap (take n) (drop-splice a s k ys) ∙ take-splice n (drop a s) k ys

-- ---- one record

module _ (a : ℕ) (r : List ℕ) (f : Framed r) where
  abbrev P : ℕ
  P = payload_at (topic_len_of r)

  behind-topic : 128 + topic_len_of r ≤ P
  behind-topic = omega (arith, up8-above (topic_len_of r))

  -- a number before the payload
  module _ (v : is_value (flags_of r) ≡ true) where
    abbrev S : List ℕ
    S = shown_at (a + P) P r

    number_same : (w k : ℕ) → k + w ≤ P + 8 → le_at w S k ≡ le_at w r k
    number_same w k h = go (tested (pointed (le_at 4 r P)))
      where
        go : Tested (pointed (le_at 4 r P)) → le_at w S k ≡ le_at w r k
        go (passes e) = ap (λ (s : List ℕ). le_at w s k) (shown-moved (a + P) P r e) ∙ le_at-splice-before w r (P + 8) (le_bytes 8 (a + P + 32)) k h
        go (fails e) = ap (λ (s : List ℕ). le_at w s k) (shown-plain (a + P) P r e)

    part_same : (k n : ℕ) → k + n ≤ P + 8 → part k n S ≡ part k n r
    part_same k n h = go (tested (pointed (le_at 4 r P)))
      where
        go : Tested (pointed (le_at 4 r P)) → part k n S ≡ part k n r
        go (passes e) = ap (part k n) (shown-moved (a + P) P r e) ∙ part-before k n r (P + 8) (le_bytes 8 (a + P + 32)) h
        go (fails e) = ap (part k n) (shown-plain (a + P) P r e)

    -- its type, read in its payload
    kind-same : le_at 4 (part P (data_len_of r) r) 0 ≡ le_at 4 r P
    kind-same = le_at-in-part 4 r P (data_len_of r) 0 (omega (arith, f.value v)) ∙ ap (le_at 4 r) (add-zero P)

    -- its payload, as if it stood alone
    payload-moved : part P (data_len_of r) S ≡ shown_value (a + P) (part P (data_len_of r) r)
    payload-moved = go (tested (pointed (le_at 4 r P)))
      where
        go : Tested (pointed (le_at 4 r P)) → part P (data_len_of r) S ≡ shown_value (a + P) (part P (data_len_of r) r)
        go (passes e) =
            ap (part P (data_len_of r)) (shown-moved (a + P) P r e)
            ∙ part-spliced P (data_len_of r) r 8 (le_bytes 8 (a + P + 32))
            ∙ sym (shown-moved (a + P) 0 (part P (data_len_of r) r) (ap pointed kind-same ∙ e))
        go (fails e) =
            ap (part P (data_len_of r)) (shown-plain (a + P) P r e) ∙ sym (shown-plain (a + P) 0 (part P (data_len_of r) r) (ap pointed kind-same ∙ e))

  pub handed-as : HandedAs a r (shown a r)
  unfolding shown shown_at topic_of payload_of
  handed-as = go (is_value (flags_of r)) refl
    where
      go : (v : Bool) → is_value (flags_of r) ≡ v → HandedAs a r (cond v (shown_at (a + P) P r) r)
      go true v = record {
        bytes = rw (v, kind-same v);
        long = length-shown_at (a + P) P r;
        id = number_same v 8 8 (omega arith);
        time = number_same v 8 16 (omega arith);
        flags = number_same v 4 4 (omega arith);
        agent = number_same v 8 32 (omega arith);
        topic = rw (number_same v 4 80 (omega arith)) (part_same v 128 (topic_len_of r) (omega (arith, behind-topic)));
        payload = rw (number_same v 4 80 (omega arith), number_same v 4 84 (omega arith), v) (payload-moved v);
      }
      go false v = record { bytes = rw v; long = refl; id = refl; time = refl; flags = refl; agent = refl; topic = refl; payload = rw v }

-- ---- a page of them

-- the bytes of record i of a page
shown-stands : (rs : List (List ℕ)) (a i : ℕ) → i < length rs
    → part (size (take i rs)) (length (get_or rs i [])) (shown_from a rs) ≡ shown (a + size (take i rs)) (get_or rs i [])
unfolding shown_from
shown-stands [] a i h = absurd (omega arith)
shown-stands (r ∷ rs) a zero h =
    ap (λ (n : ℕ). part 0 n (shown a r ++ shown_from (a + length r) rs)) (sym (length-shown a r))
    ∙ part-first (shown a r) (shown_from (a + length r) rs)
    ∙ ap (λ (k : ℕ). shown k r) (sym (add-zero a))
shown-stands (r ∷ rs) a (suc i) h =
    ap (λ (n : ℕ). part (n + size (take i rs)) (length (get_or rs i [])) (shown a r ++ shown_from (a + length r) rs)) (sym (length-shown a r))
    ∙ part_right (size (take i rs)) (length (get_or rs i [])) (shown a r) (shown_from (a + length r) rs)
    ∙ shown-stands rs (a + length r) i (omega arith)
    ∙ ap (λ (k : ℕ). shown k (get_or rs i [])) (add_assoc a (length r) (size (take i rs)))

record-within : (rs : List (List ℕ)) (i : ℕ) → i < length rs → size (take i rs) + length (get_or rs i []) ≤ size rs
record-within [] i h = absurd (omega arith)
record-within (r ∷ rs) zero h = omega arith
record-within (r ∷ rs) (suc i) h = omega (arith, record-within rs i (omega arith))

all-at : (P : List ℕ → Type 0) (rs : List (List ℕ)) (i : ℕ) → All P rs → i < length rs → P (get_or rs i [])
all-at P [] i a h = absurd (omega arith)
all-at P (r ∷ rs) zero a h = a.0
all-at P (r ∷ rs) (suc i) a h = all-at P rs i a.1 (omega arith)

-- a page that was laid into memory stands there
pub has-page : (m : List ℕ) (at : ℕ) (rs : List (List ℕ)) → All Framed rs → at + size rs ≤ length m → HasPage (splice m at (shown_from at rs)) at rs
has-page m at rs fs room = record {
  each = λ i h.
      rw (part-within m at (shown_from at rs) (size (take i rs)) (length (get_or rs i []))
      (rw (length-shown_from at rs) (record-within rs i h)) (rw (length-shown_from at rs) room) ∙ shown-stands rs at i h)
      (handed-as (at + size (take i rs)) (get_or rs i []) (all-at Framed rs i fs h));
}
