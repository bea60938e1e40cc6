-- An accepted write or ingress stages exactly 01's record: it has room, it is good, and it carries the staged chain on.
-- Assumes nothing.
use mathlib.Core.Path.{◌≡◌, refl, sym, ap, subst, ◌∙◌}
use mathlib.Core.Bool.{Bool, true, false, not, cond}
use mathlib.Core.List.{List}
use Prim.Native.Nat.{ℕ, ◌+◌, ◌/◌, ◌^◌, ◌≤◌, ◌<◌}
use native.Mathlib.Omega.{arith}
use borrow.Author.Tests.{leb-true, le-leb, ne_eqb}
use lib.Dec.{leb, eqb}
use lib.ListN.{length}
use Rattle.le.specs.Splice.{part}
use Rattle.le.specs.Le.{Bytes}
use Rattle.le.proofs.TestLaws.{and_left, and_right, and_both}
use Rattle.le.proofs.SpliceLaws.{length_part}
use Rattle.text.specs.Topic.{card_topic}
use Rattle.text.specs.Span.{inside}
use Rattle.text.specs.Flags.{good_flags, is_value}
use Rattle.text.specs.Sizes.{total_len}
use Rattle.text.proofs.SpanLaws.{inside-end}
use Rattle.text.proofs.FlagLaws.{flags-most}
use Rattle.text.proofs.TopicLaws.{called-kept}
use Rattle.value.specs.Forms.{payload}
use Rattle.record.specs.Record.{record_bytes}
use Rattle.record.specs.Good.{good_kind, good_name, good_payload, good_record}
use Rattle.record.specs.Written.{Written}
use Rattle.record.proofs.GoodLaws.{length-record, record-good}
use Rattle.record.proofs.WrittenLaws.{raw-payload, value-payload, written as written-law}
use Rattle.weave.specs.Args.{write_args, topic_fine}
use Rattle.weave.proofs.SumLaws.{added-sum}
use Rattle.takes.specs.Payloads.{payload_bytes}
use Rattle.takes.proofs.PayloadLaws.{payload-long, value-fine}
use Rattle.host.specs.declared.Host.{Host}
use Rattle.host.specs.Hosts.{Lent}
use Rattle.writes.specs.Stage.{room_fine, header_for, written_topic, data_len, is_panic}
use Rattle.writes.proofs.StageLaws.{room_fits, room-counted}
use Rattle.promises.specs.Accepted.{Lawful, IngressMay, WriteMay}
use Rattle.promises.proofs.AcceptedLaws.{lawful, turn-16}

-- a record r of n bytes that may be staged: it fits behind what is staged, it is good with the next number, and the counts go up by one and by n
pub record Stageable (l : Lent) (h : Host) (r : List ℕ) (n : ℕ) : Type 0 where
  pub long : length r ≡ n
  pub room : h.weave.staged + n ≤ length l.staging
  pub number : h.next.0 + h.weave.count < 2 ^ 63
  pub good : good_record r (h.next.0 + h.weave.count) ≡ true

room-number : (h : Host) (t d n : ℕ) → room_fine h t d n ≡ true → h.next.0 + h.weave.count < 2 ^ 63
unfolding room_fine
room-number h t d n e =
    omega (arith, leb-true (h.next.0 + h.weave.count) 9223372036854775807 (and_right (leb (total_len t d / 8) 536870911) _ (and_right (leb (h.weave.staged + total_len t d) n) _ e)))

-- the record of a good kind, name and payload, where there is room
module _ (l : Lent) (h : Host) (flags agent : ℕ) (topic take' : List ℕ) (traced : length h.weave.trace ≡ 32)
    (room : room_fine h (length topic) (length take') (length l.staging) ≡ true)
    (kind : good_kind flags agent ≡ true) (name : good_name agent topic ≡ true) (stored : good_payload flags take' ≡ true) where
  id-is : (header_for h flags agent).id.0 ≡ h.next.0 + h.weave.count
  unfolding header_for
  id-is = added-sum h.next.0 h.weave.count (2 ^ 63) (omega (arith, room-number h _ _ _ room))

  pub stageable : Stageable l h (record_bytes (header_for h flags agent) h.weave.trace topic take') (total_len (length topic) (length take'))
  unfolding header_for
  stageable = record {
    long = length-record (header_for h flags agent) h.weave.trace topic take' traced (room-counted h _ _ _ room);
    room = room_fits h _ _ _ room;
    number = room-number h _ _ _ room;
    good =
        rw (← id-is)
        (record-good (header_for h flags agent) h.weave.trace topic take' traced (room-counted h _ _ _ room)
        (omega (arith, id-is, room-number h _ _ _ room)) kind name stored);
  }

  -- all that is read back of it. (A virtual time is a number of 64 bits.)
  pub stored_back : h.weave.time.0 < 256 ^ 8
      → Written (header_for h flags agent) h.weave.trace topic take' (record_bytes (header_for h flags agent) h.weave.trace topic take')
  unfolding header_for good_kind
  stored_back t =
      let f : flags ≤ 10 = flags-most flags (and_left (good_flags flags) _ kind) in
      let a : agent ≤ 16 = leb-true agent 16 (and_left (leb agent 16) _ (and_right (good_flags flags) _ kind)) in
      written-law (header_for h flags agent) h.weave.trace topic take' traced (room-counted h _ _ _ room) (omega arith) (omega (arith, id-is, room-number h _ _ _ room)) t (omega arith)

-- ---- ingress: raw, agent 0, any good topic

ingress-kind : good_kind 1 0 ≡ true
unfolding good_kind good_flags
ingress-kind = cc

module _ (l : Lent) (h : Host) (topic take' : List ℕ) (traced : length h.weave.trace ≡ 32) (may : IngressMay l h topic take') where
  ingress-name : good_name 0 topic ≡ true
  unfolding good_name
  ingress-name = and_both (card_topic topic) _ (called-kept 1 2048 topic may.topic-good) refl

  pub ingress-staged : Stageable l h (record_bytes (header_for h 1 0) h.weave.trace topic take') (total_len (length topic) (length take'))
  ingress-staged = stageable l h 1 0 topic take' traced may.room ingress-kind ingress-name (raw-payload 1 take' cc)

  pub ingress-back : h.weave.time.0 < 256 ^ 8 → Written (header_for h 1 0) h.weave.trace topic take' (record_bytes (header_for h 1 0) h.weave.trace topic take')
  ingress-back t = stored_back l h 1 0 topic take' traced may.room ingress-kind ingress-name (raw-payload 1 take' cc) t

-- ---- write, but for a panic

not-zero : (n : ℕ) → 1 ≤ n → not (eqb n 0) ≡ true
not-zero n h = rw (ne_eqb n 0 (λ e. omega arith))

module _ (charge : ℕ → ℕ) (l : Lent) (h : Host) (m : List ℕ) (a : ℕ) (traced : length h.weave.trace ≡ 32) (bytes : Bytes m) (may : WriteMay charge l h m a) (calm : is_panic m a ≡ false) where
  law : Lawful l h
  law = lawful l h may.gated.check-1

  least : 1 ≤ h.weave.turn
  least = law.turn-least may.gated.running

  kind : good_kind (write_args m a).flags h.weave.turn ≡ true
  unfolding good_kind
  kind =
      and_both (good_flags (write_args m a).flags) _ may.flags
      (and_both (leb h.weave.turn 16) _ (le-leb h.weave.turn 16 (turn-16 l h law may.gated.running)) (rw (not-zero h.weave.turn least)))

  span : inside (write_args m a).topic.ptr (write_args m a).topic.len (length m) ≡ true
  unfolding topic_fine
  span = and_left (inside (write_args m a).topic.ptr (write_args m a).topic.len (length m)) _ may.topic

  topic-long : length (written_topic m a) ≡ (write_args m a).topic.len
  topic-long = length_part (write_args m a).topic.ptr (write_args m a).topic.len m (inside-end (write_args m a).topic.ptr (write_args m a).topic.len (length m) span)

  name : good_name h.weave.turn (written_topic m a) ≡ true
  unfolding good_name topic_fine
  name =
      and_both (card_topic (written_topic m a)) _
      (called-kept 1 2048 (written_topic m a) (and_right (inside (write_args m a).topic.ptr (write_args m a).topic.len (length m)) _ may.topic))
      (rw (ne_eqb h.weave.turn 0 (λ e. omega (arith, least)), calm))

  stored : good_payload (write_args m a).flags (payload_bytes m (write_args m a)) ≡ true
  unfolding payload_bytes
  stored = go (is_value (write_args m a).flags) refl
    where
      go : (v : Bool) → is_value (write_args m a).flags ≡ v
          → good_payload (write_args m a).flags (cond v (payload m (write_args m a).place) (part (write_args m a).place (write_args m a).len m)) ≡ true
      go true e = value-payload (write_args m a).flags m (write_args m a).place bytes (value-fine m (write_args m a) may.value e)
      go false e = raw-payload (write_args m a).flags (part (write_args m a).place (write_args m a).len m) e

  data_is : data_len m a ≡ length (payload_bytes m (write_args m a))
  data_is = payload-long m (write_args m a) may.payload

  room : room_fine h (length (written_topic m a)) (length (payload_bytes m (write_args m a))) (length l.staging) ≡ true
  room = rw (topic-long, ← data_is) (may.room calm)

  pub write-staged : Stageable l h (record_bytes (header_for h (write_args m a).flags h.weave.turn) h.weave.trace (written_topic m a) (payload_bytes m (write_args m a)))
      (total_len (write_args m a).topic.len (data_len m a))
  write-staged =
      subst (λ (n : ℕ). Stageable l h (record_bytes (header_for h (write_args m a).flags h.weave.turn) h.weave.trace (written_topic m a) (payload_bytes m (write_args m a))) n)
      (ap (λ (t : ℕ). total_len t (length (payload_bytes m (write_args m a)))) topic-long ∙ ap (total_len (write_args m a).topic.len) (sym data_is))
      (stageable l h (write_args m a).flags h.weave.turn (written_topic m a) (payload_bytes m (write_args m a)) traced room kind name stored)

  pub write-back : h.weave.time.0 < 256 ^ 8
      → Written (header_for h (write_args m a).flags h.weave.turn) h.weave.trace (written_topic m a) (payload_bytes m (write_args m a))
      (record_bytes (header_for h (write_args m a).flags h.weave.turn) h.weave.trace (written_topic m a) (payload_bytes m (write_args m a)))
  write-back t =
      stored_back l h (write_args m a).flags h.weave.turn (written_topic m a) (payload_bytes m (write_args m a)) traced room kind name stored t
