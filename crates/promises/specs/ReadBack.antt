-- Promise 2: "What is written reads back as the same topic and the payload as 01 stores it, its pointer moved."
-- Assumes nothing.
use Rattle.std.specs.Prelude.{◌≡◌, Bool, ◌&&◌, ◌||◌, cond, ℕ, ◌+◌, ◌≤◌, ◌<◌, eqb, length, take, get_or}
use mathlib.Core.List.{List, [], Memᴰ}
use Rattle.le.specs.Le.{le_at, le_bytes}
use Rattle.le.specs.Splice.{part, splice}
use Rattle.text.specs.Flags.{is_value}
use Rattle.record.specs.Record.{id_of, time_of, flags_of, agent_of, topic_len_of, topic_of, payload_at, payload_of}
use Rattle.card.specs.Pick.{All, Sorted}
use Rattle.card.specs.Records.{size}

-- a value whose type is a string (5) or a byte array (9)
abbrev pub has_pointer : List ℕ → Bool
has_pointer r = is_value (flags_of r) && (eqb (le_at 4 (payload_of r) 0) 5 || eqb (le_at 4 (payload_of r) 0) 9)

-- where r stands at address a, the address of such a value's bytes: right behind its 32
abbrev pub bytes_now : ℕ → List ℕ → ℕ
bytes_now a r = a + payload_at (topic_len_of r) + 32

-- "Handed to a module at address a, a record is the stored bytes, except that a string's or byte array's ptr becomes the address where its bytes now lie": the 8
-- bytes at 8 of its payload
abbrev pub at_hand : ℕ → List ℕ → List ℕ
at_hand a r = cond (has_pointer r) (splice r (payload_at (topic_len_of r) + 8) (le_bytes 8 (bytes_now a r))) r

-- .. and so its payload
abbrev pub payload_at_hand : ℕ → List ℕ → List ℕ
payload_at_hand a r = cond (has_pointer r) (splice (payload_of r) 8 (le_bytes 8 (bytes_now a r))) (payload_of r)

-- the bytes s are the record r, handed over at address a
pub record HandedAs (a : ℕ) (r s : List ℕ) : Type 0 where
  pub bytes : s ≡ at_hand a r
  pub long : length s ≡ length r
  pub id : id_of s ≡ id_of r
  pub time : time_of s ≡ time_of r
  pub flags : flags_of s ≡ flags_of r
  pub agent : agent_of s ≡ agent_of r
  pub topic : topic_of s ≡ topic_of r
  pub payload : payload_of s ≡ payload_at_hand a r

-- memory m has the records rs from the address `at` on, one right behind the other
pub record HasPage (m : List ℕ) (at : ℕ) (rs : List (List ℕ)) : Type 0 where
  pub each : (i : ℕ) → i < length rs
      → HandedAs (at + size (take i rs)) (get_or rs i []) (part (at + size (take i rs)) (length (get_or rs i [])) m)

-- ---- read

-- of the events rs these are the ones of "exactly that topic, .. id at least start, in order"
pub record ReadOf (topic : List ℕ) (start : ℕ) (rs list : List (List ℕ)) : Type 0 where
  pub every : (r : List ℕ) → Memᴰ r rs → topic_of r ≡ topic → start ≤ id_of r → Memᴰ r list
  pub of-these : All (λ (r : List ℕ). Memᴰ r rs) list
  pub topics : All (λ (r : List ℕ). topic_of r ≡ topic) list
  pub ids : All (λ (r : List ℕ). start ≤ id_of r) list
  pub in_order : Sorted (λ (a b : List ℕ). id_of a < id_of b) list
