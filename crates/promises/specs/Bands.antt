-- Two bands, so that A14 does not hold because there are none: band A plays as module 1 and band B as module 2, each on a topic of its own. On the card are a take of band A, with whatever
-- payload, and one of band B.
-- Assumes nothing.
use Rattle.std.specs.Prelude.{◌≡◌, true, false, List, [], ◌∷◌, ◌++◌, ℕ, pos, length}
use Rattle.le.specs.Splice.{zeros}
use Rattle.record.specs.Record.{record_bytes}
use Rattle.host.specs.Hosts.{Lent, lent_as}
use Rattle.promises.specs.Box.{World, card_records, Op, Begin, Ingress, Return, mounted_as, run}
use Rattle.promises.specs.TwoBands.{is_granted}
use Rattle.promises.specs.TwoWeaves.{hundred}

-- `modules` 2; `grant` 1 `out` a; `grant` 1 `in` a; `grant` 2 `out` b; `grant` 2 `in` b
abbrev pub bands : List ℕ
bands =
    109 ∷ 111 ∷ 100 ∷ 117 ∷ 108 ∷ 101 ∷ 115 ∷ 9 ∷ 50 ∷ 10
    ∷ 103 ∷ 114 ∷ 97 ∷ 110 ∷ 116 ∷ 9 ∷ 49 ∷ 9 ∷ 111 ∷ 117 ∷ 116 ∷ 9 ∷ 97 ∷ 10
    ∷ 103 ∷ 114 ∷ 97 ∷ 110 ∷ 116 ∷ 9 ∷ 49 ∷ 9 ∷ 105 ∷ 110 ∷ 9 ∷ 97 ∷ 10
    ∷ 103 ∷ 114 ∷ 97 ∷ 110 ∷ 116 ∷ 9 ∷ 50 ∷ 9 ∷ 111 ∷ 117 ∷ 116 ∷ 9 ∷ 98 ∷ 10
    ∷ 103 ∷ 114 ∷ 97 ∷ 110 ∷ 116 ∷ 9 ∷ 50 ∷ 9 ∷ 105 ∷ 110 ∷ 9 ∷ 98 ∷ 10
    ∷ []

-- a raw event with this number, as this module writes it, on a topic of one letter
abbrev pub take_of : ℕ → ℕ → ℕ → List ℕ → List ℕ
take_of number module' letter payload =
    record_bytes (record { id = record { 0 = number }; flags = 1; time = record { 0 = 0 }; agent = module' }) (zeros 32) (letter ∷ []) payload

-- band A's take, with any payload, and band B's
abbrev pub take_a : List ℕ → List ℕ
take_a payload = take_of 1 1 97 payload

abbrev pub take_b : List ℕ
take_b = take_of 2 2 98 []

abbrev pub card_with : List ℕ → List ℕ
card_with payload = take_a payload ++ take_b

abbrev pub lent_with : ℕ → List ℕ → Lent
lent_with n payload = lent_as (zeros n) (card_with payload) bands

-- a weave begins, an event comes in on band B's topic, and band A has its turn and returns
abbrev pub to_band_b : List Op
to_band_b = Begin hundred ∷ Ingress (98 ∷ []) [] ∷ Return (pos 0) ∷ []

-- the box then; its table has room for three records
abbrev pub in_band_b : ℕ → List ℕ → World
in_band_b n payload = run (mounted_as (lent_with n payload) (zeros 3) (length (card_with payload))) to_band_b

-- it is band B's turn, and of the two takes on the card band B is granted its own
pub record BandBsTurn (w : World) (payload : List ℕ) : Type 0 where
  pub running : w.host.weave.running ≡ true
  pub turn : w.host.weave.turn ≡ 2
  pub card : card_records w ≡ take_a payload ∷ take_b ∷ []
  pub own : is_granted 2 w take_b ≡ true
  pub other : is_granted 2 w (take_a payload) ≡ false
