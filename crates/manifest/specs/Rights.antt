-- What modules are granted. A direction is a Bool, true for `out`. Callers' proofs use the laws of `proofs/RightsLaws.antt`, and not the text.
-- Assumes nothing.
use Rattle.std.specs.Prelude.{Bool, false, ◌&&◌, ◌||◌, List, [], ◌∷◌, ℕ, eqb}
use Rattle.std.specs.Bool.{beq}
use Rattle.text.specs.Compare.{same_bytes}
use Rattle.text.specs.Words.{core_topic}

-- what a grant gives: the module with the number `holder` may write events with this topic (`out`), or read and list them (`in`)
pub record Right : Type 0 where
  pub holder : ℕ
  pub out : Bool
  pub topic : List ℕ

-- 01: "A grant is for exactly one topic." So the bytes are the same; it is not enough that one begins with the other.
unfoldable pub gives : Right → ℕ → Bool → List ℕ → Bool
gives g k out topic = eqb g.holder k && (beq g.out out && same_bytes g.topic topic)

-- 01: "Repeated grants do nothing." One that gives it is enough (`repeated` of proofs/RightsLaws.antt).
unfoldable pub any_gives : List Right → ℕ → Bool → List ℕ → Bool
any_gives [] k out topic = false
any_gives (g ∷ gs) k out topic = gives g k out topic || any_gives gs k out topic

-- Whether module k has the direction on the topic.
-- 01: "Every module has `out` on the two topics `filament/core/log` and `filament/core/panic`." Here k is not asked to be a module: check 1 has put the
-- turn within 1 to the count before anybody asks, and a grant names only modules (`rights-good` of proofs/SayingLaws.antt).
unfoldable pub granted : List Right → ℕ → Bool → List ℕ → Bool
granted gs k out topic = (out && core_topic topic) || any_gives gs k out topic
