-- The core topics, as fixed byte strings.
-- Assumes nothing.
use Rattle.std.specs.Prelude.{Bool, ◌||◌, List, [], ◌∷◌, ℕ}
use Rattle.text.specs.Compare.{same_bytes}

-- `filament/core/log`
unfoldable pub log_topic : List ℕ
log_topic = 102 ∷ 105 ∷ 108 ∷ 97 ∷ 109 ∷ 101 ∷ 110 ∷ 116 ∷ 47 ∷ 99 ∷ 111 ∷ 114 ∷ 101 ∷ 47 ∷ 108 ∷ 111 ∷ 103 ∷ []

-- `filament/core/panic`
unfoldable pub panic_topic : List ℕ
panic_topic = 102 ∷ 105 ∷ 108 ∷ 97 ∷ 109 ∷ 101 ∷ 110 ∷ 116 ∷ 47 ∷ 99 ∷ 111 ∷ 114 ∷ 101 ∷ 47 ∷ 112 ∷ 97 ∷ 110 ∷ 105 ∷ 99 ∷ []

-- one of "the two topics `filament/core/log` and `filament/core/panic`"
unfoldable pub core_topic : List ℕ → Bool
core_topic t = same_bytes t log_topic || same_bytes t panic_topic
