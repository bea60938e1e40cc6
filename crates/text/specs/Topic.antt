-- Topics and filters.
-- Assumes nothing.
use Rattle.std.specs.Prelude.{Bool, true, not, ◌&&◌, List, [], ◌∷◌, ℕ, leb, eqb, length}
use Rattle.text.specs.declared.topic.Rule.{Rule}
use Rattle.text.specs.declared.topic.Rule.TheVariants.{Called, Kept}
use Rattle.text.specs.Utf8.{utf8}

-- The bytes that may stand in a topic or filter of a call or a grant (`Called`), and in a record's topic (`Kept`). 01: "no byte from 0 to 31". 02, A2: nor 127, as it
-- "is one and document 01 forgot it"; but "Cards that already hold such a topic still mount".
abbrev pub may_stand : Rule → ℕ → Bool
may_stand Called b = leb 32 b && not (eqb b 127)
may_stand Kept b = leb 32 b

-- no byte that may not (by `Kept`, 127 may)
unfoldable pub no_control : Rule → List ℕ → Bool
no_control rule [] = true
no_control rule (b ∷ bs) = may_stand rule b && no_control rule bs

-- 01: "A topic or filter has a length within its sizes and is UTF-8 with no byte from 0 to 31"
unfoldable pub good_text : Rule → ℕ → ℕ → List ℕ → Bool
good_text rule least most s = leb least (length s) && (leb (length s) most && (utf8 s && no_control rule s))

-- what a topic may be in a call, and in a grant: "Topic 1 to 2,048 bytes". 02: "Topics, filters and manifests now refuse it"
abbrev pub good_topic : List ℕ → Bool
good_topic s = good_text Called 1 2048 s

-- what a topic may be in a sound record, on the card or staged: "the topic is good", by 01's rule, which A2 leaves there
abbrev pub card_topic : List ℕ → Bool
card_topic s = good_text Kept 1 2048 s

-- "cursor filter 0 to 64 bytes"; A2's sentence too
abbrev pub good_filter : List ℕ → Bool
good_filter s = good_text Called 0 64 s
