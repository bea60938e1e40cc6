-- What a return prints.
-- Assumes nothing.
use Rattle.std.specs.Prelude.{List, [], ◌∷◌, ℕ}
use Rattle.text.specs.Decimal.{decimal}
use Rattle.host.specs.declared.Fate.{Fate}
use Rattle.host.specs.declared.Fate.TheVariants.{Refused, Discarded, Running, Committed}
use Rattle.script.specs.Words.{return_word, running_word, discarded_word, committed_word}
use Rattle.script.specs.Saying.{printed, answer_text}

-- "return|committed|1|152", "return|discarded|-6", "A return that isn't the last prints `return|running`"; a refused one has its code (R8)
unfoldable pub said_fate : Fate → List ℕ
said_fate (Refused c) = printed return_word (answer_text c 0 ∷ [])
said_fate (Discarded c) = printed return_word (discarded_word ∷ answer_text c 0 ∷ [])
said_fate Running = printed return_word (running_word ∷ [])
said_fate (Committed events bytes) = printed return_word (committed_word ∷ decimal events ∷ decimal bytes ∷ [])
