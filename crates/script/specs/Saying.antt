-- What is printed. 01, "A whole rehearsal".
-- Assumes nothing.
use Rattle.std.specs.Prelude.{◌≡◌, cond, List, [], ◌∷◌, ◌++◌, ℕ, suc, ◌+◌, ◌≤◌, ℤ, pos, negsuc, length}
use Rattle.le.specs.Splice.{splice}
use Rattle.text.specs.Decimal.{decimal}
use Rattle.weave.specs.declared.Code.{Code}
use Rattle.weave.specs.declared.Code.TheVariants.{Fine}
use Rattle.weave.specs.Codes.{is_fine, number}
use Rattle.script.specs.Words.{bad_word, mount_word}
use Rattle.script.specs.declared.say.Printer.{Printer}

-- the fields behind a line's first, a tab before each, and byte 10 at its end
unfoldable pub behind : List (List ℕ) → List ℕ
behind [] = 10 ∷ []
behind (f ∷ fs) = 9 ∷ (f ++ behind fs)

-- a printed line
unfoldable pub printed : List ℕ → List (List ℕ) → List ℕ
printed word fs = word ++ behind fs

-- a number with its sign
unfoldable pub number_text : ℤ → List ℕ
number_text (pos n) = decimal n
number_text (negsuc n) = 45 ∷ decimal (suc n)

-- what a call is answered with: its number, or the code it was refused with
unfoldable pub answer_text : Code → ℕ → List ℕ
answer_text c v = cond (is_fine c) (decimal v) (number_text (number c))

-- "begin|0", "next|-6"
abbrev pub said_answer : List ℕ → Code → ℕ → List ℕ
said_answer word c v = printed word (answer_text c v ∷ [])

-- "A line of another form prints `bad` and its number, a refused mount `mount` and its code"
abbrev pub said_bad : ℕ → List ℕ
said_bad n = said_answer bad_word Fine n

abbrev pub said_mount : Code → List ℕ
said_mount c = said_answer mount_word c 0

-- s₀ has become s: these bytes are laid over it from `at` on, up to r, and none of them is cut off
pub record Put (s₀ s : List ℕ) (at : ℕ) (bytes : List ℕ) (r : ℕ) : Type 0 where
  pub laid : s ≡ splice s₀ at bytes
  pub ends : r ≡ at + length bytes
  pub whole : r ≤ length s₀

-- p has become q: these bytes were printed behind those before, into the same buffer, which is as long as it was
pub record Prints (p q : Printer) (bytes : List ℕ) : Type 0 where
  pub same : q.out.ghost_name ≡ p.out.ghost_name
  pub long : length q.out.now ≡ length p.out.now
  pub put : Put p.out.now q.out.now p.at bytes q.at
