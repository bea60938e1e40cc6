-- The words of a rehearsal, as fixed byte strings.
-- Assumes nothing.
use Rattle.std.specs.Prelude.{List, [], ◌∷◌, ℕ}

-- `begin`
unfoldable pub begin_word : List ℕ
begin_word = 98 ∷ 101 ∷ 103 ∷ 105 ∷ 110 ∷ []

-- `write`
unfoldable pub write_word : List ℕ
write_word = 119 ∷ 114 ∷ 105 ∷ 116 ∷ 101 ∷ []

-- `open`
unfoldable pub open_word : List ℕ
open_word = 111 ∷ 112 ∷ 101 ∷ 110 ∷ []

-- `next`
unfoldable pub next_word : List ℕ
next_word = 110 ∷ 101 ∷ 120 ∷ 116 ∷ []

-- `return`
unfoldable pub return_word : List ℕ
return_word = 114 ∷ 101 ∷ 116 ∷ 117 ∷ 114 ∷ 110 ∷ []

-- `go`
unfoldable pub go_word : List ℕ
go_word = 103 ∷ 111 ∷ []

-- `bad`
unfoldable pub bad_word : List ℕ
bad_word = 98 ∷ 97 ∷ 100 ∷ []

-- `mount`
unfoldable pub mount_word : List ℕ
mount_word = 109 ∷ 111 ∷ 117 ∷ 110 ∷ 116 ∷ []

-- `event`
unfoldable pub event_word : List ℕ
event_word = 101 ∷ 118 ∷ 101 ∷ 110 ∷ 116 ∷ []

-- `running`
unfoldable pub running_word : List ℕ
running_word = 114 ∷ 117 ∷ 110 ∷ 110 ∷ 105 ∷ 110 ∷ 103 ∷ []

-- `discarded`
unfoldable pub discarded_word : List ℕ
discarded_word = 100 ∷ 105 ∷ 115 ∷ 99 ∷ 97 ∷ 114 ∷ 100 ∷ 101 ∷ 100 ∷ []

-- `committed`
unfoldable pub committed_word : List ℕ
committed_word = 99 ∷ 111 ∷ 109 ∷ 109 ∷ 105 ∷ 116 ∷ 116 ∷ 101 ∷ 100 ∷ []
