-- Where the program lays the arguments of a call. R9, R10: the record at 8, texts from 56 on, the out buffer at 8 over the record.
-- Assumes nothing.
use Rattle.std.specs.Prelude.{List, [], ◌∷◌, ◌++◌, ℕ, ◌+◌, length}
use Rattle.le.specs.Le.{le_bytes}
use Rattle.le.specs.Splice.{splice, zeros}
use Rattle.script.specs.declared.forms.Window.{Window}

-- numbers of 8 bytes, one after the other
unfoldable pub words : List ℕ → List ℕ
words [] = []
words (v ∷ vs) = le_bytes 8 v ++ words vs

-- begin: "Used are res_max at 24, virt_time at 48"; all other bytes are 0 (R14)
unfoldable pub begin_laid : ℕ → ℕ → List ℕ
begin_laid units time = splice (splice (zeros 128) 24 (le_bytes 8 units)) 48 (le_bytes 8 time)

-- write: topic 0, data 16, len 24, flags 32 (raw); the payload stands right behind the topic. What does not fit in memory is not laid: the span says so
unfoldable pub write_laid : List ℕ → List ℕ → List ℕ → List ℕ
write_laid m topic payload =
    splice
    (splice (splice m 8 (words (56 ∷ length topic ∷ (56 + length topic) ∷ length payload ∷ 1 ∷ 0 ∷ []))) 56 topic)
    (56 + length topic) payload

-- tl_open: topic 0, start 16, end 24, limit 32, desc 40
unfoldable pub open_laid : List ℕ → List ℕ → Window → List ℕ
open_laid m filter w = splice (splice m 8 (words (56 ∷ length filter ∷ w.from.0 ∷ w.to.0 ∷ w.limit ∷ w.desc ∷ []))) 56 filter

-- tl_next: handle 0, out_ptr 8, buf_cap 16
unfoldable pub next_laid : List ℕ → ℕ → ℕ → List ℕ
next_laid m handle cap = splice m 8 (words (handle ∷ 8 ∷ cap ∷ []))
