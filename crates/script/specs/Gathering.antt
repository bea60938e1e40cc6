-- A line, gathered from the pieces in which the input is read. What a line has beyond the buffer is not kept: such a line has no form.
-- Assumes nothing.
use Rattle.std.specs.Prelude.{cond, List, ℕ, ◌+◌, ◌-◌, leb, ltb, length, drop}
use Rattle.text.specs.Lines.{before}
use Rattle.script.specs.declared.gather.Gathered.{Gathered}

-- the bytes of the piece from `at` on that belong to the line: those before byte 10
unfoldable pub more : List ℕ → ℕ → List ℕ
more piece at = before 10 (drop at piece)

-- how many bytes are held of a line when n more come, in a buffer of 65,536
unfoldable pub held_with : ℕ → ℕ → ℕ
held_with held n = cond (leb n (65536 - held)) (held + n) 65536

-- where the next line begins, how many bytes are held of this one, and whether it is whole: byte 10 was met
unfoldable pub gathered : List ℕ → ℕ → ℕ → Gathered
gathered piece at held =
    record {
      at = cond (ltb (at + length (more piece at)) (length piece)) (at + length (more piece at) + 1) (at + length (more piece at));
      held = held_with held (length (more piece at));
      whole = ltb (at + length (more piece at)) (length piece);
    }
