-- Runs of bytes in a buffer: written over it, and parts of it. Callers' proofs use the laws of `proofs/SpliceLaws.antt`, and not the text.
-- Assumes nothing.
use Rattle.std.specs.Prelude.{Bool, true, ◌&&◌, cond, List, [], ◌∷◌, ℕ, zero, suc, ◌+◌, leb, eqb, length, replicate, take, drop}

-- `xs` with `ys` written over it from index `at` on; its length is that of `xs`, and what of `ys` would lie past its end is lost
unfoldable pub splice : List ℕ → ℕ → List ℕ → List ℕ
splice [] at ys = []
splice (x ∷ xs) zero [] = x ∷ xs
splice (x ∷ xs) zero (y ∷ ys) = y ∷ splice xs zero ys
splice (x ∷ xs) (suc at) ys = x ∷ splice xs at ys

-- the same, whole or not at all
unfoldable pub wholly : List ℕ → ℕ → List ℕ → List ℕ
wholly xs at ys = cond (leb (at + length ys) (length xs)) (splice xs at ys) xs

-- n bytes that are 0
abbrev pub zeros : ℕ → List ℕ
zeros n = replicate n 0

-- the n bytes from index a on
unfoldable pub part : ℕ → ℕ → List ℕ → List ℕ
part a n s = take n (drop a s)

-- every byte is 0
unfoldable pub all_zero : List ℕ → Bool
all_zero [] = true
all_zero (b ∷ bs) = eqb b 0 && all_zero bs
