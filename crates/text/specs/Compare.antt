-- Bytes compared.
-- Assumes nothing.
use Rattle.std.specs.Prelude.{Bool, true, false, ◌&&◌, List, [], ◌∷◌, ℕ, eqb}

-- 01: "The filter matches every topic that begins with it"
unfoldable pub prefix_of : List ℕ → List ℕ → Bool
prefix_of [] topic = true
prefix_of (f ∷ fs) [] = false
prefix_of (f ∷ fs) (t ∷ ts) = eqb f t && prefix_of fs ts

-- byte for byte the same
unfoldable pub same_bytes : List ℕ → List ℕ → Bool
same_bytes [] [] = true
same_bytes [] (b ∷ ys) = false
same_bytes (a ∷ xs) [] = false
same_bytes (a ∷ xs) (b ∷ ys) = eqb a b && same_bytes xs ys
