-- UTF-8 as RFC 3629, section 4, has it.
-- Assumes nothing.
use Rattle.std.specs.Prelude.{Bool, true, false, ◌&&◌, cond, List, [], ◌∷◌, ℕ, zero, suc, ltb, leb}
use Rattle.text.specs.declared.utf8.Due.{Due}

-- the bytes from lo to hi
pub data Range : Type 0 where
  to : ℕ → ℕ → Range

-- UTF8-tail = %x80-BF
abbrev pub tail : Range
tail = to 0x80 0xBF

-- no byte
abbrev pub never : List Range
never = to 1 0 ∷ []

abbrev pub within : Range → ℕ → Bool
within (to lo hi) b = leb lo b && leb b hi

-- UTF8-char: the ranges of the bytes that follow a first byte b
unfoldable pub after : ℕ → List Range
after b =
    cond (ltb b 0x80) []  -- 00-7F
    (cond (ltb b 0xC2) never  -- 80-C1 begin no character
    (cond (ltb b 0xE0) (tail ∷ [])  -- C2-DF
    (cond (ltb b 0xE1) (to 0xA0 0xBF ∷ tail ∷ [])  -- E0
    (cond (ltb b 0xED) (tail ∷ tail ∷ [])  -- E1-EC
    (cond (ltb b 0xEE) (to 0x80 0x9F ∷ tail ∷ [])  -- ED
    (cond (ltb b 0xF0) (tail ∷ tail ∷ [])  -- EE-EF
    (cond (ltb b 0xF1) (to 0x90 0xBF ∷ tail ∷ tail ∷ [])  -- F0
    (cond (ltb b 0xF4) (tail ∷ tail ∷ tail ∷ [])  -- F1-F3
    (cond (ltb b 0xF5) (to 0x80 0x8F ∷ tail ∷ tail ∷ [])  -- F4
    never)))))))))  -- F5-FF begin no character

-- bytes in the ranges that are still due, then characters to the end
unfoldable pub utf8_from : List Range → List ℕ → Bool
utf8_from [] [] = true
utf8_from [] (b ∷ bs) = utf8_from (after b) bs
utf8_from (r ∷ rs) [] = false
utf8_from (r ∷ rs) (b ∷ bs) = within r b && utf8_from rs bs

-- UTF8-octets = *( UTF8-char )
unfoldable pub utf8 : List ℕ → Bool
utf8 bytes = utf8_from [] bytes

-- `left` ranges that are due: lo to hi, and tails after it. What the code keeps.
abbrev pub tails : ℕ → List Range
tails zero = []
tails (suc n) = tail ∷ tails n

abbrev pub due : ℕ → ℕ → ℕ → List Range
due zero lo hi = []
due (suc n) lo hi = to lo hi ∷ tails n

-- the same as the code's struct
abbrev pub due_of : ℕ → ℕ → ℕ → Due
due_of left lo hi = record { left = left; lo = lo; hi = hi }
