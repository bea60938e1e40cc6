-- The first line of a text, and the lines behind it.
-- Assumes nothing.
use Rattle.std.proofs.Common.{◌≡◌, ℕ, ◌+◌, ◌<◌, ◌≤◌, List, [], ◌∷◌, length, drop, get_or, ap, refl, add-one, arith}
use Rattle.text.specs.Lines.{before, lines, line_at}
use Rattle.text.proofs.LinesLaws.{lines_step}

first : (s : List ℕ) → 0 < length s → line_at 0 s ≡ before 10 s
unfolding line_at
first s h = ap (λ ls. get_or ls 0 []) (lines_step s h)

pub first-line : (s l t : List ℕ) → 0 < length s → l ≡ line_at 0 s → t ≡ drop (length l + 1) s → lines s ≡ l ∷ lines t
first-line s l t h el et = rw (et, el, first s h, add-one) (lines_step s h)

pub no-line : (s : List ℕ) → length s ≤ 0 → lines s ≡ []
unfolding lines
no-line [] h = refl
no-line (b ∷ s) h = absurd (omega arith)
