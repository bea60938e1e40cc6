-- The lines answered are the lines of the input.
-- Assumes nothing.
use mathlib.Core.Path.{◌≡◌, refl, ap, sym, ◌∙◌}
use mathlib.Core.Bool.{Bool, true, false, cond}
use mathlib.Core.List.{List, [], ◌∷◌}
use Prim.Native.Nat.{ℕ, zero, suc, ◌≤◌, ◌<◌}
use native.Mathlib.Nat.{not-suc-le-zero}
use native.Mathlib.Omega.{arith}
use lib.Dec.{ltb}
use lib.ListN.{length, drop, length-drop, drop_of_length-le}
use borrow.Author.Tests.{le-ltb, lt-ltb, ltb-true, ltb-false}
use Rattle.le.proofs.TestLaws.{Tested, tested, passes, fails}
use Rattle.text.specs.Lines.{before, lines}
use Rattle.text.proofs.LinesLaws.{lines_step}
use Rattle.session.specs.Sessions.{answered}
use Rattle.pieces.specs.Feeding.{Stand, Heard, quiet, followed, holding, is_name, titled, spoken, closed, fed, over, last_line, ended, heard, line_by_line, one_line}
use Rattle.pieces.proofs.PieceLaws.{followed-assoc, fed-line}

-- behind a line nothing is held
closed-held : (s : Stand) → (closed s).stand.held ≡ []
unfolding closed titled spoken
closed-held s = go (is_name s.many s.held)
  where
    go : (t : Bool) → (cond t (titled s) (spoken s (answered s.session s.buffers s.held))).stand.held ≡ []
    go true = refl
    go false = refl

-- no byte, and none held
none-heard : (s : Stand) → s.held ≡ [] → heard s [] ≡ over s
unfolding heard fed ended last_line
none-heard s e = rw e

-- the last line, held
last-heard : (s : Stand) → 0 < length s.held → heard s [] ≡ followed (closed s) (over (closed s).stand)
unfolding heard fed ended last_line
last-heard s h = rw (lt-ltb 0 (length s.held) h)

heard-line : (s : Stand) (x : List ℕ) → heard s x ≡ followed (one_line s x) (heard (one_line s x).stand (drop (suc (length (before 10 x))) x))
unfolding heard
heard-line s x =
    ap (λ (h : Heard). followed h (ended h.stand)) (fed-line s x)
    ∙ sym (followed-assoc (one_line s x) (fed (one_line s x).stand (drop (suc (length (before 10 x))) x)) (ended (fed (one_line s x).stand (drop (suc (length (before 10 x))) x)).stand))

held-some : (s : Stand) (l : List ℕ) → s.held ≡ [] → 0 < length l → 0 < length (holding s l).held
unfolding holding
held-some s [] e h = absurd (not-suc-le-zero h)
held-some s (b ∷ l) e h = rw e (omega arith)

whole-line : (s : Stand) (x : List ℕ) → length (before 10 x) < length x → one_line s x ≡ closed (holding s (before 10 x))
unfolding one_line
whole-line s x h = rw (lt-ltb (length (before 10 x)) (length x) h)

part-line : (s : Stand) (x : List ℕ) → length x ≤ length (before 10 x) → one_line s x ≡ quiet (holding s (before 10 x))
unfolding one_line
part-line s x h = rw (le-ltb (length (before 10 x)) (length x) h)

-- a first line, where the rest is answered line by line
first-line : (s : Stand) (x l rest : List ℕ) → l ≡ before 10 x → rest ≡ drop (suc (length l)) x → 0 < length x → s.held ≡ []
    → heard (closed (holding s l)).stand rest ≡ line_by_line (closed (holding s l)).stand (lines rest)
    → heard s x ≡ followed (closed (holding s l)) (line_by_line (closed (holding s l)).stand (lines rest))
unfolding line_by_line lines
first-line s x l rest el er h e r = heard-line s x ∙ rw (← el, ← er) (go (tested (ltb (length l) (length x))))
  where
    go : Tested (ltb (length l) (length x)) → followed (one_line s x) (heard (one_line s x).stand rest) ≡ followed (closed (holding s l)) (line_by_line (closed (holding s l)).stand (lines rest))
    go (passes t) = rw (whole-line s x (rw el at (ltb-true (length l) (length x) t)), ← el) (ap (followed (closed (holding s l))) r)
    go (fails t) =
        let f : length x ≤ length l = ltb-false (length l) (length x) t in
        let z : rest ≡ [] = er ∙ drop_of_length-le x {i = suc (length l)} (omega arith) in
        rw (part-line s x (rw el at f), ← el, z) (last-heard (holding s l) (held-some s l e (omega arith)))

from_first : (s : Stand) (x : List ℕ) → s.held ≡ []
    → heard (closed (holding s (before 10 x))).stand (drop (suc (length (before 10 x))) x) ≡ line_by_line (closed (holding s (before 10 x))).stand (lines (drop (suc (length (before 10 x))) x))
    → heard s x ≡ line_by_line s (lines x)
unfolding line_by_line lines
from_first s [] e r = none-heard s e
from_first s (b ∷ bs) e r = first-line s (b ∷ bs) _ _ refl refl (omega arith) e r ∙ ap (line_by_line s) (sym (lines_step (b ∷ bs) (omega arith)))

up_to : (n : ℕ) (s : Stand) (x : List ℕ) → length x ≤ n → s.held ≡ [] → heard s x ≡ line_by_line s (lines x)
unfolding line_by_line lines
up_to zero s [] h e = none-heard s e
up_to zero s (b ∷ bs) h e = absurd (not-suc-le-zero h)
up_to (suc n) s x h e =
    from_first s x e
    (up_to n (closed (holding s (before 10 x))).stand (drop (suc (length (before 10 x))) x) (rw (length-drop (suc (length (before 10 x))) x) (omega arith)) (closed-held (holding s (before 10 x))))

-- a whole input is answered line by line
pub lines-answered : (s : Stand) (x : List ℕ) → s.held ≡ [] → heard s x ≡ line_by_line s (lines x)
lines-answered s x e = up_to (length x) s x (omega arith) e
