-- A line, gathered from pieces.
-- Assumes nothing.
use mathlib.Core.Path.{◌≡◌, refl, ap, sym, ◌∙◌}
use mathlib.Core.Bool.{true, false}
use mathlib.Core.List.{List, [], ◌∷◌}
use Prim.Native.Nat.{ℕ, ◌+◌, ◌-◌, ◌≤◌, ◌<◌}
use native.Mathlib.Omega.{arith}
use native.Mathlib.Nat.{add-zero, add-sub_cancel_left}
use lib.Dec.{ltb}
use lib.ListN.{length, drop, length-drop}
use borrow.Author.Tests.{le-leb, lt-ltb, le-ltb, ltb-false}
use Rattle.le.proofs.TestLaws.{Tested, tested, passes, fails}
use Rattle.le.specs.Splice.{splice, part}
use Rattle.le.proofs.SpliceLaws.{splice-nil}
use Rattle.text.specs.Lines.{before}
use Rattle.text.proofs.LinesLaws.{before-short, before-take}
use Rattle.script.specs.Gathering.{more, held_with, gathered}

pub held_same : (held n : ℕ) → n ≡ 0 → held ≡ held_with held n
unfolding held_with
held_same held n e = rw (e, le-leb 0 (65536 - held) (omega arith)) (omega arith)

none_more : (piece : List ℕ) (at : ℕ) → length piece ≤ at → length (more piece at) ≡ 0
unfolding more
none_more piece at h = omega (arith, before-short 10 (drop at piece), length-drop at piece)

empty : (s : List ℕ) → length s ≡ 0 → s ≡ []
empty [] e = refl
empty (x ∷ xs) e = let z : ◌≡◌ {A = ℕ} 0 1 = cc in absurd (omega arith)

pub gathered_none : (piece : List ℕ) (at held : ℕ) → length piece ≤ at → record { at = at; held = held; whole = false } ≡ gathered piece at held
unfolding gathered
gathered_none piece at held h =
    rw (none_more piece at h, add-zero at, le-ltb at (length piece) h, sym (held_same held 0 refl))

pub line-none : (piece : List ℕ) (at held : ℕ) (line : List ℕ) → length piece ≤ at → line ≡ splice line held (more piece at)
line-none piece at held line h = sym (splice-nil line held) ∙ ap (splice line held) (sym (empty (more piece at) (none_more piece at h)))

pub line-more : (piece : List ℕ) (at held end : ℕ) (q line line' : List ℕ) → end ≡ at + length (before 10 (drop at piece)) → q ≡ part at (end - at) piece
    → line' ≡ splice line held q → line' ≡ splice line held (more piece at)
unfolding more part
line-more piece at held end q line line' e eq el = el ∙ ap (splice line held) (eq ∙ rw (sub e) (sym (before-take 10 (drop at piece))))
  where
    sub : end ≡ at + length (before 10 (drop at piece)) → end - at ≡ length (before 10 (drop at piece))
    sub h = omega arith

pub gathered-whole : (piece : List ℕ) (at held end k : ℕ) → end ≡ at + length (before 10 (drop at piece)) → end < length piece → k ≡ held_with held (end - at)
    → record { at = end + 1; held = k; whole = true } ≡ gathered piece at held
unfolding gathered more
gathered-whole piece at held end k e h ek = rw (← e, lt-ltb end (length piece) h) (rw (ek, e) (simp add-sub_cancel_left))

pub gathered-part : (piece : List ℕ) (at held end k : ℕ) → end ≡ at + length (before 10 (drop at piece)) → length piece ≤ end → k ≡ held_with held (end - at)
    → record { at = end; held = k; whole = false } ≡ gathered piece at held
unfolding gathered more
gathered-part piece at held end k e h ek = rw (← e, le-ltb end (length piece) h) (rw (ek, e) (simp add-sub_cancel_left))

-- something is taken of every piece
pub gathered-ahead : (piece : List ℕ) (at held : ℕ) → at < length piece → at < (gathered piece at held).at
unfolding gathered
gathered-ahead piece at held h = go (tested (ltb (at + length (more piece at)) (length piece)))
  where
    go : Tested (ltb (at + length (more piece at)) (length piece)) → at < (gathered piece at held).at
    go (passes e) = rw e (omega arith)
    go (fails e) = rw e (omega (arith, ltb-false (at + length (more piece at)) (length piece) e))
