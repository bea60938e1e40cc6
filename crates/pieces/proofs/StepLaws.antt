-- One line: gathered from a piece, and answered when it is whole.
-- Assumes nothing.
use mathlib.Core.Path.{◌≡◌, refl, ap, sym, ◌∙◌}
use mathlib.Core.Bool.{Bool, true, false, not, ◌&&◌, cond}
use mathlib.Core.List.{List, [], ◌∷◌, ◌++◌}
use Prim.Native.Nat.{ℕ, suc, ◌+◌, ◌-◌, ◌≤◌, ◌<◌}
use native.Mathlib.Nat.{min-le_right}
use native.Mathlib.Omega.{arith}
use lib.Dec.{leb, ltb}
use lib.ListN.{length, take, drop, length-append, length-take, length-drop, take-append-drop, drop_of_length-le}
use lib.Seq.{take_all, length-take-le, take-append_seam, drop-drop}
use borrow.Author.Tests.{le-ltb, lt-ltb, leb-true, leb-false, ltb-true, ltb-false}
use Rattle.le.specs.Splice.{splice}
use Rattle.le.proofs.SpliceLaws.{take-splice-end, laid-clipped}
use Rattle.le.proofs.TestLaws.{Tested, tested, passes, fails, and_left, and_right}
use Rattle.text.specs.Lines.{before}
use Rattle.script.specs.Words.{bad_word}
use Rattle.script.specs.Saying.{Put, behind, printed, answer_text, said_bad}
use Rattle.script.specs.Gathering.{more, held_with, gathered}
use Rattle.script.specs.declared.gather.Gathered.{Gathered}
use Rattle.script.proofs.SayLaws.{put-none, put_then, digits-most}
use Rattle.session.specs.declared.Phase.{Phase}
use Rattle.session.specs.declared.Phase.TheVariants.{Listing, Overfull, Playing, Over}
use Rattle.session.specs.declared.Session.{Session}
use Rattle.session.specs.declared.Buffers.{Buffers}
use Rattle.session.specs.Sessions.{Answers, answered, counted, fresh_session, end_in}
use Rattle.pieces.specs.declared.Play.{Play}
use Rattle.pieces.specs.Feeding.{Stand, stand_as, stand_of, Heard, Hears, holding, is_name, end_said, titled, spoken, closed, over, last_line, ended, fed, one_line}
use Rattle.pieces.proofs.PieceLaws.{fed-line}

-- ---- the end of a session

bad-short : (k : ℕ) → length (said_bad k) ≤ 32
unfolding printed behind answer_text bad_word
bad-short k = simp length-append (omega (arith, digits-most k))

end_short : (m n : Bool) (s : Session) → length (end_said m n s) ≤ 32
unfolding end_said end_in
end_short m n s = go (m && not n) s.phase
  where
    go : (t : Bool) (ph : Phase) → length (cond t [] (end_in ph s)) ≤ 32
    go true ph = omega arith
    go false Listing = bad-short (counted s)
    go false Overfull = bad-short (counted s)
    go false Playing = omega arith
    go false Over = omega arith

module _ (m n : Bool) (s : Session) (o : List ℕ) where
  pub finish-none : m && not n ≡ true → Put o o 0 (end_said m n s) 0
  unfolding end_said
  finish-none e = rw e (put-none o 0 (omega arith))

  pub finish-some : (o' : List ℕ) (r : ℕ) → m && not n ≡ false → Put o o' 0 (end_in s.phase s) r → Put o o' 0 (end_said m n s) r
  unfolding end_said
  finish-some o' r e p = rw e p

  pub finish-short : (o' : List ℕ) (r : ℕ) → Put o o' 0 (end_said m n s) r → r ≤ 32
  finish-short o' r p = omega (arith, p.ends, end_short m n s)

-- ---- a whole line

pub name-short : (m : Bool) (l : List ℕ) (t : Bool) → t ≡ is_name m l → t ≡ true → length l ≤ 1024
unfolding is_name
name-short m l t et e = leb-true (length l) 1024 (and_right m _ (and_left (m && leb (length l) 1024) _ (sym et ∙ e)))

pub title-put : (s₀ s₁ s₂ s₃ : List ℕ) (a b r : ℕ) (xs l : List ℕ) → Put s₀ s₁ 0 xs a → Put s₁ s₂ a l b → Put s₂ s₃ b (10 ∷ []) r → Put s₀ s₃ 0 (xs ++ (l ++ (10 ∷ []))) r
title-put s₀ s₁ s₂ s₃ a b r xs l p q t = put_then s₀ s₁ s₃ 0 a r xs (l ++ (10 ∷ [])) p (put_then s₁ s₂ s₃ a b r l (10 ∷ []) q t)

module _ (p : Play) (l o o' : List ℕ) (t : Bool) (n : ℕ) (el : l ≡ take p.held p.line) (et : t ≡ is_name p.many l) where
  pub closed-name : (p' : Play) → t ≡ true → p' ≡ record p { session = fresh_session; named = true; held = 0 }
      → Put o o' 0 (end_said p.many p.named p.session ++ (take p.held p.line ++ (10 ∷ []))) n → Hears (closed (stand_of p)) (stand_of p') o o' n
  unfolding closed titled
  closed-name p' e ep put = rw (← el, ← et, e) (record { stand = ap stand_of ep; said = rw (← el) at put })

  pub closed-line : (b' : Buffers) (next : Session) → t ≡ false → Answers (answered p.session p.buffers l) next b' o o' n
      → Hears (closed (stand_of p)) (stand_as next p.many p.named [] b') o o' n
  unfolding closed spoken
  closed-line b' next e a = rw (← el, ← et, e) (record { stand = rw (a.next, a.buffers); said = a.said })

-- ---- a line from a piece

-- as many bytes as there are of k
as_many : (k : ℕ) (xs : List ℕ) → take (length (take k xs)) xs ≡ take k xs
as_many k xs = ap (take (length (take k xs))) (sym (take-append-drop k xs)) ∙ take-append_seam (take k xs) (drop k xs)

-- a line with l behind it, in a buffer that has room for 65,536 bytes
kept : (line l : List ℕ) (held : ℕ) → length line ≡ 65536 → held ≤ 65536
    → take (held_with held (length l)) (splice line held l) ≡ take held line ++ take (65536 - held) l
unfolding held_with
kept line l held long h = go (tested (leb (length l) (65536 - held)))
  where
    full : 65536 - held < length l → take 65536 (splice line held l) ≡ take held line ++ take (65536 - held) l
    full g =
        let n : length (take (65536 - held) l) ≡ 65536 - held = length-take-le (65536 - held) l (omega arith) in
        let s : splice line held (take (65536 - held) l) ≡ splice line held l = laid-clipped line held l (take (65536 - held) l) _ (rw long) refl in
        let k : held + length (take (65536 - held) l) ≡ 65536 = omega (arith, n) in
        ap (take 65536) (sym s) ∙ (rw k at (take-splice-end line held (take (65536 - held) l) (omega (arith, n, long))))

    go : Tested (leb (length l) (65536 - held))
        → take (cond (leb (length l) (65536 - held)) (held + length l) 65536) (splice line held l) ≡ take held line ++ take (65536 - held) l
    go (passes f) =
        rw (f, take_all (65536 - held) l (leb-true (length l) (65536 - held) f))
        (take-splice-end line held l (omega (arith, leb-true (length l) (65536 - held) f)))
    go (fails f) = rw f (full (leb-false (length l) (65536 - held) f))

whole-test : (piece : List ℕ) (at : ℕ) → ltb (at + length (more piece at)) (length piece) ≡ ltb (length (before 10 (drop at piece))) (length (drop at piece))
unfolding more
whole-test piece at = rw (length-drop at piece) (go (length (before 10 (drop at piece))) (length piece))
  where
    go : (k n : ℕ) → ltb (at + k) n ≡ ltb k (n - at)
    go k n = on (tested (ltb (at + k) n))
      where
        on : Tested (ltb (at + k) n) → ltb (at + k) n ≡ ltb k (n - at)
        on (passes e) = e ∙ sym (lt-ltb k (n - at) (omega (arith, ltb-true (at + k) n e)))
        on (fails e) = e ∙ sym (le-ltb k (n - at) (omega (arith, ltb-false (at + k) n e)))

module _ (p : Play) (line' piece l : List ℕ) (at held : ℕ) (g : Gathered) (o : List ℕ) (long : length p.line ≡ 65536)
    (ef : l ≡ take p.held p.line) (eh : held ≡ length l) (eg : g ≡ gathered piece at held) (el : line' ≡ splice p.line held (more piece at)) where
  most : held ≤ 65536
  most = rw (eh, ef, length-take p.held p.line, long) (min-le_right p.held 65536)

  room : take held p.line ++ take (65536 - held) (more piece at) ≡ take p.held p.line ++ take (65536 - length (take p.held p.line)) (more piece at)
  room = rw (eh ∙ ap length ef, as_many p.held p.line)

  gathers : stand_of (record p { line = line'; held = g.held }) ≡ holding (stand_of p) (before 10 (drop at piece))
  unfolding holding more gathered
  gathers =
      rw (ap (λ (x : Gathered). x.held) eg, el)
      (ap (λ (r : List ℕ). stand_as p.session p.many p.named r p.buffers) (kept p.line (more piece at) held long most ∙ room))

  whole_is : g.whole ≡ ltb (length (before 10 (drop at piece))) (length (drop at piece))
  unfolding gathered
  whole_is = ap (λ (x : Gathered). x.whole) eg ∙ whole-test piece at

  pub step-whole : (s' : Stand) (o' : List ℕ) (n : ℕ) → g.whole ≡ true → Hears (closed (stand_of (record p { line = line'; held = g.held }))) s' o o' n
      → Hears (one_line (stand_of p) (drop at piece)) s' o o' n
  unfolding one_line
  step-whole s' o' n e h = rw (sym whole_is ∙ e, sym gathers) h

  pub step_part : g.whole ≡ false → Hears (one_line (stand_of p) (drop at piece)) (stand_of (record p { line = line'; held = g.held })) o o 0
  unfolding one_line
  step_part e = rw (sym whole_is ∙ e) (record { stand = gathers; said = put-none o 0 (omega arith) })

-- ---- the rest of a piece

next-at : (piece : List ℕ) (at : ℕ) → drop (gathered piece at 0).at piece ≡ drop (suc (length (before 10 (drop at piece)))) (drop at piece)
unfolding gathered more
next-at piece at = go (length (before 10 (drop at piece))) ∙ sym (drop-drop (suc (length (before 10 (drop at piece)))) at piece)
  where
    go : (k : ℕ) → drop (cond (ltb (at + k) (length piece)) (at + k + 1) (at + k)) piece ≡ drop (at + suc k) piece
    go k = on (tested (ltb (at + k) (length piece)))
      where
        on : Tested (ltb (at + k) (length piece)) → drop (cond (ltb (at + k) (length piece)) (at + k + 1) (at + k)) piece ≡ drop (at + suc k) piece
        on (passes e) = rw e (ap (λ (j : ℕ). drop j piece) {x = at + k + 1} {y = at + suc k} (omega arith))
        on (fails e) = rw e (drop_of_length-le piece (ltb-false (at + k) (length piece) e) ∙ sym (drop_of_length-le piece {i = at + suc k} (omega (arith, ltb-false (at + k) (length piece) e))))

pub feed-more : (rest rest' : List ℕ) (k : ℕ) (s s' : Stand) (o o' : List ℕ) (n : ℕ) (all : Stand) → Hears (one_line s rest) s' o o' n
    → k ≡ (gathered rest 0 0).at → rest' ≡ drop k rest → (fed s rest).stand ≡ all → (fed s' rest').stand ≡ all
feed-more rest rest' k s s' o o' n all h e er i =
    rw (h.stand, er, e, next-at rest 0) (sym (ap (λ (x : Heard). x.stand) (fed-line s rest)) ∙ i)

pub feed-done : (rest : List ℕ) (s all : Stand) → length rest ≡ 0 → (fed s rest).stand ≡ all → s ≡ all
unfolding fed
feed-done [] s all h i = i
feed-done (b ∷ bs) s all h i = absurd (omega arith)

-- ---- the end of the input

module _ (p : Play) (l : List ℕ) (el : l ≡ take p.held p.line) where
  pub last-held : (s' : Stand) (o o' : List ℕ) (n : ℕ) → 1 ≤ length l → Hears (closed (stand_of p)) s' o o' n → s' ≡ (last_line (stand_of p)).stand
  unfolding last_line
  last-held s' o o' n h g = rw (lt-ltb 0 (length (take p.held p.line)) (rw el at h)) g.stand

  pub last_none : length l < 1 → stand_of p ≡ (last_line (stand_of p)).stand
  unfolding last_line
  last_none h = rw (← el, le-ltb 0 (length l) (omega arith))

pub end_is : (s s' : Stand) → s' ≡ (last_line s).stand → s' ≡ (ended s).stand
unfolding ended over
end_is s s' e = e
