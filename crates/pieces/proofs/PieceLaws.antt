-- Input in pieces: whatever the pieces are, they do what all of them do in one.
-- Assumes nothing.
use mathlib.Core.Path.{◌≡◌, refl, ap, sym, ◌∙◌}
use mathlib.Core.Bool.{Bool, true, false, cond}
use mathlib.Core.List.{List, [], ◌∷◌, ◌++◌, append_assoc, append-nil}
use Prim.Native.Nat.{ℕ, zero, suc, ◌+◌, ◌-◌}
use native.Mathlib.Nat.{sub-zero, zero-sub, suc-sub-suc}
use native.Mathlib.Omega.{arith}
use lib.Dec.{leb, ltb, eqb}
use lib.ListN.{length, take, drop, length-append}
use lib.Seq.{take_all, take-nil, length-take-le}
use borrow.Author.Tests.{le-ltb, lt-ltb, leb-true, leb-false, ltb-true, ltb-false}
use Rattle.le.proofs.TestLaws.{Tested, tested, passes, fails}
use Rattle.text.specs.Lines.{before}
use Rattle.card.proofs.RecordsLaws.{joined}
use Rattle.pieces.specs.Feeding.{Stand, stand_as, Heard, quiet, followed, holding, closed, fed, fed_all, one_line, Read, ReadAll}

pub followed-assoc : (a b d : Heard) → followed a (followed b d) ≡ followed (followed a b) d
followed-assoc a b d = ap (λ (l : List ℕ). record { stand = d.stand; said = l }) (sym (append_assoc a.said b.said d.said))

-- feeding p and then q is feeding p ++ q
pub fed-append : (s : Stand) (p q : List ℕ) → fed s (p ++ q) ≡ followed (fed s p) (fed (fed s p).stand q)
unfolding fed
fed-append s [] q = refl
fed-append s (b ∷ bs) q = go (eqb b 10) (fed-append (closed s).stand bs q) (fed-append (holding s (b ∷ [])) bs q)
  where
    yes : Heard
    yes = followed (closed s) (fed (closed s).stand bs)

    no : Heard
    no = fed (holding s (b ∷ [])) bs

    go : (t : Bool) → fed (closed s).stand (bs ++ q) ≡ followed (fed (closed s).stand bs) (fed (fed (closed s).stand bs).stand q)
        → fed (holding s (b ∷ [])) (bs ++ q) ≡ followed (fed (holding s (b ∷ [])) bs) (fed (fed (holding s (b ∷ [])) bs).stand q)
        → cond t (followed (closed s) (fed (closed s).stand (bs ++ q))) (fed (holding s (b ∷ [])) (bs ++ q))
        ≡ followed (cond t yes no) (fed (cond t yes no).stand q)
    go true h k = ap (followed (closed s)) h ∙ followed-assoc (closed s) (fed (closed s).stand bs) (fed (fed (closed s).stand bs).stand q)
    go false h k = k

-- so any pieces, one by one, do what their bytes do
pub pieces-joined : (s : Stand) (ps : List (List ℕ)) → fed_all s ps ≡ fed s (joined ps)
unfolding fed_all fed
pieces-joined s [] = refl
pieces-joined s (p ∷ ps) = ap (followed (fed s p)) (pieces-joined (fed s p).stand ps) ∙ sym (fed-append s p (joined ps))

-- one piece more
pub pieces_more : (s : Stand) (ps : List (List ℕ)) (p : List ℕ) → (fed_all s (ps ++ (p ∷ []))).stand ≡ (fed (fed_all s ps).stand p).stand
unfolding fed_all
pieces_more s [] p = refl
pieces_more s (q ∷ ps) p = pieces_more (fed s q).stand ps p

pub read_none : (s : Stand) → ReadAll s s
unfolding fed_all
read_none s = record { pieces = []; stand = refl }

pub read_more : (s s₁ s₂ : Stand) (t : Bool) → ReadAll s s₁ → Read s₁ s₂ t → ReadAll s s₂
read_more s s₁ s₂ t r m =
    record {
      pieces = r.pieces ++ (m.piece ∷ []);
      stand = m.stand ∙ ap (λ (x : Stand). (fed x m.piece).stand) r.stand ∙ sym (pieces_more s r.pieces m.piece);
    }

-- ---- bytes held

pub holding-none : (s : Stand) → holding s [] ≡ s
unfolding holding
holding-none s = ap (λ (l : List ℕ). stand_as s.session s.many s.named l s.buffers) (rw take-nil (append-nil s.held))

take-two : (n : ℕ) (a l : List ℕ) → take n (a ++ l) ≡ take n a ++ take (n - length a) l
take-two n [] l = rw (take-nil {A = ℕ} n, sub-zero n)
take-two zero (x ∷ a) l = rw (zero-sub (suc (length a)))
take-two (suc n) (x ∷ a) l = rw suc-sub-suc (ap (λ (r : List ℕ). x ∷ r) (take-two n a l))

room : (h a : List ℕ) → 65536 - length (h ++ take (65536 - length h) a) ≡ (65536 - length h) - length a
room h a = rw (length-append h (take (65536 - length h) a)) (go (tested (leb (length a) (65536 - length h))))
  where
    go : Tested (leb (length a) (65536 - length h)) → 65536 - (length h + length (take (65536 - length h) a)) ≡ (65536 - length h) - length a
    go (passes e) = rw (take_all (65536 - length h) a (leb-true _ _ e)) (omega arith)
    go (fails e) = rw (length-take-le (65536 - length h) a (omega (arith, leb-false (length a) (65536 - length h) e))) (omega (arith, leb-false (length a) (65536 - length h) e))

pub holding-then : (s : Stand) (a l : List ℕ) → holding (holding s a) l ≡ holding s (a ++ l)
unfolding holding
holding-then s a l =
    ap (λ (r : List ℕ). stand_as s.session s.many s.named r s.buffers)
    (append_assoc s.held (take (65536 - length s.held) a) _
    ∙ ap (λ (r : List ℕ). s.held ++ r) (rw (room s.held a) (sym (take-two (65536 - length s.held) a l))))

-- ---- the line at the head

ltb-suc : (k n : ℕ) → ltb (suc k) (suc n) ≡ ltb k n
ltb-suc k n = go (tested (ltb k n))
  where
    go : Tested (ltb k n) → ltb (suc k) (suc n) ≡ ltb k n
    go (passes e) = lt-ltb (suc k) (suc n) (omega (arith, ltb-true k n e)) ∙ sym e
    go (fails e) = le-ltb (suc k) (suc n) (omega (arith, ltb-false k n e)) ∙ sym e

line-cons : (s : Stand) (b : ℕ) (bs : List ℕ) → eqb b 10 ≡ false → one_line (holding s (b ∷ [])) bs ≡ one_line s (b ∷ bs)
unfolding one_line before
line-cons s b bs e = rw (e, ltb-suc (length (before 10 bs)) (length bs), holding-then s (b ∷ []) (before 10 bs))

before-cons : (b : ℕ) (bs : List ℕ) → eqb b 10 ≡ false → length (before 10 (b ∷ bs)) ≡ suc (length (before 10 bs))
unfolding before
before-cons b bs e = rw e

line-none : (s : Stand) → one_line s [] ≡ quiet s
unfolding one_line before
line-none s = rw (holding-none s)

line-closed : (s : Stand) (b : ℕ) (bs : List ℕ) → eqb b 10 ≡ true → one_line s (b ∷ bs) ≡ closed s
unfolding one_line before
line-closed s b bs e = rw (e, lt-ltb 0 (suc (length bs)) (omega arith), holding-none s)

before-closed : (b : ℕ) (bs : List ℕ) → eqb b 10 ≡ true → length (before 10 (b ∷ bs)) ≡ 0
unfolding before
before-closed b bs e = rw e

-- the input is its first line, then the rest
pub fed-line : (s : Stand) (x : List ℕ) → fed s x ≡ followed (one_line s x) (fed (one_line s x).stand (drop (suc (length (before 10 x))) x))
unfolding fed
fed-line s [] = rw (line-none s)
fed-line s (b ∷ bs) = go (tested (eqb b 10)) (fed-line (holding s (b ∷ [])) bs)
  where
    go : Tested (eqb b 10)
        → fed (holding s (b ∷ [])) bs ≡ followed (one_line (holding s (b ∷ [])) bs) (fed (one_line (holding s (b ∷ [])) bs).stand (drop (suc (length (before 10 bs))) bs))
        → cond (eqb b 10) (followed (closed s) (fed (closed s).stand bs)) (fed (holding s (b ∷ [])) bs)
        ≡ followed (one_line s (b ∷ bs)) (fed (one_line s (b ∷ bs)).stand (drop (length (before 10 (b ∷ bs))) bs))
    go (passes e) h = rw (line-closed s b bs e, before-closed b bs e, e)
    go (fails e) h = rw (e, before-cons b bs e, ← line-cons s b bs e) h
