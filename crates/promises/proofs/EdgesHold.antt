-- Every case of the table holds: one test that antt computes over the whole table, and one law that turns it into the cases.
-- Assumes nothing.
use mathlib.Core.Path.{◌≡◌, refl, sym, ap, subst, ◌∙◌}
use mathlib.Core.Bool.{Bool, true, false, not, ◌&&◌, ◌||◌, cond, beq}
use mathlib.Core.List.{List, [], ◌∷◌}
use Prim.Native.Nat.{ℕ, zero, suc, ◌-◌, ◌≤◌, ◌<◌}
use native.Mathlib.Omega.{arith}
use native.Mathlib.Nat.{not-suc-le-zero, le_of_suc-le-suc}
use borrow.Author.Tests.{leb-true}
use lib.IntN.{ℤ, pos, negsuc}
use lib.Dec.{T, leb, eqb, eqb→eq}
use Rattle.card.specs.Records.{size}
use Rattle.card.specs.Look.{AtEnd, Full, Look, stopped, with}
use lib.ListN.{length, get_or}
use Rattle.le.specs.Le.{le_at, le_bytes}
use Rattle.le.specs.Splice.{part}
use Rattle.le.proofs.TestLaws.{Tested, passes, fails, tested}
use Rattle.text.specs.Utf8.{after, utf8_from, utf8}
use Rattle.text.specs.Topic.{good_topic, good_filter, card_topic, good_text, no_control}
use Rattle.text.specs.Span.{inside}
use Rattle.text.specs.Sizes.{total_len}
use Rattle.text.specs.Flags.{good_flags}
use Rattle.text.proofs.Table.{left, right, same_answer}
use Rattle.value.specs.Cells.{cell_at, cell_bytes}
use Rattle.value.specs.Scalars.{canonical}
use Rattle.value.specs.Values.{decoded, text_fault, value_fault}
use Rattle.value.specs.Forms.{form_of, payload}
use Rattle.manifest.specs.Charge.{charge_by}
use Rattle.weave.specs.declared.Code.{Code}
use Rattle.weave.specs.declared.Code.TheVariants.{Fine, Denied, NotNow, Unsound, NoRoom, Bad, Budget, BadValue}
use Rattle.weave.specs.declared.Spoiled.TheVariants.{Not}
use Rattle.weave.specs.Codes.{is_fine, first_by, need, reason_of, number}
use Rattle.host.specs.declared.Fate.TheVariants.{Discarded}
use Rattle.host.specs.Ending.{return_check, why_not, fate_of, return_answer}
use Rattle.promises.specs.Box.{World, Return, Ended, step}
use Rattle.promises.specs.Outcome.{Returns}
use Rattle.promises.specs.Edges.{Case, total, stored, flags, span, float, topic, filter, kept, text, window, two_left, returned, costs, Holds, edges}
use Rattle.promises.specs.Checks.{next_looks}
use Rattle.promises.proofs.NextHolds.{look_says, next-says, two-left, window-none, limit-none}
use Rattle.promises.proofs.OutcomeHolds.{indexed-fine}

-- ---- answers that are found the same are equal

same_number : ℤ → ℤ → Bool
same_number (pos n) (pos m) = eqb n m
same_number (pos n) (negsuc m) = false
same_number (negsuc n) (pos m) = false
same_number (negsuc n) (negsuc m) = eqb n m

same_number_lem : (x y : ℤ) → T (same_number x y) → x ≡ y
unfolding same_number
same_number_lem (pos n) (pos m) t = ap pos (eqb→eq n m t)
same_number_lem (pos n) (negsuc m) t = absurd t
same_number_lem (negsuc n) (pos m) t = absurd t
same_number_lem (negsuc n) (negsuc m) t = ap negsuc (eqb→eq n m t)

-- a code's place in the paper's table
place : Code → ℕ
place Fine = 0
place Denied = 1
place NotNow = 2
place Unsound = 3
place NoRoom = 4
place Bad = 5
place Budget = 6
place BadValue = 7

at : ℕ → Code
at k = get_or (Fine ∷ Denied ∷ NotNow ∷ Unsound ∷ NoRoom ∷ Bad ∷ Budget ∷ BadValue ∷ []) k Fine

at_place : (c : Code) → at (place c) ≡ c
unfolding at place
at_place Fine = refl
at_place Denied = refl
at_place NotNow = refl
at_place Unsound = refl
at_place NoRoom = refl
at_place Bad = refl
at_place Budget = refl
at_place BadValue = refl

same_code : Code → Code → Bool
same_code c d = eqb (place c) (place d)

same_code_lem : (c d : Code) → T (same_code c d) → c ≡ d
unfolding same_code
same_code_lem c d t = sym (at_place c) ∙ ap at (eqb→eq (place c) (place d) t) ∙ at_place d

-- ---- the table

untrue : (b : Bool) → T (not b) → b ≡ false
untrue true t = absurd t
untrue false t = refl

-- a return whose code is a reason discards with it
discards : (w : World) (code : ℤ) (c : Code) → Returns w → w.host.weave.spoiled.0 ≡ Not → reason_of code ≡ c → is_fine c ≡ false
    → (step w (Return code)).said ≡ Ended (Discarded c)
unfolding step return_answer fate_of return_check why_not first_by need
discards w code c r u e n = rw (indexed-fine w.lent w.index w.host r.table-long r.check-1, r.running, u, e, n)

-- a next into k bytes where two records of 152 are left
two_says : ℕ → ℤ
two_says k = cond (leb 152 k) (cond (leb 152 (k - 152)) (pos 304) (pos 152)) (number NoRoom)

two-says : (k : ℕ) → Holds (two_left k (two_says k))
unfolding two_says
two-says k w m a r s ready x c e p q = next-says w m a 304 ready (rw is (small (leb 152 k) (leb 152 (k - 152)))) ∙ rw is (go (leb 152 k) (leb 152 (k - 152)))
  where
    is : next_looks w m a ≡ cond (leb 152 k) (with r (cond (leb 152 (k - 152)) (with s (stopped AtEnd)) (stopped Full))) (stopped Full)
    is = two-left w m a x r s k c e p q

    both : Bool → Bool → Look
    both t u = cond t (with r (cond u (with s (stopped AtEnd)) (stopped Full))) (stopped Full)

    small : (t u : Bool) → size (both t u).part ≤ 304
    small true true = omega (arith, p, q)
    small true false = omega (arith, p)
    small false u = omega arith

    go : (t u : Bool) → look_says (both t u).stop (size (both t u).part) ≡ cond t (cond u (pos 304) (pos 152)) (number NoRoom)
    go true true = rw (p, q)
    go true false = rw p
    go false u = refl

-- a window that is empty, or no limit: nothing is looked at
none-says : (from to limit : ℕ) → T (leb to from || eqb limit 0) → Holds (window from to limit (pos 0))
none-says from to limit t w m a ready f g e = next-says w m a 0 ready (rw empty (omega arith)) ∙ rw empty
  where
    empty : next_looks w m a ≡ stopped AtEnd
    empty = go (tested (leb to from))
      where
        go : Tested (leb to from) → next_looks w m a ≡ stopped AtEnd
        go (passes q) = window-none w m a (rw (f, g) (leb-true to from q))
        go (fails q) = limit-none w m a (e ∙ eqb→eq limit 0 (rw q at t))

test : Case → Bool
test (total t d n) = eqb (total_len t d) n
test (stored m p n) = eqb (length (payload m p)) n
test (flags f b) = beq (good_flags f) b
test (span ptr len m b) = beq (inside ptr len m) b
test (float x n) = eqb (canonical x) n
test (topic s b) = beq (good_topic s) b
test (filter s b) = beq (good_filter s) b
test (kept s b) = beq (card_topic s) b
test (text s b) = beq (utf8 s) b
test (window from to limit z) = (leb to from || eqb limit 0) && same_number (pos 0) z
test (two_left k z) = same_number (two_says k) z
test (costs c t n) = eqb (charge_by c t) n
test (returned code c) = not (is_fine c) && same_code (reason_of code) c

met : (c : Case) → T (test c) → Holds c
unfolding test
met (total t d n) p = eqb→eq (total_len t d) n p
met (stored m a n) p = eqb→eq (length (payload m a)) n p
met (flags f b) p = same_answer (good_flags f) b p
met (span ptr len m b) p = same_answer (inside ptr len m) b p
met (float x n) p = eqb→eq (canonical x) n p
met (topic s b) p = same_answer (good_topic s) b p
met (filter s b) p = same_answer (good_filter s) b p
met (kept s b) p = same_answer (card_topic s) b p
met (text s b) p = same_answer (utf8 s) b p
met (window from to limit z) p =
    subst (λ (x : ℤ). Holds (window from to limit x)) (same_number_lem (pos 0) z (right (leb to from || eqb limit 0) (same_number (pos 0) z) p))
    (none-says from to limit (left (leb to from || eqb limit 0) (same_number (pos 0) z) p))
met (two_left k z) p = subst (λ (x : ℤ). Holds (two_left k x)) (same_number_lem (two_says k) z p) (two-says k)
met (costs c t n) p = eqb→eq (charge_by c t) n p
met (returned code c) p = λ w f u. discards w code c f u (same_code_lem (reason_of code) c (right (not (is_fine c)) (same_code (reason_of code) c) p)) (untrue (is_fine c) (left (not (is_fine c)) (same_code (reason_of code) c) p))

every : List Case → Bool
every [] = true
every (c ∷ cs) = test c && every cs

from : (cs : List Case) → T (every cs) → (k : ℕ) → k < length cs → (d : Case) → Holds (get_or cs k d)
unfolding every
from [] t k h d = absurd (not-suc-le-zero h)
from (c ∷ cs) t zero h d = met c (left (test c) (every cs) t)
from (c ∷ cs) t (suc k) h d = from cs (right (test c) (every cs) t) k (le_of_suc-le-suc h) d

-- the one claim: each case of the table holds
pub edges-hold : (k : ℕ) → k < length edges → (d : Case) → Holds (get_or edges k d)
unfolding edges every test after utf8_from utf8 good_text no_control good_flags inside canonical le_at le_bytes part cell_at cell_bytes decoded text_fault value_fault form_of payload same_number two_says same_code place reason_of charge_by
edges-hold k h d = from edges tt k h d
