-- What an operation that is not refused is known to have: all that its checks ask.
-- Assumes nothing.
use mathlib.Core.Path.{◌≡◌, refl, sym, ap, ◌∙◌}
use mathlib.Core.Bool.{Bool, true, false, not, ◌&&◌, ◌||◌, cond, true≢false}
use Prim.Native.Nat.{ℕ, ◌≤◌}
use native.Mathlib.Omega.{arith}
use borrow.Author.Tests.{leb-true, le-leb, eqb-true, eq-eqb}
use lib.Dec.{leb}
use Rattle.le.proofs.TestLaws.{and_left, and_right, and_both}
use Rattle.manifest.specs.Saying.{modules_said, manifest_of}
use Rattle.manifest.proofs.SayingLaws.{sized}
use Rattle.weave.specs.declared.Code.{Code}
use Rattle.weave.specs.declared.Code.TheVariants.{Fine, Bad}
use Rattle.weave.specs.declared.Finding.{Finding}
use Rattle.weave.specs.Codes.{is_fine, need}
use Rattle.weave.specs.Findings.{is_clear}
use Rattle.weave.specs.Checks.{same_lengths, numbers_fine, turn_fine, lent_fine}
use Rattle.weave.proofs.CodeLaws.{need-test}
use Rattle.host.specs.declared.Host.{Host}
use Rattle.host.specs.Hosts.{Lent, lengths_of, lent_check, turned_away, settle}
use Rattle.promises.specs.Accepted.{Lawful}

-- ---- check 1, both ways

-- where a holds, b does
pub or_right : (a b : Bool) → not a || b ≡ true → a ≡ true → b ≡ true
or_right true b e q = e
or_right false b e q = absurd (true≢false (sym q))

pub or-if : (a b : Bool) → (a ≡ true → b ≡ true) → not a || b ≡ true
or-if true b f = f refl
or-if false b f = refl

pub lawful : (l : Lent) (h : Host) → is_fine (lent_check l h) ≡ true → Lawful l h
unfolding lent_check lent_fine lengths_of same_lengths numbers_fine turn_fine
lawful l h e =
    let all = need-test _ Bad refl e in
    let turn = h.weave.turn in
    let most = modules_said (manifest_of l.text) in
    let t : not h.weave.running || (leb 1 turn && leb turn most) ≡ true = search (and_left, and_right) in
    let low : h.weave.running ≡ true → 1 ≤ turn = λ r. leb-true 1 turn (and_left (leb 1 turn) _ (or_right h.weave.running _ t r)) in
    let high : h.weave.running ≡ true → turn ≤ most = λ r. leb-true turn most (and_right (leb 1 turn) _ (or_right h.weave.running _ t r)) in
    search (and_left, and_right, leb-true, eqb-true)

fine-need : (t : Bool) (c : Code) → t ≡ true → is_fine (need t c) ≡ true
unfolding need
fine-need t c e = rw e

pub fine-lawful : (l : Lent) (h : Host) → Lawful l h → is_fine (lent_check l h) ≡ true
unfolding lent_check lent_fine lengths_of same_lengths numbers_fine turn_fine
fine-lawful l h a =
    let turn = h.weave.turn in
    let most = modules_said (manifest_of l.text) in
    let t : not h.weave.running || (leb 1 turn && leb turn most) ≡ true =
    or-if h.weave.running _ (λ r. and_both (leb 1 turn) (leb turn most) (le-leb 1 turn (a.turn-least r)) (le-leb turn most (a.turn-most r))) in
    fine-need _ Bad (search (and_both, eq-eqb, le-leb) depth 12)

-- "Modules 1 to 16"
pub turn-16 : (l : Lent) (h : Host) → Lawful l h → h.weave.running ≡ true → h.weave.turn ≤ 16
turn-16 l h a r = omega (arith, a.turn-most r, (sized l.text).most)

-- ---- what was not refused was found no fault with

pub settle-ok : (h : Host) (f : Finding) (v : ℕ) (next : Host) → not (is_fine (settle h f v next).code) ≡ false → is_clear f ≡ true
unfolding settle turned_away
settle-ok h f v next e = go (is_clear f) refl e
  where
    go : (t : Bool) → is_clear f ≡ t → not (is_fine (cond t (record { code = Fine; value = v; field = 0; host = next }) (turned_away h f)).code) ≡ false → is_clear f ≡ true
    go true q e = q
    go false q e = absurd (true≢false (sym (ap not q) ∙ e))
