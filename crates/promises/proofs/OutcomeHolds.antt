-- Promise 2: a return answers committed exactly when 01's conditions hold, with the counts of what is staged.
-- Assumes nothing.
use mathlib.Core.Path.{◌≡◌, refl, sym, ap, ◌∙◌}
use mathlib.Core.Bool.{true, false, true≢false}
use mathlib.Core.List.{List, [], ◌∷◌}
use mathlib.Core.Logic.{◌↔◌, ◌⊎◌, inl, inr}
use Prim.Native.Nat.{ℕ, zero, suc, ◌+◌, ◌^◌, ◌≤◌, ◌<◌}
use native.Mathlib.Omega.{arith}
use borrow.Author.Tests.{leb-true, le-leb, lt-leb, ltb-true, ltb-false, le-ltb}
use lib.Dec.{ltb}
use lib.IntN.{ℤ, pos, negsuc}
use lib.ListN.{length, get_or}
use Rattle.le.proofs.TestLaws.{Tested, passes, fails, tested}
use Rattle.manifest.specs.Saying.{modules_said, manifest_of}
use Rattle.weave.specs.declared.Code.TheVariants.{Denied, NotNow, Unsound, NoRoom, Bad, Budget, BadValue}
use Rattle.weave.specs.declared.Spoiled.{Spoiled}
use Rattle.weave.specs.declared.Spoiled.TheVariants.{Not, Overspent, Panicked}
use Rattle.weave.specs.Codes.{is_fine, need, first_by, first, spoiled_code, reason_for, reason_of}
use Rattle.weave.proofs.CodeLaws.{need-test, first-left, first-right}
use Rattle.weave.proofs.SumLaws.{added-sum}
use Rattle.host.specs.declared.Host.{Host}
use Rattle.host.specs.declared.Fate.{Fate}
use Rattle.host.specs.declared.Fate.TheVariants.{Refused, Discarded, Running, Committed}
use Rattle.host.specs.Hosts.{Lent, card_count, index_fine, lent_check, indexed_check}
use Rattle.host.specs.Ending.{return_check, why_not, last_check, fate_of, return_answer}
use Rattle.promises.specs.Box.{World, Return, Said, Answered, Ended, Part, step}
use Rattle.promises.specs.Outcome.{Conditions}
use Rattle.promises.proofs.AcceptedLaws.{lawful}

-- ---- the choice of a fate, over its tests

abbrev pub last_module : Lent → ℕ
last_module l = modules_said (manifest_of l.text)

pub data Fated (l : Lent) (table : List ℕ) (h : Host) (code : ℤ) : Type 0 where
  turned-away : is_fine (return_check l table h) ≡ false → fate_of l table h code ≡ Refused (return_check l table h) → Fated l table h code
  has-reason : is_fine (return_check l table h) ≡ true → is_fine (why_not h code) ≡ false → fate_of l table h code ≡ Discarded (why_not h code) → Fated l table h code
  turns-on : is_fine (return_check l table h) ≡ true → is_fine (why_not h code) ≡ true → h.weave.turn < last_module l → fate_of l table h code ≡ Running → Fated l table h code
  ends-badly : is_fine (return_check l table h) ≡ true → is_fine (why_not h code) ≡ true → last_module l ≤ h.weave.turn → is_fine (last_check l table h) ≡ false
      → fate_of l table h code ≡ Discarded (last_check l table h) → Fated l table h code
  ends-well : is_fine (return_check l table h) ≡ true → is_fine (why_not h code) ≡ true → last_module l ≤ h.weave.turn → is_fine (last_check l table h) ≡ true
      → fate_of l table h code ≡ Committed h.weave.count h.weave.staged → Fated l table h code

pub fated : (l : Lent) (table : List ℕ) (h : Host) (code : ℤ) → Fated l table h code
unfolding fate_of
fated l table h code = go (tested (is_fine (return_check l table h))) (tested (is_fine (why_not h code))) (tested (ltb h.weave.turn (last_module l))) (tested (is_fine (last_check l table h)))
  where
    go : Tested (is_fine (return_check l table h)) → Tested (is_fine (why_not h code)) → Tested (ltb h.weave.turn (last_module l)) → Tested (is_fine (last_check l table h)) → Fated l table h code
    go (fails a) b c d = turned-away a (rw a)
    go (passes a) (fails b) c d = has-reason a b (rw (a, b))
    go (passes a) (passes b) (passes c) d = turns-on a b (ltb-true h.weave.turn (last_module l) c) (rw (a, b, c))
    go (passes a) (passes b) (fails c) (fails d) = ends-badly a b (ltb-false h.weave.turn (last_module l) c) d (rw (a, b, c, d))
    go (passes a) (passes b) (fails c) (passes d) = ends-well a b (ltb-false h.weave.turn (last_module l) c) d (rw (a, b, c, d))

-- a return that is not refused is asked in a weave
pub return-runs : (l : Lent) (table : List ℕ) (h : Host) → is_fine (return_check l table h) ≡ true → h.weave.running ≡ true
unfolding return_check
return-runs l table h f = need-test _ NotNow refl (first-right (indexed_check l table h) (need h.weave.running NotNow) f)

abbrev pub fate_in : Said → Fate
fate_in (Answered c v) = Running
fate_in (Ended f) = f
fate_in (Part bytes) = Running

-- ---- what the tests mean

pub unspoilt : (s : Spoiled) → is_fine (reason_for s) ≡ true → s ≡ Not
unspoilt Not e = refl
unspoilt Overspent e = absurd (true≢false (sym e))
unspoilt Panicked e = absurd (true≢false (sym e))

none-fine : (n : ℕ) → is_fine (get_or (Denied ∷ NotNow ∷ Unsound ∷ NoRoom ∷ Bad ∷ Budget ∷ BadValue ∷ []) n Bad) ≡ false
none-fine zero = refl
none-fine (suc zero) = refl
none-fine (suc (suc zero)) = refl
none-fine (suc (suc (suc zero))) = refl
none-fine (suc (suc (suc (suc zero)))) = refl
none-fine (suc (suc (suc (suc (suc zero))))) = refl
none-fine (suc (suc (suc (suc (suc (suc zero)))))) = refl
none-fine (suc (suc (suc (suc (suc (suc (suc n))))))) = refl

pub good-code : (z : ℤ) → is_fine (reason_of z) ≡ true → (z ≡ pos 0) ⊎ (z ≡ pos 1)
unfolding reason_of
good-code (pos zero) e = inl refl
good-code (pos (suc zero)) e = inr refl
good-code (pos (suc (suc n))) e = absurd (true≢false (sym e ∙ rw (lt-leb (suc (suc n)) 1 (omega arith))))
good-code (negsuc n) e = absurd (true≢false (sym e ∙ none-fine n))

pub code-good : (z : ℤ) → (z ≡ pos 0) ⊎ (z ≡ pos 1) → is_fine (reason_of z) ≡ true
unfolding reason_of
code-good z (inl e) = rw e
code-good z (inr e) = rw e

-- ---- both directions

-- check 1, with the table
pub return-check : (l : Lent) (table : List ℕ) (h : Host) → is_fine (return_check l table h) ≡ true → is_fine (indexed_check l table h) ≡ true
unfolding return_check
return-check l table h f = first-left (indexed_check l table h) (need h.weave.running NotNow) f

module _ (l : Lent) (table : List ℕ) (h : Host) (f : is_fine (indexed_check l table h) ≡ true) where
  pub index-long : index_fine table h ≡ true
  unfolding indexed_check
  index-long = need-test _ Bad refl (first-left _ (lent_check l h) f)

  pub lent-fine : is_fine (lent_check l h) ≡ true
  unfolding indexed_check
  lent-fine = first-right (need (index_fine table h) Bad) (lent_check l h) f

pub indexed-fine : (l : Lent) (table : List ℕ) (h : Host) → index_fine table h ≡ true → is_fine (lent_check l h) ≡ true → is_fine (indexed_check l table h) ≡ true
unfolding indexed_check first_by need
indexed-fine l table h i f = rw (i, f)

module _ (l : Lent) (table : List ℕ) (h : Host) (code : ℤ) where
  ends-conditions : is_fine (return_check l table h) ≡ true → is_fine (why_not h code) ≡ true → last_module l ≤ h.weave.turn → is_fine (last_check l table h) ≡ true → Conditions l table h code
  unfolding return_check why_not last_check
  ends-conditions a b c d =
      let one = lent-fine l table h (return-check l table h a) in
      let two = return-runs l table h a in
      let law = lawful l h one in
      let rooms = first-right (need _ Unsound) (first (need _ NoRoom) (need _ NoRoom)) d in
      record {
        table-long = index-long l table h (return-check l table h a);
        check-1 = one;
        running = two;
        unspoiled = unspoilt h.weave.spoiled.0 (first-left (spoiled_code h.weave.spoiled) (reason_of code) b);
        zero-or-one = good-code code (first-right (spoiled_code h.weave.spoiled) (reason_of code) b);
        last = omega (arith, law.turn-most two);
        sound = rw (added-sum h.next.0 h.weave.count (2 ^ 63) law.numbers) at (need-test _ Unsound refl (first-left (need _ Unsound) (first (need _ NoRoom) (need _ NoRoom)) d));
        fits = leb-true (h.used + h.weave.staged) (length l.card) (need-test _ NoRoom refl (first-left (need _ NoRoom) (need _ NoRoom) rooms));
        entries = leb-true (card_count h + h.weave.count) (length table) (need-test _ NoRoom refl (first-right (need _ NoRoom) (need _ NoRoom) rooms));
      }

  pub conditions : (e k : ℕ) → fate_of l table h code ≡ Committed e k → Conditions l table h code × ((e ≡ h.weave.count) × (k ≡ h.weave.staged))
  conditions e k q = go (fated l table h code)
    where
      go : Fated l table h code → Conditions l table h code × ((e ≡ h.weave.count) × (k ≡ h.weave.staged))
      go (turned-away a p) = let z : ◌≡◌ {A = ℕ} 0 1 = cc in absurd (omega arith)
      go (has-reason a b p) = let z : ◌≡◌ {A = ℕ} 0 1 = cc in absurd (omega arith)
      go (turns-on a b c p) = let z : ◌≡◌ {A = ℕ} 0 1 = cc in absurd (omega arith)
      go (ends-badly a b c d p) = let z : ◌≡◌ {A = ℕ} 0 1 = cc in absurd (omega arith)
      go (ends-well a b c d p) = (ends-conditions a b c d, (cc, cc))

  pub commits : Conditions l table h code → fate_of l table h code ≡ Committed h.weave.count h.weave.staged
  unfolding fate_of return_check why_not last_check first_by need
  commits c =
      let law = lawful l h c.check-1 in
      rw (indexed-fine l table h c.table-long c.check-1, c.running, c.unspoiled, code-good code c.zero-or-one, le-ltb h.weave.turn (modules_said (manifest_of l.text)) (omega (arith, c.last)), added-sum h.next.0 h.weave.count (2 ^ 63) law.numbers, c.sound, le-leb (h.used + h.weave.staged) (length l.card) c.fits, le-leb (card_count h + h.weave.count) (length table) c.entries)

-- THE PROMISE: committed, with these counts, exactly when 01's conditions hold and these are the counts of what is staged
pub committed-exactly : (w : World) (code : ℤ) (events bytes : ℕ)
    → ((step w (Return code)).said ≡ Ended (Committed events bytes))
    ↔ (Conditions w.lent w.index w.host code × ((events ≡ w.host.weave.count) × (bytes ≡ w.host.weave.staged)))
unfolding step return_answer
committed-exactly w code events bytes = (
  λ q. conditions w.lent w.index w.host code events bytes (ap fate_in q),
  λ c. ap Ended (commits w.lent w.index w.host code c.0 ∙ rw (c.1.0, c.1.1)),
)
