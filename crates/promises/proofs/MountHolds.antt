-- Mount: its code by the first check that fails, the offset, and the state; and what a mount that is not refused has.
-- Assumes nothing.
use mathlib.Core.Path.{◌≡◌, refl, sym, ap, ◌∙◌}
use mathlib.Core.Bool.{Bool, true, false, ◌&&◌, true≢false}
use mathlib.Core.List.{List}
use Prim.Native.Nat.{ℕ, ◌+◌, ◌≤◌}
use native.Mathlib.Omega.{arith}
use borrow.Author.Tests.{leb-true, eqb-true}
use lib.Dec.{leb, eqb}
use lib.ListN.{length, take}
use lib.Seq.{length-take-le}
use Rattle.le.proofs.TestLaws.{and_right, Tested, passes, fails, tested}
use Rattle.manifest.specs.Saying.{is_good, manifest_of}
use Rattle.card.specs.Records.{size}
use Rattle.card.specs.Walk.{chain}
use Rattle.weave.specs.declared.Code.TheVariants.{Fine, Unsound, Bad}
use Rattle.weave.specs.Codes.{is_fine, need}
use Rattle.weave.specs.States.{fresh_weave}
use Rattle.host.specs.declared.Mounted.{Mounted}
use Rattle.host.specs.Hosts.{Lent, lengths_of, fresh_host, no_host, card_count}
use Rattle.mounts.specs.Mount.{sizes_fine, mount_check, mounted_with, mounted_by, mounted}
use Rattle.promises.specs.Box.{records_on, mounted_as}
use Rattle.promises.specs.Checks.{failing}
use Rattle.promises.specs.Mounting.{mount_checks, StateOf, no_lengths}
use Rattle.promises.proofs.CheckLaws.{all-passed}
use Rattle.promises.proofs.ChecksHold.{fine-is}

pub record Mounts (l : Lent) (table : List ℕ) (used : ℕ) : Type 0 where
  pub code : (mounted l table used).code ≡ failing (mount_checks l table used)
  pub zero : is_fine (mounted l table used).code ≡ false → StateOf (mounted l table used).host no_lengths 0 0 0
  pub offset : (mounted l table used).code ≡ Unsound → (mounted l table used).at ≡ size (records_on l.card used)
  pub fresh : (mounted l table used).code ≡ Fine → StateOf (mounted l table used).host (lengths_of l) (length table) used (1 + length (records_on l.card used))

module _ (l : Lent) (table : List ℕ) (used : ℕ) where
  no-state : StateOf no_host no_lengths 0 0 0
  unfolding no_host fresh_host
  no-state = record { lengths = refl; index = refl; used = refl; next = refl; healthy = refl; weave = refl }

  bad : mounted l table used ≡ record { code = Bad; at = 0; host = no_host } → failing (mount_checks l table used) ≡ Bad → Mounts l table used
  bad q f = record {
    code = ap (λ (m : Mounted). m.code) q ∙ sym f;
    zero = λ e. rw q no-state;
    offset = λ e. let z : ◌≡◌ {A = ℕ} 0 1 = cc in absurd (omega arith);
    fresh = λ e. let z : ◌≡◌ {A = ℕ} 0 1 = cc in absurd (omega arith);
  }

  broken : (at : ℕ) → mounted l table used ≡ record { code = Unsound; at = at; host = no_host } → at ≡ size (records_on l.card used) → failing (mount_checks l table used) ≡ Unsound → Mounts l table used
  broken at q s f = record {
    code = ap (λ (m : Mounted). m.code) q ∙ sym f;
    zero = λ e. rw q no-state;
    offset = λ e. rw q s;
    fresh = λ e. let z : ◌≡◌ {A = ℕ} 0 1 = cc in absurd (omega arith);
  }

  whole : mounted l table used ≡ record { code = Fine; at = 0; host = fresh_host (lengths_of l) (length table) used (1 + length (records_on l.card used)) } → failing (mount_checks l table used) ≡ Fine → Mounts l table used
  unfolding fresh_host
  whole q f = record {
    code = ap (λ (m : Mounted). m.code) q ∙ sym f;
    zero = λ e. absurd (true≢false (sym (ap (λ (m : Mounted). is_fine m.code) q) ∙ e));
    offset = λ e. let z : ◌≡◌ {A = ℕ} 0 1 = cc in absurd (omega arith);
    fresh = λ e. rw q (record { lengths = refl; index = refl; used = refl; next = refl; healthy = refl; weave = refl });
  }

  -- as many records as there are numbers below the next
  count : card_count (fresh_host (lengths_of l) (length table) used (1 + length (records_on l.card used))) ≡ length (records_on l.card used)
  unfolding fresh_host
  count = omega arith

  -- THE PROMISE
  pub mounts : Mounts l table used
  unfolding mounted mount_check sizes_fine lengths_of need mounted_by mounted_with chain
  mounts =
      go (tested (leb 65536 (length l.staging) && (leb (length l.staging) 1048576 && leb (length l.card) 16777216))) (tested (leb used (length l.card)))
      (tested (is_good (manifest_of l.text))) (tested (eqb (size (records_on l.card used)) used)) (tested (leb (length (records_on l.card used)) (length table)))
    where
      go : Tested (leb 65536 (length l.staging) && (leb (length l.staging) 1048576 && leb (length l.card) 16777216)) → Tested (leb used (length l.card))
          → Tested (is_good (manifest_of l.text)) → Tested (eqb (size (records_on l.card used)) used) → Tested (leb (length (records_on l.card used)) (length table)) → Mounts l table used
      go (fails a) b c d e = bad (rw a) (rw a)
      go (passes a) (fails b) c d e = bad (rw (a, b)) (rw (a, b))
      go (passes a) (passes b) (fails c) d e = bad (rw (a, b, c)) (rw (a, b, c))
      go (passes a) (passes b) (passes c) (fails d) e =
          let long : length (take used l.card) ≡ used = length-take-le used l.card (leb-true used (length l.card) b) in
          broken _ (rw (a, b, c, long, d)) refl (rw (a, b, c, d))
      go (passes a) (passes b) (passes c) (passes d) (fails e) =
          let long : length (take used l.card) ≡ used = length-take-le used l.card (leb-true used (length l.card) b) in
          bad (rw (a, b, c, long, d, count, e)) (rw (a, b, c, d, e))
      go (passes a) (passes b) (passes c) (passes d) (passes e) =
          let long : length (take used l.card) ≡ used = length-take-le used l.card (leb-true used (length l.card) b) in
          whole (rw (a, b, c, long, d, count, e)) (rw (a, b, c, d, e))

-- ---- a mount that is not refused

pub record MountFine (l : Lent) (table : List ℕ) (used : ℕ) : Type 0 where
  pub card-most : length l.card ≤ 16777216
  pub on-card : used ≤ length l.card
  pub good : is_good (manifest_of l.text) ≡ true
  pub sound : size (records_on l.card used) ≡ length (take used l.card)
  pub entries : length (records_on l.card used) ≤ length table
  pub state : StateOf (mounted l table used).host (lengths_of l) (length table) used (1 + length (records_on l.card used))

pub mount-fine : (l : Lent) (table : List ℕ) (used : ℕ) → (mounted l table used).code ≡ Fine → MountFine l table used
mount-fine l table used e =
    let p = all-passed (mount_checks l table used) refl (ap is_fine (sym (mounts l table used).code ∙ e)) in
    let sizes = and_right (leb 65536 (length l.staging)) _ p.0 in
    let there = leb-true used (length l.card) p.1.0 in
    record {
      card-most = leb-true (length l.card) 16777216 (and_right (leb (length l.staging) 1048576) _ sizes);
      on-card = there;
      good = p.1.1.0;
      sound = eqb-true (size (records_on l.card used)) used p.1.1.1.0 ∙ sym (length-take-le used l.card there);
      entries = leb-true (length (records_on l.card used)) (length table) p.1.1.1.1.0;
      state = (mounts l table used).fresh e;
    }

-- refused or not, no weave is running and the process is healthy
mount-rests : (l : Lent) (table : List ℕ) (used : ℕ) → ((mounted_as l table used).host.weave ≡ fresh_weave) × ((mounted_as l table used).host.faulted ≡ false)
mount-rests l table used = go (is_fine (mounted l table used).code) refl
  where
    go : (t : Bool) → is_fine (mounted l table used).code ≡ t → ((mounted_as l table used).host.weave ≡ fresh_weave) × ((mounted_as l table used).host.faulted ≡ false)
    go true q = let s = (mounts l table used).fresh (fine-is (mounted l table used).code q) in (s.weave, s.healthy)
    go false q = let s = (mounts l table used).zero q in (s.weave, s.healthy)

pub mount-fresh : (l : Lent) (table : List ℕ) (used : ℕ) → (mounted_as l table used).host.weave ≡ fresh_weave
mount-fresh l table used = (mount-rests l table used).0

pub mount-healthy : (l : Lent) (table : List ℕ) (used : ℕ) → (mounted_as l table used).host.faulted ≡ false
mount-healthy l table used = (mount-rests l table used).1
