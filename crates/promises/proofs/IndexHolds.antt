-- 02, A9: over the whole life of a box whose mount was not refused the card is sound and its table fits it. No call changes that, and nothing is asked of what modules write.
-- Assumes nothing.
use mathlib.Core.Path.{◌≡◌, refl, ap, subst, ◌∙◌}
use mathlib.Core.Bool.{Bool, true, false}
use mathlib.Core.List.{List, [], ◌∷◌}
use Prim.Native.Nat.{ℕ, ◌+◌}
use native.Mathlib.Omega.{arith}
use borrow.Author.Tests.{eqb-true, eq-eqb}
use lib.ListN.{length, take, length-take}
use lib.Seq.{length-take-le}
use Rattle.le.proofs.SpliceLaws.{length-splice}
use Rattle.card.specs.Index.{entered}
use Rattle.card.proofs.IndexLaws.{entered-fits, mount-fits}
use Rattle.card.proofs.WalkLaws.{to-count, to-chain}
use Rattle.weave.specs.declared.Code.TheVariants.{Fine}
use Rattle.weave.specs.Codes.{is_fine}
use Rattle.host.specs.Hosts.{Lent, first_id, card_count, index_fine}
use Rattle.mounts.specs.Mount.{mounted, entered_bytes, mount_index}
use Rattle.promises.specs.Box.{World, IndexFits, Indexed, records_on, Op, Open, Answered, step, is_refused, mounted_under, mounted_as, run}
use Rattle.promises.specs.Outcome.{SameCard, says_committed, Appended}
use Rattle.promises.specs.Turn.{InTurn}
use Rattle.promises.proofs.AcceptedLaws.{lawful}
use Rattle.promises.proofs.AcceptedHolds.{open-exactly}
use Rattle.promises.proofs.ChecksHold.{fine-is}
use Rattle.promises.proofs.MountHolds.{mounts, mount-fine}
use Rattle.promises.proofs.MovesHold.{commits-by}
use Rattle.promises.proofs.CardHolds.{Held, only-commit, said-appends, appended-part, appended-records}

-- what every call keeps
pub record Kept (w : World) : Type 0 where
  pub indexed : Indexed w
  pub long : index_fine w.index w.host ≡ true

-- ---- a call that does not commit

pub same-indexed : (was is : World) → SameCard was is → Indexed was → Indexed is
same-indexed was is s i = record { small = rw s.card i.small; sound = rw (s.card, s.used, s.next) i.sound; fits = rw (s.card, s.used, s.index) i.fits }

same_kept : (was is : World) → SameCard was is → Kept was → Kept is
unfolding index_fine
same_kept was is s k = record {
  indexed = same-indexed was is s k.indexed;
  long = rw (s.index, s.index-long) k.long;
}

-- within a turn nothing commits
pub turn-indexed : (w : World) (o : Op) → InTurn o → Indexed w → Indexed (step w o).world
turn-indexed w o i x = go (says_committed (step w o).said) refl
  where
    go : (b : Bool) → says_committed (step w o).said ≡ b → Indexed (step w o).world
    go true e = let by = commits-by w o e in absurd (subst InTurn by.1 i)
    go false e = same-indexed w (step w o).world (only-commit w o e) x

-- ---- a commit

module _ (was is : World) (a : Appended was is) (held : Held was) where
  new-fits : Indexed was → IndexFits is
  new-fits x =
      let c = held.1 in
      let law = lawful was.lent was.host c.check-1 in
      let used = take was.host.used was.lent.card in
      let new = take was.host.weave.staged was.lent.staging in
      let next = was.host.next.0 in
      let long = length-take-le was.host.used was.lent.card law.used in
      let count = to-count new next (next + was.host.weave.count) c.sound in
      rw (appended-part was is a, a.entries)
      (rw long at
      (entered-fits was.index used new (first_id was.host) next (next + was.host.weave.count) x.fits x.sound c.sound
      (omega (arith, c.entries, count)) (omega (arith, long, c.fits, x.small, length-take was.host.weave.staged was.lent.staging))))

  pub appended-indexed : Indexed was → Indexed is
  appended-indexed x = record {
    small = omega (arith, a.others.long, x.small);
    sound = (appended-records was is a x.sound held.1.sound).0;
    fits = new-fits x;
  }

  appended-kept : Kept was → Kept is
  unfolding index_fine entered
  appended-kept k = record {
    indexed = appended-indexed k.indexed;
    long = rw (a.entries, a.index-long) (eq-eqb _ was.host.index (length-splice was.index (card_count was.host) _ ∙ eqb-true _ was.host.index k.long));
  }

-- ---- any calls

pub step_kept : (w : World) (o : Op) → Kept w → Kept (step w o).world
step_kept w o k = go (says_committed (step w o).said) refl
  where
    go : (b : Bool) → says_committed (step w o).said ≡ b → Kept (step w o).world
    go true e = let s = said-appends w o e in appended-kept w (step w o).world s.0 s.1 k
    go false e = same_kept w (step w o).world (only-commit w o e) k

pub run-kept : (os : List Op) (w : World) → Kept w → Kept (run w os)
run-kept [] w k = k
run-kept (o ∷ os) w k = run-kept os (step w o).world (step_kept w o k)

-- ---- from mount on

module _ (charge : ℕ → ℕ) (l : Lent) (table : List ℕ) (used : ℕ) where
  pub mount-kept : (mounted l table used).code ≡ Fine → Kept (mounted_under charge l table used)
  unfolding mount_index entered_bytes index_fine entered
  mount-kept e =
      let f = mount-fine l table used e in
      let h = f.state in
      let n = 1 + length (records_on l.card used) in
      let sound = to-chain (take used l.card) 1 n f.sound refl in
      record {
        indexed = record {
          small = f.card-most;
          sound = rw (h.used, h.next) sound;
          fits =
              rw (h.used, e)
              (mount-fits table (take used l.card) 1 n sound (omega (arith, f.entries)) (omega (arith, f.card-most, length-take used l.card)));
        };
        long = rw h.index (eq-eqb _ (length table) (length-splice table 0 _));
      }

  pub life-kept : (mounted l table used).code ≡ Fine → (os : List Op) → Kept (run (mounted_under charge l table used) os)
  life-kept e os = run-kept os (mounted_under charge l table used) (mount-kept e)

-- ---- a refused mount leaves a box in which no call is accepted

dead-step : (w : World) (o : Op) → w.host.next.0 ≡ 0 → (step w o).world.host.next.0 ≡ 0
dead-step w o z = go (says_committed (step w o).said) refl
  where
    go : (b : Bool) → says_committed (step w o).said ≡ b → (step w o).world.host.next.0 ≡ 0
    go true e = absurd (omega (arith, (lawful w.lent w.host (said-appends w o e).1.1.check-1).least, z))
    go false e = rw (only-commit w o e).next z

dead-run : (os : List Op) (w : World) → w.host.next.0 ≡ 0 → (run w os).host.next.0 ≡ 0
dead-run [] w z = z
dead-run (o ∷ os) w z = dead-run os (step w o).world (dead-step w o z)

-- so where an open answers a handle, mount was not refused, and the table fits
pub open-indexed : (l : Lent) (table : List ℕ) (used : ℕ) (os : List Op) (m : List ℕ) (at k : ℕ)
    → (step (run (mounted_as l table used) os) (Open m at)).said ≡ Answered Fine k → Indexed (run (mounted_as l table used) os)
open-indexed l table used os m at k e = go (is_fine (mounted l table used).code) refl
  where
    go : (b : Bool) → is_fine (mounted l table used).code ≡ b → Indexed (run (mounted_as l table used) os)
    go true q = (life-kept _ l table used (fine-is (mounted l table used).code q) os).indexed
    go false q =
        let w = run (mounted_as l table used) os in
        let may = (open-exactly w m at).0 (ap is_refused e) in
        absurd (omega (arith, (lawful w.lent w.host may.gated.check-1).least, dead-run os (mounted_as l table used) ((mounts l table used).zero q).next))
