-- Check 1 passes over the whole life of a box whose mount was not refused: no call ever leaves it in a state that the next one refuses with -5.
-- Assumes nothing.
use mathlib.Core.Path.{◌≡◌, refl, sym, ap, ◌∙◌}
use mathlib.Core.Bool.{true, true≢false}
use mathlib.Core.List.{List, [], ◌∷◌}
use Prim.Native.Nat.{ℕ, ◌+◌, ◌^◌, ◌≤◌}
use native.Mathlib.Omega.{arith}
use lib.ListN.{length, take, length-replicate}
use lib.Seq.{length-take-le}
use Rattle.le.specs.Le.{Bytes}
use Rattle.le.specs.Splice.{zeros}
use Rattle.le.proofs.SpliceLaws.{length-splice}
use Rattle.manifest.specs.Saying.{is_good, modules_said, manifest_of}
use Rattle.manifest.proofs.SayingLaws.{sized}
use Rattle.card.specs.Pick.{All}
use Rattle.card.specs.Records.{size}
use Rattle.card.proofs.WalkLaws.{to-count}
use Rattle.weave.specs.declared.Code.TheVariants.{Fine}
use Rattle.weave.specs.declared.Lengths.{Lengths}
use Rattle.weave.specs.Codes.{is_fine}
use Rattle.weave.specs.States.{fresh_weave, begun_weave}
use Rattle.weave.proofs.SumLaws.{added-sum}
use Rattle.takes.specs.Begun.{begun}
use Rattle.host.specs.Hosts.{Lent, lent_as, lengths_of, with_weave, lent_check}
use Rattle.host.specs.Ending.{committed}
use Rattle.mounts.specs.Mount.{mounted}
use Rattle.promises.specs.Box.{World, records_on, Op, step, memory_of, mounted_as, run}
use Rattle.promises.specs.Diary.{Diary, Agrees, entered, diary, first_page}
use Rattle.promises.proofs.AcceptedLaws.{fine-lawful}
use Rattle.promises.proofs.MountHolds.{mount-fine}
use Rattle.promises.proofs.MoveLaws.{Staging, Kept, Staged, Turning, Stays, Turns, Move, Rests, Begins, GoesOn, Commits, Discards, count_after, staging_after, turn_after, after}
use Rattle.promises.proofs.MovesHold.{moved}
use Rattle.promises.proofs.DiaryHolds.{agrees-step, mount-agrees, life-agrees}
use Rattle.promises.proofs.PagesHold.{Long, records-long}

-- what check 1 asks besides the diary
record Sane (w : World) : Type 0 where
  lengths : lengths_of w.lent ≡ w.host.lengths
  good : is_good (manifest_of w.lent.text) ≡ true
  numbers : w.host.next.0 + w.host.weave.count ≤ 2 ^ 63
  turns : w.host.weave.running ≡ true → (1 ≤ w.host.weave.turn) × (w.host.weave.turn ≤ modules_said (manifest_of w.lent.text))

-- ---- then check 1 passes

sane-check : (w : World) (d : Diary) → Agrees w d → Sane w → is_fine (lent_check w.lent w.host) ≡ true
unfolding lengths_of
sane-check w d a s =
    fine-lawful w.lent w.host
    (record {
      staging-long = ap (λ (n : Lengths). n.staging) s.lengths;
      card-long = ap (λ (n : Lengths). n.card) s.lengths;
      text-long = ap (λ (n : Lengths). n.«manifest») s.lengths;
      good = s.good;
      used = a.on-card;
      staged = a.in-staging;
      least = omega (arith, to-count (take w.host.used w.lent.card) 1 w.host.next.0 a.chained);
      numbers = s.numbers;
      turn-least = λ r. (s.turns r).0;
      turn-most = λ r. (s.turns r).1;
    })

-- ---- any move

-- other buffers, of the same lengths
lengths-as : (l : Lent) (staging card : List ℕ) (was : Lengths) → lengths_of l ≡ was → length staging ≡ length l.staging → length card ≡ length l.card
    → lengths_of (lent_as staging card l.text) ≡ was
unfolding lengths_of
lengths-as l staging card was e q r = rw (q, r) e

module _ (w : World) (o : Op) (bytes : Bytes (memory_of o)) (d : Diary) (a : Agrees w d) (s : Sane w) where
  staging-long : (g : Staging w o) → length (staging_after w o g) ≡ length w.lent.staging
  staging-long Kept = refl
  staging-long (Staged r n g) = length-splice w.lent.staging w.host.weave.staged r

  numbers-left : (g : Staging w o) → w.host.next.0 + count_after w o g ≤ 2 ^ 63
  numbers-left Kept = s.numbers
  numbers-left (Staged r n g) =
      let k = (g bytes a.traced).number in
      rw (added-sum w.host.weave.count 1 (2 ^ 63) (omega (arith, k))) (omega (arith, k))

  turns-left : (t : Turning w o) → w.host.weave.running ≡ true → (1 ≤ turn_after w o t) × (turn_after w o t ≤ modules_said (manifest_of w.lent.text))
  turns-left Stays r = s.turns r
  turns-left (Turns i low) r = rw (added-sum w.host.weave.turn 1 16 (omega (arith, low, (sized w.lent.text).most))) (omega arith, omega (arith, low))

  cleared : length (zeros (length w.lent.staging)) ≡ length w.lent.staging
  cleared = length-replicate {0} {A = ℕ} (length w.lent.staging) 0

  sane-move : (m : Move w o) → Sane (after w o m)
  unfolding with_weave begun begun_weave fresh_weave committed
  sane-move Rests = s
  sane-move (Begins args i b) = record {
    lengths = lengths-as w.lent _ _ w.host.lengths s.lengths cleared refl;
    good = s.good;
    numbers = omega (arith, s.numbers);
    turns = λ r. (omega arith, (sized w.lent.text).some s.good);
  }
  sane-move (GoesOn r c) = record {
    lengths = lengths-as w.lent _ _ w.host.lengths s.lengths (staging-long c.staging) refl;
    good = s.good;
    numbers = numbers-left c.staging;
    turns = λ q. turns-left c.turn r;
  }
  sane-move (Commits i t code c) = record {
    lengths = lengths-as w.lent _ _ w.host.lengths s.lengths cleared (length-splice w.lent.card w.host.used _);
    good = s.good;
    numbers = rw (added-sum w.host.next.0 w.host.weave.count (2 ^ 63) s.numbers) (omega (arith, s.numbers));
    turns = λ r. absurd (true≢false (sym r));
  }
  sane-move (Discards i) = record {
    lengths = lengths-as w.lent _ _ w.host.lengths s.lengths cleared refl;
    good = s.good;
    numbers = omega (arith, s.numbers);
    turns = λ r. absurd (true≢false (sym r));
  }

-- ---- any sequence of calls

sane-run : (os : List Op) (w : World) (d : Diary) → All (λ (o : Op). Bytes (memory_of o)) os → Agrees w d → Sane w → Sane (run w os)
sane-run [] w d b a s = s
sane-run (o ∷ os) w d b a s =
    sane-run os (step w o).world (entered w d o) b.1 (agrees-step w o b.0 d a) (rw (moved w o).world (sane-move w o b.0 d a s (moved w o).move))

-- ---- mount

-- there are no more records than bytes
pub few-records : (rs : List (List ℕ)) → All Long rs → length rs ≤ size rs
few-records [] a = omega arith
few-records (r ∷ rs) a = omega (arith, a.0, few-records rs a.1)

module _ (l : Lent) (table : List ℕ) (used' : ℕ) where
  mount-sane : (mounted l table used').code ≡ Fine → Sane (mounted_as l table used')
  unfolding fresh_weave
  mount-sane e =
      let f = mount-fine l table used' e in
      let h = f.state in
      let part-long = length-take-le used' l.card f.on-card in
      let few = few-records (records_on l.card used') (records-long (take used' l.card) 1) in
      record {
        lengths = sym h.lengths;
        good = f.good;
        numbers = rw (h.next, h.weave) (omega (arith, f.card-most, f.on-card, part-long, few, f.sound));
        turns = λ r. absurd (true≢false (sym r ∙ rw h.weave));
      }

  -- THE PROMISE: after any calls check 1 passes
  pub life-sane : (os : List Op) → All (λ (o : Op). Bytes (memory_of o)) os → (mounted l table used').code ≡ Fine
      → is_fine (lent_check (run (mounted_as l table used') os).lent (run (mounted_as l table used') os).host) ≡ true
  life-sane os b e =
      sane-check (run (mounted_as l table used') os) (diary (mounted_as l table used') (first_page l used') os) (life-agrees l table used' os b e)
      (sane-run os (mounted_as l table used') (first_page l used') b (mount-agrees _ l table used' e) (mount-sane e))
