-- Promise 2 over the life of a box: it agrees with the diary, after every sequence of calls.
-- Assumes nothing.
use mathlib.Core.Path.{◌≡◌, refl, ap, ◌∙◌}
use mathlib.Core.Bool.{Bool, true, false, cond}
use mathlib.Core.List.{List, [], ◌∷◌, ◌++◌}
use Prim.Native.Nat.{ℕ, ◌+◌, ◌^◌, ◌≤◌}
use native.Mathlib.Omega.{arith}
use native.Mathlib.Nat.{add-zero, add_assoc}
use lib.Dec.{leb}
use lib.ListN.{length, take, length-replicate}
use Rattle.le.specs.Splice.{part, splice, zeros}
use Rattle.le.specs.Le.{Bytes}
use Rattle.le.proofs.SpliceLaws.{length-splice}
use Rattle.manifest.specs.Saying.{charge_of}
use Rattle.card.specs.Pick.{All}
use Rattle.card.specs.Records.{records}
use Rattle.card.proofs.RecordsLaws.{no-records}
use Rattle.card.specs.Walk.{chain_to}
use Rattle.card.proofs.PickLaws.{all_map}
use Rattle.card.proofs.WalkLaws.{laid_one, laid_next, to-chain}
use Rattle.weave.specs.declared.Code.TheVariants.{Fine}
use Rattle.weave.specs.declared.Weave.{Weave}
use Rattle.weave.specs.Sums.{added}
use Rattle.weave.specs.States.{fresh_weave, begun_weave}
use Rattle.weave.proofs.SumLaws.{added-sum}
use Rattle.takes.specs.Begun.{trace_of, begun}
use Rattle.host.specs.Hosts.{Lent, lent_as, with_weave}
use Rattle.host.specs.Ending.{committed}
use Rattle.mounts.specs.Mount.{mounted}
use Rattle.promises.specs.Box.{World, records_on, staged_records, Op, step, memory_of, LendsBytes, mounted_under, mounted_as, run}
use Rattle.promises.specs.Diary.{Diary, entered, diary, first_page, Agrees}
use Rattle.promises.proofs.MountHolds.{mount-fine}
use Rattle.promises.proofs.StagedLaws.{Stageable}
use Rattle.promises.proofs.MoveLaws.{Affords, Cost, Unpaid, Free, Paid, Staging, Kept, Staged, Move, Rests, Begins, GoesOn, Commits, Discards, units_after, staged_after, count_after, staging_after, staged_by, units_by, after, entry_by}
use Rattle.promises.proofs.MovesHold.{moved}
use Rattle.promises.proofs.CardHolds.{move-appends, appended-records}

-- ---- what is staged

-- bytes that are staged in a buffer, so many events from this number on, and the events that they are
record Carries (staging : List ℕ) (staged count next : ℕ) (rs : List (List ℕ)) : Type 0 where
  within : staged ≤ length staging
  chained : chain_to (take staged staging) next (next + count) ≡ true
  are : records (take staged staging) next ≡ rs

none-carried : (staging : List ℕ) (next : ℕ) → Carries staging 0 0 next []
none-carried s next = record { within = omega arith; chained = to-chain (take 0 s) next (next + 0) (rw (no-records next)) (rw (no-records next)); are = no-records next }

-- one more event
one_more : (w : World) (rs : List (List ℕ)) (r : List ℕ) (n : ℕ) → Carries w.lent.staging w.host.weave.staged w.host.weave.count w.host.next.0 rs
    → Stageable w.lent w.host r n
    → Carries (splice w.lent.staging w.host.weave.staged r) (added w.host.weave.staged n (length w.lent.staging)) (added w.host.weave.count 1 (2 ^ 63))
    w.host.next.0 (rs ++ (r ∷ []))
one_more w rs r n c s =
    let staging = w.lent.staging in
    let staged = w.host.weave.staged in
    let next = w.host.next.0 in
    let count = w.host.weave.count in
    let room : staged + length r ≤ length staging = omega (arith, s.long, s.room) in
    let sums : added staged n (length staging) ≡ staged + n = added-sum staged n (length staging) s.room in
    let counts : added count 1 (2 ^ 63) ≡ count + 1 = added-sum count 1 (2 ^ 63) (omega (arith, s.number)) in
    record {
      within = rw (sums, length-splice) s.room;
      chained = rw (sums, counts, ← s.long, ← add_assoc) (laid_next staging staged next (next + count) r room c.chained s.good);
      are = rw (sums, ← s.long) (laid_one staging staged next (next + count) r room c.chained s.good ∙ ap (λ (l : List (List ℕ)). l ++ (r ∷ [])) c.are);
    }

-- ---- what is paid

charged : (w : World) (d : Diary) (charge : ℕ) → Affords w charge → w.host.weave.units ≡ d.units
    → added w.host.weave.units charge w.host.weave.resmax ≡ d.units + charge
charged w d charge b u = added-sum w.host.weave.units charge w.host.weave.resmax b ∙ ap (λ (n : ℕ). n + charge) u

pub added-nothing : (a most : ℕ) → added a 0 most ≡ a
unfolding added
added-nothing a most = go (leb (a + 0) most)
  where
    go : (b : Bool) → cond b (a + 0) a ≡ a
    go true = add-zero a
    go false = refl

-- ---- any move

module _ (w : World) (o : Op) (bytes : Bytes (memory_of o)) (d : Diary) (a : Agrees w d) where
  abbrev here : Carries w.lent.staging w.host.weave.staged w.host.weave.count w.host.next.0 d.staged
  here = record { within = a.in-staging; chained = a.carried; are = a.staged }

  staging-carries : (g : Staging w o) → Carries (staging_after w o g) (staged_after w o g) (count_after w o g) w.host.next.0 (staged_by w o g d.staged)
  staging-carries Kept = here
  staging-carries (Staged r n g) = one_more w d.staged r n here (g bytes a.traced)

  units-paid : (c : Cost w) → units_after w c ≡ units_by w c d.units
  units-paid Unpaid = a.units
  units-paid Free = added-nothing w.host.weave.units w.host.weave.resmax ∙ a.units
  units-paid (Paid charge b) = charged w d charge b a.units

  -- nothing is staged, in a weave with such a trace
  emptied-agrees : (v : Weave) (staging : List ℕ) → v.staged ≡ 0 → v.count ≡ 0 → v.units ≡ 0 → length v.trace ≡ 32
      → Agrees (record { host = with_weave w.host v; lent = lent_as staging w.lent.card w.lent.text; index = w.index; charge = w.charge }) (record { kept = d.kept; staged = []; units = 0 })
  unfolding with_weave
  emptied-agrees v staging s c u t =
      let n = none-carried staging w.host.next.0 in
      record {
        on-card = a.on-card;
        in-staging = rw s n.within;
        traced = t;
        chained = a.chained;
        kept = a.kept;
        carried = rw (s, c) n.chained;
        staged = rw s n.are;
        units = u;
      }

  fresh-trace : length fresh_weave.trace ≡ 32
  unfolding fresh_weave
  fresh-trace = length-replicate {0} {A = ℕ} 32 0

  agrees-move : (m : Move w o) → Agrees (after w o m) (entry_by w o m d)
  unfolding fresh_weave begun begun_weave trace_of committed
  agrees-move Rests = a
  agrees-move (Begins args i b) =
      emptied-agrees (begun args) _ refl refl refl (length-splice (zeros 32) 0 (part 56 32 args) ∙ length-replicate {0} {A = ℕ} 32 0)
  agrees-move (GoesOn r c) =
      let s = staging-carries c.staging in
      record {
        on-card = a.on-card;
        in-staging = s.within;
        traced = a.traced;
        chained = a.chained;
        kept = a.kept;
        carried = s.chained;
        staged = s.are;
        units = units-paid c.cost;
      }
  agrees-move (Discards i) = emptied-agrees fresh_weave _ refl refl refl fresh-trace
  agrees-move (Commits i s code c) =
      let d' = move-appends w o i s code c in
      let r = appended-records w (after w o (Commits i s code c)) d' a.chained a.carried in
      let n = none-carried (zeros (length w.lent.staging)) (after w o (Commits i s code c)).host.next.0 in
      record {
        on-card = rw (d'.used, d'.others.long) c.fits;
        in-staging = n.within;
        traced = fresh-trace;
        chained = r.0;
        kept = r.1 ∙ ap (λ (rs : List (List ℕ)). rs ++ staged_records w) a.kept ∙ ap (λ (rs : List (List ℕ)). d.kept ++ rs) a.staged;
        carried = n.chained;
        staged = n.are;
        units = refl;
      }

  -- THE PROMISE, for one call
  pub agrees-step : Agrees (step w o).world (entered w d o)
  agrees-step = rw ((moved w o).world, (moved w o).entry bytes a.traced d) (agrees-move (moved w o).move)

-- .. and for any sequence of calls. (A memory holds bytes.)
pub agrees-run : (os : List Op) (w : World) (d : Diary) → All (λ (o : Op). Bytes (memory_of o)) os → Agrees w d → Agrees (run w os) (diary w d os)
agrees-run [] w d b a = a
agrees-run (o ∷ os) w d b a = agrees-run os (step w o).world (entered w d o) b.1 (agrees-step w o b.0 d a)

pub lends-memory : (os : List Op) → All LendsBytes os → All (λ (o : Op). Bytes (memory_of o)) os
lends-memory os b = all_map LendsBytes (λ (o : Op). Bytes (memory_of o)) (λ o h. h.memory) os b

-- ---- mount

module _ (charge : ℕ → ℕ) (l : Lent) (table : List ℕ) (used' : ℕ) where
  -- a mount that is not refused agrees
  pub mount-agrees : (mounted l table used').code ≡ Fine → Agrees (mounted_under charge l table used') (first_page l used')
  unfolding fresh_weave
  mount-agrees e =
      let f = mount-fine l table used' e in
      let h = f.state in
      let n = none-carried l.staging (1 + length (records_on l.card used')) in
      record {
        on-card = rw h.used f.on-card;
        in-staging = rw h.weave n.within;
        traced = rw h.weave (length-replicate {0} {A = ℕ} 32 0);
        chained = rw (h.used, h.next) (to-chain (take used' l.card) 1 (1 + length (records_on l.card used')) f.sound refl);
        kept = rw h.used;
        carried = rw (h.weave, h.next) n.chained;
        staged = rw (h.weave, h.next) n.are;
        units = rw h.weave;
      }

  -- THE PROMISE over the life of a box: mounted, and asked whatever may be asked, it agrees with the diary, by any charge rule
  pub ruled-agrees : (os : List Op) → All (λ (o : Op). Bytes (memory_of o)) os → (mounted l table used').code ≡ Fine
      → Agrees (run (mounted_under charge l table used') os) (diary (mounted_under charge l table used') (first_page l used') os)
  ruled-agrees os b e = agrees-run os (mounted_under charge l table used') (first_page l used') b (mount-agrees e)

-- .. so by the one that the manifest names
pub life-agrees : (l : Lent) (table : List ℕ) (used : ℕ) (os : List Op) → All (λ (o : Op). Bytes (memory_of o)) os → (mounted l table used).code ≡ Fine
    → Agrees (run (mounted_as l table used) os) (diary (mounted_as l table used) (first_page l used) os)
life-agrees l table used = ruled-agrees (charge_of l.text) l table used
