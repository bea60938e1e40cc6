-- Promise 2: a commit appends exactly the staged bytes, and nothing else changes the card; a discard leaves card and state as before begin.
-- Assumes nothing.
use mathlib.Core.Path.{◌≡◌, refl, sym, ap, ◌∙◌}
use mathlib.Core.Bool.{true, false, true≢false}
use mathlib.Core.List.{List, [], ◌∷◌, ◌++◌}
use Prim.Native.Nat.{ℕ, ◌+◌, ◌^◌}
use native.Mathlib.Omega.{arith}
use lib.IntN.{ℤ}
use lib.ListN.{length, take, drop}
use lib.Seq.{length-take-le, take-add}
use Rattle.le.specs.Splice.{part, splice, zeros}
use Rattle.le.proofs.SpliceLaws.{splice-nil, part-of-splice, length-splice}
use Rattle.card.proofs.WalkLaws.{to-records, to-append}
use Rattle.weave.specs.declared.Code.{Code}
use Rattle.weave.specs.States.{fresh_weave}
use Rattle.weave.proofs.SumLaws.{added-sum}
use Rattle.host.specs.declared.Host.{Host}
use Rattle.host.specs.declared.Fate.{Fate}
use Rattle.host.specs.declared.Fate.TheVariants.{Refused, Discarded, Running, Committed}
use Rattle.card.specs.Index.{entered}
use Rattle.host.specs.Hosts.{Lent, with_weave, card_count}
use Rattle.host.specs.Ending.{fate_of, committed, finished, return_answer, return_card, return_index, return_staging}
use Rattle.promises.specs.Box.{World, card_records, card_chained, staged_records, Op, Return, Ended, step, run}
use Rattle.promises.specs.Outcome.{Conditions, staged_chained, SameCard, says_committed, NoneCommitted, Appended, but_faulted}
use Rattle.promises.specs.Turn.{InTurn}
use Rattle.promises.proofs.AcceptedLaws.{lawful}
use Rattle.promises.proofs.OutcomeHolds.{fate_in, conditions}
use Rattle.promises.proofs.MoveLaws.{Move, Rests, Begins, GoesOn, Commits, Discards, after}
use Rattle.promises.proofs.MovesHold.{moved, commits-by}
use Rattle.promises.proofs.RefusalHolds.{laid-there}

-- ---- nothing but a commit changes the card

same : (w : World) (o : Op) (m : Move w o) → says_committed (step w o).said ≡ false → SameCard w (after w o m)
unfolding with_weave
same w o Rests e = record { card = refl; index = refl; index-long = refl; text = refl; lengths = refl; used = refl; next = refl }
same w o (Begins args i b) e = record { card = refl; index = refl; index-long = refl; text = refl; lengths = refl; used = refl; next = refl }
same w o (GoesOn r c) e = record { card = refl; index = refl; index-long = refl; text = refl; lengths = refl; used = refl; next = refl }
same w o (Commits i s code c) e = absurd (true≢false (sym s ∙ e))
same w o (Discards i) e = record { card = refl; index = refl; index-long = refl; text = refl; lengths = refl; used = refl; next = refl }

-- THE PROMISE: the card changes only where committed is said
pub only-commit : (w : World) (o : Op) → says_committed (step w o).said ≡ false → SameCard w (step w o).world
only-commit w o e = rw (moved w o).world (same w o (moved w o).move e)

-- and nothing its length
card-long : (w : World) (o : Op) (m : Move w o) → length (after w o m).lent.card ≡ length w.lent.card
card-long w o Rests = refl
card-long w o (Begins args i b) = refl
card-long w o (GoesOn r c) = refl
card-long w o (Commits i s code c) = length-splice w.lent.card w.host.used _
card-long w o (Discards i) = refl

pub long_kept : (w : World) (o : Op) → length (step w o).world.lent.card ≡ length w.lent.card
long_kept w o = rw (moved w o).world (card-long w o (moved w o).move)

-- .. nor its table's
index-long : (w : World) (o : Op) (m : Move w o) → length (after w o m).index ≡ length w.index
unfolding entered
index-long w o Rests = refl
index-long w o (Begins args i b) = refl
index-long w o (GoesOn r c) = refl
index-long w o (Commits i s code c) = length-splice w.index (card_count w.host) _
index-long w o (Discards i) = refl

pub index_kept : (w : World) (o : Op) → length (step w o).world.index ≡ length w.index
index_kept w o = rw (moved w o).world (index-long w o (moved w o).move)

-- ---- a commit

module _ (w : World) where
  abbrev l : Lent
  l = w.lent

  abbrev h : Host
  h = w.host

  abbrev table : List ℕ
  table = w.index

  -- by the move
  pub move-appends : (o : Op) (i : InTurn o → ⊥) (s : says_committed (step w o).said ≡ true) (code : ℤ) (c : Conditions l table h code) → Appended w (after w o (Commits i s code c))
  unfolding committed
  move-appends o i s code c =
      let law = lawful l h c.check-1 in
      let long = length-take-le h.weave.staged l.staging law.staged in
      record {
        lengths = refl;
        index-long = refl;
        used = added-sum h.used h.weave.staged h.lengths.card (omega (arith, c.fits, law.card-long));
        next = added-sum h.next.0 h.weave.count (2 ^ 63) law.numbers;
        bytes =
            ap (λ (n : ℕ). part h.used n (splice l.card h.used (take h.weave.staged l.staging))) (sym long)
            ∙ part-of-splice l.card h.used (take h.weave.staged l.staging) (omega (arith, long, c.fits));
        others = laid-there l.card h.used (take h.weave.staged l.staging) h.weave.staged long;
        entries = refl;
        faulted = refl;
        weave = refl;
        staging = refl;
        text = refl;
      }

  fate-appends : (code : ℤ) (events bytes : ℕ) → fate_of l table h code ≡ Committed events bytes → Appended w (step w (Return code)).world
  unfolding step return_answer return_card return_index return_staging finished
  fate-appends code events bytes q =
      let c = conditions l table h code events bytes q in
      rw (q, c.1.0, c.1.1) (move-appends (Return code) (λ i. i) (rw q) code c.0)

  -- THE PROMISE: where committed is said, exactly the staged bytes were appended
  pub commit-appends : (code : ℤ) (events bytes : ℕ) → (step w (Return code)).said ≡ Ended (Committed events bytes) → Appended w (step w (Return code)).world
  unfolding step return_answer
  commit-appends code events bytes e = fate-appends code events bytes (ap fate_in e)

-- so the used part is what it was, then what was staged
pub appended-part : (was is : World) → Appended was is
    → take is.host.used is.lent.card ≡ take was.host.used was.lent.card ++ take was.host.weave.staged was.lent.staging
unfolding part
appended-part was is a =
    let u = was.host.used in
    let n = was.host.weave.staged in
    rw a.used
    (take-add u n is.lent.card ∙ ap (λ (t : List ℕ). t ++ take n (drop u is.lent.card)) a.others.before
    ∙ ap (λ (t : List ℕ). take u was.lent.card ++ t) a.bytes)

-- .. and the card's records are those that were on it, then those that were staged
pub appended-records : (was is : World) → Appended was is → card_chained was.lent was.host ≡ true → staged_chained was ≡ true
    → (card_chained is.lent is.host ≡ true) × (card_records is ≡ card_records was ++ staged_records was)
appended-records was is a c s =
    let used = take was.host.used was.lent.card in
    let new = take was.host.weave.staged was.lent.staging in
    let next = was.host.next.0 in (
      rw (a.next, appended-part was is a) (to-append used new 1 next c (next + was.host.weave.count) s),
      rw (appended-part was is a) (to-records used new 1 next c),
    )

-- whoever says committed: it was a return
said-fate : (f : Fate) → says_committed (Ended f) ≡ true → (events : ℕ) × ((bytes : ℕ) × (f ≡ Committed events bytes))
said-fate (Refused c) e = absurd (true≢false (sym e))
said-fate (Discarded c) e = absurd (true≢false (sym e))
said-fate Running e = absurd (true≢false (sym e))
said-fate (Committed events bytes) e = (events, (bytes, refl))

-- .. whose conditions held
abbrev pub Held : World → Type 0
Held w = (code : ℤ) × Conditions w.lent w.index w.host code

return-appends : (w : World) (code : ℤ) → says_committed (step w (Return code)).said ≡ true → Appended w (step w (Return code)).world × Held w
unfolding step return_answer
return-appends w code e =
    let f = said-fate (fate_of w.lent w.index w.host code) e in
    (fate-appends w code f.0 f.1.0 f.1.1, (code, (conditions w.lent w.index w.host code f.0 f.1.0 f.1.1).0))

pub said-appends : (w : World) (o : Op) → says_committed (step w o).said ≡ true → Appended w (step w o).world × Held w
said-appends w o e = let by = commits-by w o e in rw by.1 (return-appends w by.0 (rw by.1 at e))

-- ---- a discard

same-trans : (a b c : World) → SameCard a b → SameCard b c → SameCard a c
same-trans a b c s t = record {
  card = t.card ∙ s.card;
  index = t.index ∙ s.index;
  index-long = t.index-long ∙ s.index-long;
  text = t.text ∙ s.text;
  lengths = t.lengths ∙ s.lengths;
  used = t.used ∙ s.used;
  next = t.next ∙ s.next;
}

pub same-run : (os : List Op) (w : World) → NoneCommitted w os → SameCard w (run w os)
same-run [] w n = record { card = refl; index = refl; index-long = refl; text = refl; lengths = refl; used = refl; next = refl }
same-run (o ∷ os) w n = same-trans w (step w o).world (run (step w o).world os) (only-commit w o n.0) (same-run os (step w o).world n.1)

-- what a discard leaves of the box just before it
discard-left : (w : World) (code : ℤ) (c : Code) → fate_of w.lent w.index w.host code ≡ Discarded c
    → ((step w (Return code)).world.host ≡ with_weave w.host fresh_weave)
    × (((step w (Return code)).world.lent.card ≡ w.lent.card) × ((step w (Return code)).world.lent.staging ≡ zeros (length w.lent.staging)))
unfolding step return_answer return_card return_staging finished
discard-left w code c q = (rw q, (rw q (splice-nil w.lent.card w.host.used), rw q))

-- THE PROMISE: from a box with no weave, through any calls none of which says committed, to a discard: the card and the state are as they were, but for
-- faulted; "Both leave staging all 0"
pub discard-restores : (w : World) → w.host.weave ≡ fresh_weave → (os : List Op) → NoneCommitted w os → (code : ℤ) (c : Code)
    → (step (run w os) (Return code)).said ≡ Ended (Discarded c)
    → ((step (run w os) (Return code)).world.lent.card ≡ w.lent.card)
    × (((step (run w os) (Return code)).world.host ≡ but_faulted w.host (run w os).host.faulted)
    × ((step (run w os) (Return code)).world.lent.staging ≡ zeros (length (run w os).lent.staging)))
unfolding step return_answer with_weave
discard-restores w fresh os n code c e =
    let s = same-run os w n in
    let d = discard-left (run w os) code c (ap fate_in e) in
    (d.1.0 ∙ s.card, (d.0 ∙ rw (s.lengths, s.index-long, s.used, s.next, fresh), d.1.1))
