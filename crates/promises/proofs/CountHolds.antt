-- The turn is one more than the returns that were accepted since begin, so a weave of n modules ends with its n-th at the latest.
-- Assumes nothing.
use mathlib.Core.Path.{◌≡◌, refl, sym, ◌∙◌}
use mathlib.Core.Bool.{true, false, cond, true≢false}
use mathlib.Core.List.{List, [], ◌∷◌}
use Prim.Native.Nat.{ℕ, ◌+◌, ◌≤◌, ◌<◌}
use native.Mathlib.Omega.{arith}
use native.Mathlib.Nat.{add-zero}
use Rattle.manifest.proofs.SayingLaws.{sized}
use Rattle.weave.specs.States.{fresh_weave}
use Rattle.weave.proofs.SumLaws.{added-sum}
use Rattle.host.specs.Hosts.{with_weave}
use Rattle.host.specs.Ending.{committed}
use Rattle.promises.specs.Box.{World, Op, Begin, step, is_refused, run}
use Rattle.promises.specs.Outcome.{module_count, returns_in, RunsOn}
use Rattle.promises.proofs.AcceptedLaws.{lawful}
use Rattle.promises.proofs.AcceptedHolds.{begin-exactly}
use Rattle.promises.proofs.MoveLaws.{Turning, Stays, Turns, Move, Rests, Begins, GoesOn, Commits, Discards, turn_after, turns_by, after, ends_turn}
use Rattle.promises.proofs.MovesHold.{moved}
use Rattle.promises.proofs.WeaveHolds.{begin-sets}

module _ (w : World) (o : Op) where
  -- the turn that is left, after so many turns more
  abbrev Turned : ℕ → ℕ → Type 0
  Turned turn more = (turn ≡ w.host.weave.turn + more) × (turn ≤ module_count w)

  turning : (t : Turning w o) → w.host.weave.turn ≤ module_count w → Turned (turn_after w o t) (cond (turns_by w o t) 1 0)
  turning Stays h = (sym (add-zero _), h)
  turning (Turns i low) h =
      let sum = added-sum w.host.weave.turn 1 16 (omega (arith, low, (sized w.lent.text).most)) in
      (sum, rw sum (omega (arith, low)))

  move-turn : (m : Move w o) → w.host.weave.running ≡ true → (after w o m).host.weave.running ≡ true → w.host.weave.turn ≤ module_count w
      → Turned (after w o m).host.weave.turn (cond (ends_turn w o m) 1 0)
  unfolding with_weave fresh_weave committed
  move-turn Rests r q h = (sym (add-zero _), h)
  move-turn (Begins args i b) r q h = absurd (true≢false (sym r ∙ i))
  move-turn (GoesOn e c) r q h = turning c.turn h
  move-turn (Commits i s code c) r q h = absurd (true≢false (sym q))
  move-turn (Discards i) r q h = absurd (true≢false (sym q))

  same_text : (m : Move w o) → (after w o m).lent.text ≡ w.lent.text
  same_text Rests = refl
  same_text (Begins args i b) = refl
  same_text (GoesOn e c) = refl
  same_text (Commits i s code c) = refl
  same_text (Discards i) = refl

  one-turn : w.host.weave.running ≡ true → (step w o).world.host.weave.running ≡ true → w.host.weave.turn ≤ module_count w
      → Turned (step w o).world.host.weave.turn (returns_in w (o ∷ []))
  one-turn = rw ((moved w o).world, (moved w o).returned, add-zero) (move-turn (moved w o).move)

  pub text-kept : (step w o).world.lent.text ≡ w.lent.text
  text-kept = rw (moved w o).world (same_text (moved w o).move)

runs-now : (os : List Op) (w : World) → RunsOn w os → w.host.weave.running ≡ true
runs-now [] w r = r
runs-now (o ∷ os) w r = r.0

counted : (os : List Op) (w : World) → RunsOn w os → w.host.weave.turn ≤ module_count w
    → ((run w os).host.weave.turn ≡ w.host.weave.turn + returns_in w os) × ((run w os).host.weave.turn ≤ module_count w)
counted [] w r h = (sym (add-zero _), h)
counted (o ∷ os) w r h =
    let t = one-turn w o r.0 (runs-now os (step w o).world r.1) h in
    let same : module_count (step w o).world ≡ module_count w = rw (text-kept w o) in
    let rest = counted os (step w o).world r.1 (rw same t.1) in
    (omega (arith, t.0, rest.0), omega (arith, same, rest.1))

-- THE PROMISE: after a begin that was not refused, while the weave runs
pub turn-counted : (w : World) (args : List ℕ) → is_refused (step w (Begin args)).said ≡ false → (os : List Op) → RunsOn (step w (Begin args)).world os
    → ((run (step w (Begin args)).world os).host.weave.turn ≡ 1 + returns_in (step w (Begin args)).world os)
    × (returns_in (step w (Begin args)).world os < module_count w)
unfolding with_weave
turn-counted w args e os r =
    let w₁ = (step w (Begin args)).world in
    let first : w₁.host.weave.turn ≡ 1 = rw (begin-sets w args e) in
    let some = (sized w.lent.text).some (lawful w.lent w.host ((begin-exactly w args).0 e).check-1).good in
    let same : module_count w₁ ≡ module_count w = rw (text-kept w (Begin args)) in
    let c = counted os w₁ r (omega (arith, first, some, same)) in
    (omega (arith, c.0, first), omega (arith, c.0, c.1, first, same))
