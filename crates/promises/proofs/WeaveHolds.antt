-- What begin sets, that it stays while the weave runs, and that a box without one keeps nothing of it.
-- Assumes nothing.
use mathlib.Core.Path.{◌≡◌, refl, sym, ◌∙◌}
use mathlib.Core.Bool.{Bool, true, false, cond, true≢false}
use mathlib.Core.List.{List, [], ◌∷◌}
use Prim.Native.Nat.{ℕ, ◌^◌, ◌<◌}
use native.Mathlib.Omega.{arith}
use borrow.Author.Tests.{eq-eqb}
use lib.Dec.{eqb}
use lib.ListN.{length, length-replicate}
use Rattle.le.specs.Le.{Bytes, le_at}
use Rattle.le.specs.Splice.{part, splice, zeros}
use Rattle.le.proofs.LeLaws.{le_at-lt}
use Rattle.le.proofs.SpliceLaws.{length_part, part-of-splice, length-splice, part-whole}
use Rattle.card.specs.Pick.{All}
use Rattle.weave.specs.States.{fresh_weave, begun_weave}
use Rattle.takes.specs.Begun.{arg_at, trace_of, begun}
use Rattle.weave.specs.Findings.{plain}
use Rattle.host.specs.Hosts.{Lent, with_weave, turned_away, settle}
use Rattle.host.specs.Begin.{begin_check, begin_answer, begin_staging}
use Rattle.host.specs.Ending.{committed}
use Rattle.promises.specs.Box.{World, Op, Begin, step, is_refused, args_of, LendsBytes, mounted_as, run}
use Rattle.promises.specs.Outcome.{begun_with, SameWeave}
use Rattle.promises.proofs.AcceptedLaws.{settle-ok}
use Rattle.promises.proofs.AcceptedHolds.{begin-exactly}
use Rattle.promises.proofs.MountHolds.{mount-fresh}
use Rattle.promises.proofs.MoveLaws.{Move, Rests, Begins, GoesOn, Commits, Discards, after}
use Rattle.promises.proofs.MovesHold.{moved}

-- ---- begin

-- 32 bytes laid over 32 bytes
whole-trace : (t : List ℕ) → length t ≡ 32 → splice (zeros 32) 0 t ≡ t
whole-trace t e =
    sym (part-whole (length t) (splice (zeros 32) 0 t) (omega (arith, length-splice (zeros 32) 0 t, length-replicate {0} {A = ℕ} 32 0)))
    ∙ part-of-splice (zeros 32) 0 t (omega (arith, length-replicate {0} {A = ℕ} 32 0))

-- THE PROMISE: a begin that is not refused makes the weave from its bytes, and changes nothing else
pub begin-sets : (w : World) (args : List ℕ) → is_refused (step w (Begin args)).said ≡ false → (step w (Begin args)).world ≡ begun_with w args
unfolding step begin_answer begin_staging settle turned_away with_weave begun begun_weave arg_at trace_of
begin-sets w args e =
    let c = settle-ok w.host (plain (begin_check w.lent w.host args)) 0 _ e in
    let n = ((begin-exactly w args).0 e).long in
    let is = eq-eqb (length args) 128 n in
    rw (c, is, whole-trace (part 56 32 args) (length_part 56 32 args (omega arith)))

-- ---- while it runs

stays : (w : World) (o : Op) (m : Move w o) → w.host.weave.running ≡ true → (after w o m).host.weave.running ≡ true → SameWeave w (after w o m)
unfolding with_weave committed fresh_weave
stays w o Rests r q = record { resmax = refl; time = refl; trace = refl }
stays w o (Begins args i b) r q = absurd (true≢false (sym r ∙ i))
stays w o (GoesOn e c) r q = record { resmax = refl; time = refl; trace = refl }
stays w o (Commits f s code c) r q = absurd (true≢false (sym q))
stays w o (Discards f) r q = absurd (true≢false (sym q))

-- THE PROMISE: any call of a weave that runs on leaves its budget, its virtual time and its trace
pub weave-stays : (w : World) (o : Op) → w.host.weave.running ≡ true → (step w o).world.host.weave.running ≡ true → SameWeave w (step w o).world
weave-stays w o = rw (moved w o).world (stays w o (moved w o).move)

-- ---- while none runs, nothing of one is kept

abbrev Idle : World → Type 0
Idle w = w.host.weave.running ≡ false → w.host.weave ≡ fresh_weave

idle-move : (w : World) (o : Op) (m : Move w o) → Idle w → Idle (after w o m)
unfolding with_weave begun begun_weave committed
idle-move w o Rests i = i
idle-move w o (Begins args e b) i = λ q. absurd (true≢false q)
idle-move w o (GoesOn r c) i = λ q. absurd (true≢false (sym r ∙ q))
idle-move w o (Commits f s code c) i = λ q. refl
idle-move w o (Discards f) i = λ q. refl

idle-run : (os : List Op) (w : World) → Idle w → Idle (run w os)
idle-run [] w i = i
idle-run (o ∷ os) w i = idle-run os (step w o).world (rw (moved w o).world (idle-move w o (moved w o).move i))

-- THE PROMISE: while no weave is running the state has nothing of one
pub life-idle : (l : Lent) (table : List ℕ) (used : ℕ) (os : List Op) → (run (mounted_as l table used) os).host.weave.running ≡ false → (run (mounted_as l table used) os).host.weave ≡ fresh_weave
life-idle l table used os = idle-run os (mounted_as l table used) (λ q. mount-fresh l table used)

-- ---- its virtual time is a number of 64 bits

timed : (w : World) (o : Op) → Bytes (args_of o) → (m : Move w o) → w.host.weave.time.0 < 256 ^ 8 → (after w o m).host.weave.time.0 < 256 ^ 8
unfolding with_weave committed fresh_weave begun begun_weave arg_at
timed w o b Rests t = t
timed w o b (Begins args i f) t = go (eqb (length args) 128)
  where
    go : (k : Bool) → cond k (le_at 8 args 48) 0 < 256 ^ 8
    go true = le_at-lt 8 args 48 (f b)
    go false = omega arith
timed w o b (GoesOn e c) t = t
timed w o b (Commits f s code c) t = omega arith
timed w o b (Discards f) t = omega arith

timed-run : (os : List Op) (w : World) → All LendsBytes os → w.host.weave.time.0 < 256 ^ 8 → (run w os).host.weave.time.0 < 256 ^ 8
timed-run [] w b t = t
timed-run (o ∷ os) w b t = timed-run os (step w o).world b.1 (rw (moved w o).world (timed w o b.0.args (moved w o).move t))

-- (What is lent holds bytes.)
pub life-timed : (l : Lent) (table : List ℕ) (used : ℕ) (os : List Op) → All LendsBytes os → (run (mounted_as l table used) os).host.weave.time.0 < 256 ^ 8
unfolding fresh_weave
life-timed l table used os b = timed-run os (mounted_as l table used) b (rw (mount-fresh l table used) (omega arith))
