-- Each fate of a return, exactly when.
-- Assumes nothing.
use mathlib.Core.Path.{◌≡◌, refl, sym, ap, subst, ◌∙◌}
use mathlib.Core.Bool.{Bool, true, false, true≢false}
use mathlib.Core.Logic.{◌↔◌}
use Prim.Native.Nat.{ℕ, zero, suc, ◌+◌, ◌^◌, ◌≤◌, ◌<◌}
use native.Mathlib.Omega.{arith}
use borrow.Author.Tests.{lt-leb, le-leb, lt-ltb, le-ltb, leb-true, leb-false}
use lib.Dec.{leb}
use lib.IntN.{ℤ, pos, negsuc}
use lib.ListN.{length}
use Rattle.le.proofs.SpliceLaws.{splice-nil}
use Rattle.le.proofs.TestLaws.{Tested, passes, fails, tested}
use Rattle.manifest.proofs.SayingLaws.{sized}
use Rattle.weave.specs.declared.Code.{Code}
use Rattle.weave.specs.declared.Code.TheVariants.{Fine, Denied, NotNow, Unsound, NoRoom, Bad, Budget, BadValue}
use Rattle.weave.specs.declared.Spoiled.{Spoiled}
use Rattle.weave.specs.declared.Spoiled.TheVariants.{Not, Overspent, Panicked}
use Rattle.weave.specs.Codes.{is_fine, number, need, first_by, first, spoiled_code, reason_for, reason_of}
use Rattle.weave.specs.States.{turned}
use Rattle.weave.proofs.CodeLaws.{first-left, first-right, reason-other}
use Rattle.weave.proofs.SumLaws.{added-sum}
use Rattle.host.specs.declared.Fate.TheVariants.{Discarded, Running}
use Rattle.card.specs.Index.{offsets, entered}
use Rattle.card.proofs.RecordsLaws.{no-records}
use Rattle.host.specs.Hosts.{with_weave, card_count}
use Rattle.host.specs.Ending.{return_check, why_not, last_check, fate_of, finished, return_answer, return_card, return_index, return_staging}
use Rattle.promises.specs.Box.{World, Return, Ended, step}
use Rattle.promises.specs.Outcome.{Returns, Unhindered, module_count, staged_chained, InNumbers, Reason, overspent, panicked, own, other, unsound, no_room, no-entries, next_turn}
use Rattle.promises.proofs.AcceptedLaws.{lawful}
use Rattle.promises.proofs.OutcomeHolds.{Fated, turned-away, has-reason, turns-on, ends-badly, ends-well, fated, fate_in, return-runs, return-check, index-long, lent-fine, indexed-fine, unspoilt, good-code, code-good, committed-exactly}
use Rattle.promises.proofs.ChecksHold.{code_is}
use Rattle.promises.proofs.AskedHolds.{refusal-number}

-- ---- codes and numbers

-- each code's number is 0 or from -7 to -1
abbrev Small : ℤ → Type 0
Small (pos n) = n ≤ 0
Small (negsuc n) = n < 7

small : (c : Code) → Small (number c)
small Fine = omega arith
small Denied = omega arith
small NotNow = omega arith
small Unsound = omega arith
small NoRoom = omega arith
small Bad = omega arith
small Budget = omega arith
small BadValue = omega arith

reason-back : (c : Code) → is_fine c ≡ false → reason_of (number c) ≡ c
unfolding reason_of
reason-back Fine e = absurd (true≢false e)
reason-back Denied e = refl
reason-back NotNow e = refl
reason-back Unsound e = refl
reason-back NoRoom e = refl
reason-back Bad e = refl
reason-back Budget e = refl
reason-back BadValue e = refl

module _ (w : World) (code : ℤ) where
  -- ---- checks 1 and 2

  returns : is_fine (return_check w.lent w.index w.host) ≡ true → Returns w
  returns f =
      let i = return-check w.lent w.index w.host f in
      record {
        table-long = index-long w.lent w.index w.host i;
        check-1 = lent-fine w.lent w.index w.host i;
        running = return-runs w.lent w.index w.host f;
      }

  fine : Returns w → is_fine (return_check w.lent w.index w.host) ≡ true
  unfolding return_check first_by need
  fine r = rw (indexed-fine w.lent w.index w.host r.table-long r.check-1, r.running)

  -- ---- the reason

  by_code : (z : ℤ) → Returns w → w.host.weave.spoiled.0 ≡ Not → is_fine (reason_of z) ≡ false → Reason w z (reason_of z)
  unfolding reason_of
  by_code (pos zero) r s e = absurd (true≢false e)
  by_code (pos (suc zero)) r s e = absurd (true≢false e)
  by_code (pos (suc (suc n))) r s e =
      rw (lt-leb (suc (suc n)) 1 (omega arith)) (other r s (λ c q. let m = subst Small q (small c) in omega arith) (λ q. let z : ◌≡◌ {A = ℕ} 0 1 = cc in omega arith))
  by_code (negsuc zero) r s e = own r s Denied refl refl
  by_code (negsuc (suc zero)) r s e = own r s NotNow refl refl
  by_code (negsuc (suc (suc zero))) r s e = own r s Unsound refl refl
  by_code (negsuc (suc (suc (suc zero)))) r s e = own r s NoRoom refl refl
  by_code (negsuc (suc (suc (suc (suc zero))))) r s e = own r s Bad refl refl
  by_code (negsuc (suc (suc (suc (suc (suc zero)))))) r s e = own r s Budget refl refl
  by_code (negsuc (suc (suc (suc (suc (suc (suc zero))))))) r s e = own r s BadValue refl refl
  by_code (negsuc (suc (suc (suc (suc (suc (suc (suc n)))))))) r s e =
      other r s (λ c q. let m = subst Small q (small c) in omega arith) (λ q. let z : ◌≡◌ {A = ℕ} 0 1 = cc in omega arith)

  by-mark : Returns w → (s : Spoiled) → w.host.weave.spoiled.0 ≡ s → is_fine (why_not w.host code) ≡ false → Reason w code (why_not w.host code)
  unfolding why_not first_by
  by-mark r s q e = subst (Reason w code) (sym is) (go s q (sym (ap is_fine is) ∙ e))
    where
      is : why_not w.host code ≡ first (reason_for s) (reason_of code)
      is = ap (λ (s : Spoiled). first (reason_for s) (reason_of code)) q

      go : (s : Spoiled) → w.host.weave.spoiled.0 ≡ s → is_fine (first (reason_for s) (reason_of code)) ≡ false → Reason w code (first (reason_for s) (reason_of code))
      go Not q e = by_code code r q e
      go Overspent q e = overspent r q
      go Panicked q e = panicked r q

  unhindered : is_fine (return_check w.lent w.index w.host) ≡ true → is_fine (why_not w.host code) ≡ true → Unhindered w code
  unfolding why_not
  unhindered a b = record {
    returns = returns a;
    unspoiled = unspoilt w.host.weave.spoiled.0 (first-left (spoiled_code w.host.weave.spoiled) (reason_of code) b);
    zero-or-one = good-code code (first-right (spoiled_code w.host.weave.spoiled) (reason_of code) b);
  }

  no-reason : Unhindered w code → is_fine (why_not w.host code) ≡ true
  unfolding why_not first_by
  no-reason u = rw u.unspoiled (code-good code u.zero-or-one)

  at_last : is_fine (return_check w.lent w.index w.host) ≡ true → module_count w ≤ w.host.weave.turn → w.host.weave.turn ≡ module_count w
  at_last a b = omega (arith, (lawful w.lent w.host (returns a).check-1).turn-most (returns a).running)

  by_last : Unhindered w code → w.host.weave.turn ≡ module_count w → is_fine (last_check w.lent w.index w.host) ≡ false → Reason w code (last_check w.lent w.index w.host)
  unfolding last_check first_by need
  by_last u t e =
      let law = lawful w.lent w.host u.returns.check-1 in
      let sum = added-sum w.host.next.0 w.host.weave.count (2 ^ 63) law.numbers in
      rw sum (go (tested (staged_chained w)) (tested on_card) (tested in_table) (rw sum at e))
    where
      on_card : Bool
      on_card = leb (w.host.used + w.host.weave.staged) (length w.lent.card)

      in_table : Bool
      in_table = leb (card_count w.host + w.host.weave.count) (length w.index)

      go : Tested (staged_chained w) → Tested on_card → Tested in_table
          → is_fine (first (need (staged_chained w) Unsound) (first (need on_card NoRoom) (need in_table NoRoom))) ≡ false
          → Reason w code (first (need (staged_chained w) Unsound) (first (need on_card NoRoom) (need in_table NoRoom)))
      go (fails s) f g e = rw s (unsound u t s)
      go (passes s) (fails f) g e = rw (s, f) (no_room u t s (leb-false (w.host.used + w.host.weave.staged) (length w.lent.card) f))
      go (passes s) (passes f) (fails g) e =
          rw (s, f, g)
          (no-entries u t s (leb-true (w.host.used + w.host.weave.staged) (length w.lent.card) f) (leb-false (card_count w.host + w.host.weave.count) (length w.index) g))
      go (passes s) (passes f) (passes g) e = absurd (true≢false (rw (s, f, g) at e))

  reasons : (c : Code) → fate_of w.lent w.index w.host code ≡ Discarded c → Reason w code c
  reasons c q = go (fated w.lent w.index w.host code)
    where
      go : Fated w.lent w.index w.host code → Reason w code c
      go (turned-away a p) = let z : ◌≡◌ {A = ℕ} 0 1 = cc in absurd (omega arith)
      go (has-reason a b p) = let e : why_not w.host code ≡ c = cc in subst (Reason w code) e (by-mark (returns a) w.host.weave.spoiled.0 refl b)
      go (turns-on a b l p) = let z : ◌≡◌ {A = ℕ} 0 1 = cc in absurd (omega arith)
      go (ends-badly a b l d p) = let e : last_check w.lent w.index w.host ≡ c = cc in subst (Reason w code) e (by_last (unhindered a b) (at_last a l) d)
      go (ends-well a b l d p) = let z : ◌≡◌ {A = ℕ} 0 1 = cc in absurd (omega arith)

  discards : (c : Code) → Reason w code c → fate_of w.lent w.index w.host code ≡ Discarded c
  unfolding fate_of why_not last_check first_by need
  discards c (overspent r s) = rw (fine r, s)
  discards c (panicked r s) = rw (fine r, s)
  discards c (own r s d f e) = rw (fine r, s, ← e, reason-back d f, f)
  discards c (other r s n o) =
      rw (fine r, s, ← reason-other code (λ q. n Fine (sym q)) o (λ q. n Denied (sym q)) (λ q. n NotNow (sym q)) (λ q. n Unsound (sym q)) (λ q. n NoRoom (sym q)) (λ q. n Bad (sym q)) (λ q. n Budget (sym q)) (λ q. n BadValue (sym q)))
  discards c (unsound u t s) =
      let law = lawful w.lent w.host u.returns.check-1 in
      rw (
        fine u.returns,
        no-reason u,
        le-ltb w.host.weave.turn (module_count w) (omega (arith, t)),
        added-sum w.host.next.0 w.host.weave.count (2 ^ 63) law.numbers,
        s,
      )
  discards c (no_room u t s f) =
      let law = lawful w.lent w.host u.returns.check-1 in
      rw (
        fine u.returns,
        no-reason u,
        le-ltb w.host.weave.turn (module_count w) (omega (arith, t)),
        added-sum w.host.next.0 w.host.weave.count (2 ^ 63) law.numbers,
        s,
        lt-leb (w.host.used + w.host.weave.staged) (length w.lent.card) f,
      )
  discards c (no-entries u t s f g) =
      let law = lawful w.lent w.host u.returns.check-1 in
      rw (
        fine u.returns,
        no-reason u,
        le-ltb w.host.weave.turn (module_count w) (omega (arith, t)),
        added-sum w.host.next.0 w.host.weave.count (2 ^ 63) law.numbers,
        s,
        le-leb (w.host.used + w.host.weave.staged) (length w.lent.card) f,
        lt-leb (card_count w.host + w.host.weave.count) (length w.index) g,
      )

  -- THE PROMISE: discarded with a code exactly when 01 has that reason for it
  pub discarded-exactly : (c : Code) → ((step w (Return code)).said ≡ Ended (Discarded c)) ↔ Reason w code c
  unfolding step return_answer
  discarded-exactly c = (λ q. reasons c (ap fate_in q), λ r. ap Ended (discards c r))

  goes_on : fate_of w.lent w.index w.host code ≡ Running → Unhindered w code × (w.host.weave.turn < module_count w)
  goes_on q = go (fated w.lent w.index w.host code)
    where
      go : Fated w.lent w.index w.host code → Unhindered w code × (w.host.weave.turn < module_count w)
      go (turned-away a p) = let z : ◌≡◌ {A = ℕ} 0 1 = cc in absurd (omega arith)
      go (has-reason a b p) = let z : ◌≡◌ {A = ℕ} 0 1 = cc in absurd (omega arith)
      go (turns-on a b l p) = (unhindered a b, l)
      go (ends-badly a b l d p) = let z : ◌≡◌ {A = ℕ} 0 1 = cc in absurd (omega arith)
      go (ends-well a b l d p) = let z : ◌≡◌ {A = ℕ} 0 1 = cc in absurd (omega arith)

  running : Unhindered w code → w.host.weave.turn < module_count w → fate_of w.lent w.index w.host code ≡ Running
  unfolding fate_of
  running u l = rw (fine u.returns, no-reason u, lt-ltb w.host.weave.turn (module_count w) l)

  pub running-exactly : ((step w (Return code)).said ≡ Ended Running) ↔ (Unhindered w code × (w.host.weave.turn < module_count w))
  unfolding step return_answer
  running-exactly = (λ q. goes_on (ap fate_in q), λ u. ap Ended (running u.0 u.1))

  -- .. and then the next module has its turn, and nothing else has changed but that the cursors are closed
  pub turn-passes : (step w (Return code)).said ≡ Ended Running → (step w (Return code)).world ≡ record { host = with_weave w.host (next_turn w.host.weave); lent = w.lent; index = w.index; charge = w.charge }
  unfolding step return_answer return_card return_index entered offsets return_staging finished turned
  turn-passes e =
      let q = ap fate_in e in
      rw (q, no-records, splice-nil, splice-nil, added-sum w.host.weave.turn 1 16 (omega (arith, (goes_on q).1, (sized w.lent.text).most)))

  -- THE PROMISE, in numbers
  pub in-numbers : InNumbers w code (step w (Return code)).said
  in-numbers = record {
    refused = λ e. refusal-number (step w (Return code)).said e ∙ ap number (code_is w (Return code));
    discarded = λ c r. rw ((discarded-exactly c).1 r) (refl, (refl, refl));
    running = λ u l. rw (running-exactly.1 (u, l)) (refl, (refl, refl));
    committed = λ c. rw ((committed-exactly w code _ _).1 (c, (refl, refl))) (refl, (refl, refl));
  }
