-- "Two bands share a box": two boxes that are alike are told apart by no call of the module whose turn it is, nor by its return.
-- Assumes nothing.
use mathlib.Core.Path.{◌≡◌, refl, sym, ap, ◌∙◌, subst}
use mathlib.Core.Bool.{Bool, true, false, true≢false}
use mathlib.Core.List.Memᴰ
use mathlib.Core.List.{List, [], ◌∷◌, ◌++◌, map, head-eq_of_cons-eq, Memᴰ}
use mathlib.Core.Logic.{⊎_elim, ◌↔◌}
use Prim.Native.Nat.{ℕ, zero, suc}
use Rattle.weave.specs.declared.Finding.{Finding}
use Rattle.weave.specs.Codes.{is_budget}
use Rattle.weave.specs.Findings.{is_clear}
use Rattle.weave.specs.Moves.{opened_with, moved_to, closed_at}
use Rattle.weave.specs.States.{paid, holding, tabled, spoilt}
use Rattle.host.specs.declared.Host.{Host}
use Rattle.host.specs.Hosts.{with_weave, turned_away, settle}
use Rattle.host.specs.Cursors.{open_next, open_answer, close_next, close_answer}
use Rattle.writes.specs.Stage.{is_panic, panicked, written, write_answer}
use Rattle.reads.specs.Reading.{read_answer}
use Rattle.reads.specs.Paging.{answer_by, next_host, next_answer}
use Rattle.promises.specs.Box.{World, card_records, staged_records, Op, Begin, Ingress, Write, Read, Open, Next, Close, Return, LookUp, Step, step}
use Rattle.promises.specs.Fields.{is_module_call}
use Rattle.promises.specs.Outcome.{says_committed}
use Rattle.promises.specs.TwoBands.{Beside, CardsAlike, Alike, Call, ToWrite, ToRead, ToOpen, ToNext, ToClose, asked, after_calls, Heard, heard_of, played_by, SameTurn}
use Rattle.promises.specs.SideBySide.{KeepsTo, AllKeepTo, Together}
use Rattle.promises.proofs.IndexHolds.{same-indexed, appended-indexed}
use Rattle.promises.proofs.CardHolds.{index_kept, only-commit, long_kept, said-appends, appended-records}
use Rattle.promises.proofs.TwoBandsLaws.{step_with, step_same, is-with}

-- ---- one call

module _ (listeners : ℕ → Type 0) (w₁ w₂ : World) (b : Beside w₁ w₂) (alike : (k : ℕ) → listeners k → CardsAlike k w₁ w₂) (o : Op) (keeps : KeepsTo listeners w₁ o) where
  same_step : step w₂ o ≡ step_with (step w₁ o) (step w₂ o).world.lent.card (step w₂ o).world.index
  same_step =
      subst (λ (w : World). ((k : ℕ) → listeners k → CardsAlike k w₁ w) → step w o ≡ step_with (step w₁ o) (step w o).world.lent.card (step w o).world.index) (is-with w₁ w₂ b)
      (λ c. step_same w₁ w₂.lent.card w₂.index b.card-length b.index-length listeners c o keeps) alike

  heard-same : heard_of w₁ o ≡ heard_of w₂ o
  heard-same = sym (ap (λ (s : Step). record { said = s.said; field = s.field; memory = s.memory }) same_step)

  beside-on : Beside (step w₁ o).world (step w₂ o).world
  beside-on = record {
    text = sym (ap (λ (s : Step). s.world.lent.text) same_step);
    staging = sym (ap (λ (s : Step). s.world.lent.staging) same_step);
    card-length = long_kept w₁ o ∙ b.card-length ∙ sym (long_kept w₂ o);
    index-length = index_kept w₁ o ∙ b.index-length ∙ sym (index_kept w₂ o);
    charge = sym (ap (λ (s : Step). s.world.charge) same_step);
    state = sym (ap (λ (s : Step). s.world.host) same_step);
  }

  -- each card is as it was, or has the same events behind its own
  cards-on : (k : ℕ) → CardsAlike k w₁ w₂ → CardsAlike k (step w₁ o).world (step w₂ o).world
  cards-on k c = go (says_committed (step w₁ o).said) refl
    where
      too : (t : Bool) → says_committed (step w₁ o).said ≡ t → says_committed (step w₂ o).said ≡ t
      too t e = ap (λ (x : Heard). says_committed x.said) (sym heard-same) ∙ e

      staged-same : staged_records w₂ ≡ staged_records w₁
      staged-same = rw (b.staging, b.state)

      among : (r : List ℕ) (rs ss more : List (List ℕ)) → Memᴰ r rs ↔ Memᴰ r ss → Memᴰ r (rs ++ more) → Memᴰ r (ss ++ more)
      among r rs ss more e m = ⊎_elim (λ q. Memᴰ.append_left more (e.0 q)) (λ q. Memᴰ.append_right ss q) (Memᴰ.append_cases rs m)

      go : (t : Bool) → says_committed (step w₁ o).said ≡ t → CardsAlike k (step w₁ o).world (step w₂ o).world
      go false none =
          let s₁ = only-commit w₁ o none in
          let s₂ = only-commit w₂ o (too false none) in
          record {
            sound₁ = same-indexed w₁ (step w₁ o).world s₁ c.sound₁;
            sound₂ = same-indexed w₂ (step w₂ o).world s₂ c.sound₂;
            agree = rw (s₁.text, s₁.card, s₁.used, s₂.card, s₂.used) c.agree;
          }
      go true said =
          let a₁ = said-appends w₁ o said in
          let a₂ = said-appends w₂ o (too true said) in
          let r₁ = appended-records w₁ (step w₁ o).world a₁.0 c.sound₁.sound a₁.1.1.sound in
          let r₂ = appended-records w₂ (step w₂ o).world a₂.0 c.sound₂.sound a₂.1.1.sound in
          record {
            sound₁ = appended-indexed w₁ (step w₁ o).world a₁.0 a₁.1 c.sound₁;
            sound₂ = appended-indexed w₂ (step w₂ o).world a₂.0 a₂.1 c.sound₂;
            agree = λ r y.
                let e = c.agree r (rw a₁.0.text at y) in
                rw (r₁.1, r₂.1, staged-same) (among r (card_records w₁) (card_records w₂) (staged_records w₁) e, among r (card_records w₂) (card_records w₁) (staged_records w₁) (e.1, e.0));
          }

-- ---- any calls

pub side_by_side : (listeners : ℕ → Type 0) (os : List Op) (w₁ w₂ : World) → Beside w₁ w₂ → ((k : ℕ) → listeners k → CardsAlike k w₁ w₂) → AllKeepTo listeners w₁ os → Together listeners w₁ w₂ os
side_by_side listeners [] w₁ w₂ b c keep = record { hears = refl; beside = b; cards = c }
side_by_side listeners (o ∷ os) w₁ w₂ b c keep =
    let rest =
    side_by_side listeners os (step w₁ o).world (step w₂ o).world (beside-on listeners w₁ w₂ b c o keep.0) (λ k s. cards-on listeners w₁ w₂ b c o keep.0 k (c k s)) keep.1 in
    record { hears = λ i. heard-same listeners w₁ w₂ b c o keep.0 i ∷ rest.hears i; beside = rest.beside; cards = rest.cards }

-- ---- a module's calls

-- they are the module calls, all of them
pub all_asked : (o : Op) → (is_module_call o ≡ true) ↔ ((c : Call) × (asked c ≡ o))
all_asked o = (calls o, λ p. subst (λ (x : Op). is_module_call x ≡ true) p.1 (is_call p.0))
  where
    is_call : (c : Call) → is_module_call (asked c) ≡ true
    is_call (ToWrite m a) = refl
    is_call (ToRead m a) = refl
    is_call (ToOpen m a) = refl
    is_call (ToNext m a) = refl
    is_call (ToClose m a) = refl

    calls : (o : Op) → is_module_call o ≡ true → (c : Call) × (asked c ≡ o)
    calls (Begin args) e = absurd (true≢false (sym e))
    calls (Ingress topic payload) e = absurd (true≢false (sym e))
    calls (Write m a) e = (ToWrite m a, refl)
    calls (Read m a) e = (ToRead m a, refl)
    calls (Open m a) e = (ToOpen m a, refl)
    calls (Next m a) e = (ToNext m a, refl)
    calls (Close m a) e = (ToClose m a, refl)
    calls (Return code) e = absurd (true≢false (sym e))
    calls (LookUp id) e = absurd (true≢false (sym e))

-- the turn stays

settle-turn : (h : Host) (f : Finding) (v : ℕ) (next' : Host) → next'.weave.turn ≡ h.weave.turn → (settle h f v next').host.weave.turn ≡ h.weave.turn
unfolding settle turned_away with_weave spoilt
settle-turn h f v next' e = go (is_clear f) refl (is_budget f.code) refl
  where
    go : (t : Bool) → is_clear f ≡ t → (b : Bool) → is_budget f.code ≡ b → (settle h f v next').host.weave.turn ≡ h.weave.turn
    go true q b r = rw q e
    go false q true r = rw (q, r)
    go false q false r = rw (q, r)

written-turn : (h : Host) (panic : Bool) (cost t d n : ℕ) → (written h panic cost t d n).weave.turn ≡ h.weave.turn
unfolding written panicked with_weave spoilt paid holding
written-turn h true cost t d n = refl
written-turn h false cost t d n = refl

record InItsTurn (w : World) (o : Op) : Type 0 where
  turn : (step w o).world.host.weave.turn ≡ w.host.weave.turn
  keeps : KeepsTo (λ (k : ℕ). k ≡ w.host.weave.turn) w o

stays-in-turn : (w : World) (c : Call) → InItsTurn w (asked c)
unfolding step write_answer read_answer open_answer next_answer answer_by close_answer with_weave paid open_next opened_with next_host moved_to close_next closed_at tabled
stays-in-turn w (ToWrite m a) = record { turn = settle-turn w.host _ _ _ (written-turn w.host (is_panic m a) _ _ _ _); keeps = tt }
stays-in-turn w (ToRead m a) = record { turn = settle-turn w.host _ _ _ refl; keeps = tt }
stays-in-turn w (ToOpen m a) = record { turn = settle-turn w.host _ _ _ refl; keeps = tt }
stays-in-turn w (ToNext m a) = record { turn = settle-turn w.host _ _ _ refl; keeps = refl }
stays-in-turn w (ToClose m a) = record { turn = settle-turn w.host _ _ _ refl; keeps = tt }

record TurnKept (t : ℕ) (w : World) (cs : List Call) : Type 0 where
  keep : AllKeepTo (λ (k : ℕ). k ≡ t) w (map asked cs)
  turn : (after_calls w cs).host.weave.turn ≡ t

in-turn : (t : ℕ) (cs : List Call) (w : World) → w.host.weave.turn ≡ t → TurnKept t w cs
in-turn t [] w e = record { keep = tt; turn = e }
in-turn t (c ∷ cs) w e =
    let here = stays-in-turn w c in
    let rest = in-turn t cs (step w (asked c)).world (here.turn ∙ e) in
    record {
      keep = (subst (λ (n : ℕ). KeepsTo (λ (k : ℕ). k ≡ n) w (asked c)) e here.keeps, rest.keep);
      turn = rest.turn;
    }

-- ---- two boxes that are alike

-- THE PROMISE
pub turn-same : (w₁ w₂ : World) → Alike w₁ w₂ → (cs : List Call) → SameTurn w₁ w₂ cs
turn-same w₁ w₂ a cs =
    let t = in-turn w₁.host.weave.turn cs w₁ refl in
    let s = side_by_side (λ (k : ℕ). k ≡ w₁.host.weave.turn) (map asked cs) w₁ w₂ a.beside (λ k e. rw e a.cards) t.keep in
    record {
      hears = s.hears;
      staging = s.beside.staging;
      units = ap (λ (h : Host). h.weave.units) s.beside.state;
      alike = record { beside = s.beside; cards = s.cards _ t.turn };
      outcome = λ code. heard-same (λ (k : ℕ). ⊥) (after_calls w₁ cs) (after_calls w₂ cs) s.beside (λ k n. absurd n) (Return code) tt;
      behind = λ code. beside-on (λ (k : ℕ). ⊥) (after_calls w₁ cs) (after_calls w₂ cs) s.beside (λ k n. absurd n) (Return code) tt;
    }

-- So no module tells them apart: whatever it does by what it has heard, it makes the same calls in both.
pub plays-same : (plays : List Heard → Call) (n : ℕ) (w₁ w₂ : World) → Alike w₁ w₂ → (past : List Heard) → played_by plays n w₁ past ≡ played_by plays n w₂ past
plays-same plays zero w₁ w₂ a past = refl
plays-same plays (suc n) w₁ w₂ a past =
    let c = plays past in
    let t = turn-same w₁ w₂ a (c ∷ []) in
    let h : heard_of w₁ (asked c) ≡ heard_of w₂ (asked c) = head-eq_of_cons-eq t.hears in
    ap (λ (l : List Call). c ∷ l)
    (plays-same plays n (step w₁ (asked c)).world (step w₂ (asked c)).world t.alike (heard_of w₁ (asked c) ∷ past)
    ∙ ap (λ (x : Heard). played_by plays n (step w₂ (asked c)).world (x ∷ past)) h)
