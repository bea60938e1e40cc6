-- What the same listener knows of the weave and the process from the calls and their answers alone: whether a weave runs, its mark, how many cursors it has
-- opened and which are open, and whether the process is faulted. No box is looked at; that the box stands so after any calls is a promise.
-- Assumes nothing.
use Rattle.std.specs.Prelude.{◌≡◌, Bool, true, false, not, ◌&&◌, ◌||◌, cond, List, [], ◌∷◌, ℕ, ◌+◌, eqb, ltb, length}
use Rattle.card.specs.Pick.{only}
use Rattle.weave.specs.declared.Spoiled.{Spoiled}
use Rattle.weave.specs.declared.Spoiled.TheVariants.{Not, Overspent, Panicked}
use Rattle.weave.specs.Codes.{is_budget}
use Rattle.weave.specs.Args.{close_handle}
use Rattle.weave.specs.Checks.{handle_fine, slot_fine}
use Rattle.host.specs.declared.Fate.TheVariants.{Refused, Discarded, Running, Committed}
use Rattle.writes.specs.Stage.{is_panic}
use Rattle.promises.specs.Box.{World, Op, Begin, Ingress, Write, Read, Open, Next, Close, Return, LookUp, Said, Answered, Ended, Part, step, is_refused, code_of}
use Rattle.promises.specs.Diary.{answer_of}

pub record Standing : Type 0 where
  pub running : Bool
  pub faulted : Bool
  pub mark : Spoiled
  -- how many cursors the weave has opened, and the handles of those that are open
  pub opened : ℕ
  pub handles : List ℕ

-- no weave runs, and nothing of one is left
abbrev pub idle : Bool → Standing
idle faulted' = record { running = false; faulted = faulted'; mark = Not; opened = 0; handles = [] }

-- mount, refused or not: "its state all 0", "a fresh state"
abbrev pub at_mount : Standing
at_mount = idle false

-- ---- one call and its answer

-- begin: a weave runs, unmarked, with no cursor
abbrev pub started : Standing → Standing
started s = record { running = true; faulted = s.faulted; mark = Not; opened = 0; handles = [] }

-- "the first -6 marks the weave spoiled"
abbrev pub overspent : Standing → Standing
overspent s = record { running = s.running; faulted = s.faulted; mark = Overspent; opened = s.opened; handles = s.handles }

-- a write to `filament/core/panic` "spoils the weave (-1) and marks the process faulted"
abbrev pub panics : Standing → Standing
panics s = record { running = s.running; faulted = true; mark = Panicked; opened = s.opened; handles = s.handles }

-- "handle numbers 1, 2, 3 .. within the weave": the handle k was answered
abbrev pub opens : Standing → ℕ → Standing
opens s k = record { running = s.running; faulted = s.faulted; mark = s.mark; opened = s.opened + 1; handles = k ∷ s.handles }

-- with these cursors open
abbrev pub with_handles : Standing → List ℕ → Standing
with_handles s handles' = record { running = s.running; faulted = s.faulted; mark = s.mark; opened = s.opened; handles = handles' }

abbrev pub without : ℕ → List ℕ → List ℕ
without k js = only (λ (j : ℕ). not (eqb j k)) js

-- "Cursors close at each return"; a commit and a discard end the weave, "(but for faulted)"
abbrev pub after_return : Standing → Said → Standing
after_return s (Answered c v) = s
after_return s (Ended (Refused c)) = s
after_return s (Ended (Discarded c)) = idle s.faulted
after_return s (Ended Running) = with_handles s []
after_return s (Ended (Committed events bytes)) = idle s.faulted
after_return s (Part bytes) = s

-- a call that was accepted, with its answer
abbrev pub done : Standing → Op → Said → Standing
done s (Begin args) said = started s
done s (Ingress topic payload) said = s
done s (Write m a) said = cond (is_panic m a) (panics s) s
done s (Read m a) said = s
done s (Open m a) said = opens s (answer_of said)
done s (Next m a) said = s
done s (Close m a) said = with_handles s (without (close_handle m a) s.handles)
done s (Return code) said = after_return s said
done s (LookUp id) said = s

-- any call: "A refusal leaves .. the state as before, with one exception: the first -6"
abbrev pub heard : Standing → Op → Said → Standing
heard s o said = cond (is_refused said) (cond (is_budget (code_of said)) (overspent s) s) (done s o said)

abbrev pub standing : World → Standing → List Op → Standing
standing w s [] = s
standing w s (o ∷ os) = standing (step w o).world (heard s o (step w o).said) os

-- ---- the box stands so

abbrev pub is_among : ℕ → List ℕ → Bool
is_among k [] = false
is_among k (j ∷ js) = eqb j k || is_among k js

pub record Stands (w : World) (s : Standing) : Type 0 where
  pub running : w.host.weave.running ≡ s.running
  pub faulted : w.host.faulted ≡ s.faulted
  pub mark : w.host.weave.spoiled.0 ≡ s.mark
  pub opened : w.host.weave.opened ≡ s.opened
  -- check 9, "handle not open": exactly these handles are open
  pub handles : (k : ℕ) → handle_fine w.host.weave k ≡ is_among k s.handles
  -- "-4 exactly when 4 are open or 65,535 have been opened; a closed cursor's room is used again"
  pub room : slot_fine w.host.weave ≡ ltb (length s.handles) 4 && ltb s.opened 65535
