-- What an accepted call answers, and whether ingress is too late after it.
-- Assumes nothing.
use mathlib.Core.Path.{◌≡◌, refl, sym, ◌∙◌, ap}
use mathlib.Core.Bool.{false, not, Bool, true, true≢false}
use mathlib.Core.List.{List}
use Prim.Native.Nat.{ℕ}
use Rattle.card.specs.Records.{size}
use Rattle.card.specs.Listing.{fit, page_of}
use Rattle.card.proofs.PageLaws.{length-shown_from}
use Rattle.weave.specs.declared.Finding.{Finding}
use Rattle.weave.specs.Codes.{is_fine}
use Rattle.weave.proofs.CodeLaws.{found_left}
use Rattle.takes.specs.Pages.{page_bytes}
use Rattle.host.specs.declared.Host.{Host}
use Rattle.host.specs.Hosts.{settle, with_weave}
use Rattle.host.specs.Begin.{begin_answer}
use Rattle.writes.specs.Stage.{ingress_answer, write_answer, is_panic, panicked, written}
use Rattle.reads.specs.Reading.{read_sound, read_check, read_answer}
use Rattle.host.specs.Cursors.{open_answer, close_answer, open_next, close_next}
use Rattle.reads.specs.Paging.{next_check, answer_by, next_answer, next_host}
use Rattle.promises.specs.Box.{World, Op, Begin, Ingress, Write, Read, Open, Next, Close, Return, LookUp, step, is_refused, Ended}
use Rattle.promises.specs.Checks.{answers, too_late}
use Rattle.promises.specs.Diary.{answer_of}
use Rattle.promises.proofs.AcceptedLaws.{settle-ok}
use Rattle.promises.proofs.AcceptedHolds.{open-exactly, read-page}
use Rattle.promises.proofs.RefusalHolds.{page-long, look_bytes}
use Rattle.promises.proofs.TidyHolds.{handle-new}
use Rattle.weave.specs.States.{fresh_weave, begun_weave, paid, holding, tabled, spoilt, turned}
use Rattle.weave.specs.Moves.{opened_with, moved_to, closed_at}
use Rattle.takes.specs.Begun.{begun}
use Rattle.host.specs.declared.Fate.{Fate}
use Rattle.host.specs.declared.Fate.TheVariants.{Refused, Discarded, Running, Committed}
use Rattle.host.specs.Ending.{fate_of, committed, finished, return_answer}

value-is : (h : Host) (f : Finding) (v : ℕ) (next : Host) → not (is_fine (settle h f v next).code) ≡ false → (settle h f v next).value ≡ v
unfolding settle
value-is h f v next e = rw (settle-ok h f v next e)

-- a page's bytes are its records'
pub page-bytes : (cap : ℕ) (rs : List (List ℕ)) → page_bytes (page_of cap rs) ≡ size (fit cap rs)
page-bytes cap rs = sym (page-long 0 cap rs) ∙ length-shown_from 0 (fit cap rs)

-- THE PROMISE
pub answers-are : (w : World) (o : Op) → is_refused (step w o).said ≡ false → answer_of (step w o).said ≡ answers w o
unfolding step begin_answer ingress_answer write_answer read_answer read_check open_answer next_answer answer_by close_answer
answers-are w (Begin args) e = value-is w.host _ 0 _ e
answers-are w (Ingress topic payload) e = value-is w.host _ 0 _ e
answers-are w (Write m a) e = value-is w.host _ 0 _ e
answers-are w (Read m a) e =
    value-is w.host (read_check w.lent w.host m a) _ _ e
    ∙ rw (read-page w m a (found_left (read_sound w.lent w.host m a) _ (settle-ok w.host (read_check w.lent w.host m a) _ _ e))) (page-bytes _ _)
answers-are w (Open m a) e = value-is w.host _ _ _ e ∙ handle-new w.host.weave ((open-exactly w m a).0 e).room
answers-are w (Next m a) e =
    value-is w.host (next_check w.lent w.index w.host m a) _ _ e
    ∙ look_bytes w.lent w.index w.host m a (settle-ok w.host (next_check w.lent w.index w.host m a) _ _ e)
answers-are w (Close m a) e = value-is w.host _ 0 _ e
answers-are w (Return code) e = refl
answers-are w (LookUp id) e = refl

-- ---- ingress

-- the state that an accepted call leaves
host-is : (h : Host) (f : Finding) (v : ℕ) (next : Host) → not (is_fine (settle h f v next).code) ≡ false → (settle h f v next).host ≡ next
unfolding settle
host-is h f v next e = rw (settle-ok h f v next e)

late_of : (h : Host) (f : Finding) (v : ℕ) (next : Host) → not (is_fine (settle h f v next).code) ≡ false → (settle h f v next).host.weave.late ≡ next.weave.late
late_of h f v next e = ap (λ (x : Host). x.weave.late) (host-is h f v next e)

-- a write, panic or not
written-late : (h : Host) (panic : Bool) (cost t d n : ℕ) → (written h panic cost t d n).weave.late ≡ true
unfolding written panicked with_weave holding paid spoilt
written-late h true cost t d n = refl
written-late h false cost t d n = refl

-- a return, by what came of it
fate-late : (h : Host) (f : Fate) → is_refused (Ended f) ≡ false → (finished h f).weave.running ≡ true → (finished h f).weave.late ≡ true
unfolding finished committed with_weave turned fresh_weave
fate-late h (Refused c) e r = absurd (true≢false e)
fate-late h (Discarded c) e r = absurd (true≢false (sym r))
fate-late h Running e r = refl
fate-late h (Committed events bytes) e r = absurd (true≢false (sym r))

-- THE PROMISE
pub late_is : (w : World) (o : Op) → is_refused (step w o).said ≡ false → (step w o).world.host.weave.running ≡ true → (step w o).world.host.weave.late ≡ too_late w o
unfolding step begin_answer ingress_answer write_answer read_answer open_answer open_next next_answer answer_by next_host close_answer close_next return_answer with_weave begun begun_weave holding paid opened_with moved_to closed_at tabled
late_is w (Begin args) e r = late_of w.host _ 0 _ e
late_is w (Ingress topic payload) e r = late_of w.host _ 0 _ e
late_is w (Write m a) e r = late_of w.host _ 0 _ e ∙ written-late w.host (is_panic m a) _ _ _ _
late_is w (Read m a) e r = late_of w.host (read_check w.lent w.host m a) _ _ e
late_is w (Open m a) e r = late_of w.host _ _ _ e
late_is w (Next m a) e r = late_of w.host (next_check w.lent w.index w.host m a) _ _ e
late_is w (Close m a) e r = late_of w.host _ 0 _ e
late_is w (Return code) e r = fate-late w.host (fate_of w.lent w.index w.host code) e r
late_is w (LookUp id) e r = refl
