-- The cursor of an open is the one that its bytes ask for; what a panic leaves; the numbers of what is said.
-- Assumes nothing.
use mathlib.Core.Path.{◌≡◌, refl, sym}
use mathlib.Core.Bool.{true, false, true≢false}
use mathlib.Core.List.{List, [], ◌∷◌, map}
use Prim.Native.Nat.{ℕ, ◌≤◌}
use native.Mathlib.Omega.{arith}
use borrow.Author.Tests.{leb-true, not-true}
use lib.Dec.{leb}
use lib.IntN.{negsuc}
use lib.ListN.{length, take, length-replicate}
use lib.Seq.{take_all}
use Rattle.le.specs.Splice.{splice, zeros, part}
use Rattle.le.proofs.SpliceLaws.{length_part, part-of-splice}
use Rattle.le.proofs.TestLaws.{and_left, and_right}
use Rattle.text.specs.Span.{inside}
use Rattle.text.specs.Topic.{good_text}
use Rattle.text.proofs.SpanLaws.{inside-end}
use Rattle.value.specs.Values.{fault_number}
use Rattle.value.specs.declared.Fault.{Fault}
use Rattle.value.specs.declared.Fault.TheVariants.{Outside, Unfit}
use Rattle.std.specs.Prelude.{Result, Ok, Err}
use Rattle.card.specs.Listing.{filter_of}
use Rattle.weave.specs.declared.Code.TheVariants.{Denied, NotNow, Unsound, NoRoom, Bad, Budget, BadValue}
use Rattle.weave.specs.Codes.{is_fine, number}
use Rattle.weave.specs.States.{paid, spoilt}
use Rattle.weave.specs.Args.{open_args, filter_fine, filter_bytes}
use Rattle.takes.specs.Opening.{opening}
use Rattle.takes.specs.Payloads.{fault_code}
use Rattle.host.specs.declared.Fate.TheVariants.{Refused, Discarded, Running, Committed}
use Rattle.host.specs.Hosts.{turned_away, settle}
use Rattle.writes.specs.Stage.{is_panic, panicked, written, write_check, write_answer, write_staging}
use Rattle.promises.specs.Box.{World, Write, Open, Said, Answered, Ended, Part, step, is_refused, code_of, said_number}
use Rattle.promises.specs.Outcome.{PanicLeft}
use Rattle.promises.specs.Turn.{AskedBy}
use Rattle.promises.proofs.AcceptedLaws.{settle-ok}
use Rattle.promises.proofs.AcceptedHolds.{open-exactly}
use Rattle.promises.proofs.DiaryHolds.{added-nothing}

-- ---- the cursor of an open

-- a text that was kept in k bytes is there again
kept-front : (k : ℕ) (t : List ℕ) (n : ℕ) → length t ≡ n → n ≤ k → take n (splice (zeros k) 0 (take k t)) ≡ t
unfolding part
kept-front k t n e h =
    let all : take k t ≡ t = take_all k t (omega arith) in
    rw (all, ← e) (part-of-splice (zeros k) 0 t (omega (arith, length-replicate {0} {A = ℕ} k 0)))

pub asked_by : (w : World) (m : List ℕ) (a k : ℕ) → is_refused (step w (Open m a)).said ≡ false → AskedBy m a (opening m (open_args m a) k).cursor
unfolding opening filter_of filter_bytes filter_fine good_text
asked_by w m a k e =
    let f = ((open-exactly w m a).0 e).filter in
    let p = (open_args m a).topic.ptr in
    let n = (open_args m a).topic.len in
    let long : length (part p n m) ≡ n = length_part p n m (inside-end p n (length m) (and_left (inside p n (length m)) _ f)) in
    let text = and_right (leb 0 (length (part p n m))) _ (and_right (inside p n (length m)) _ f) in
    let most = leb-true (length (part p n m)) 64 (and_left (leb (length (part p n m)) 64) _ text) in
    record { filter = kept-front 64 (part p n m) n long (omega (arith, long, most)); from = refl; to = refl; limit = refl; desc = refl }

-- ---- a panic

pub panic-left : (w : World) (m : List ℕ) (a : ℕ) → is_refused (step w (Write m a)).said ≡ false → is_panic m a ≡ true → PanicLeft w (step w (Write m a))
unfolding step write_answer write_staging settle turned_away written panicked paid spoilt
panic-left w m a e p =
    let c = settle-ok w.host (write_check w.charge w.lent w.host m a) 0 _ e in
    record {
      answer = rw c;
      staging = rw (c, p);
      staged = rw (c, p);
      count = rw (c, p);
      units = rw (c, p) (added-nothing w.host.weave.units w.host.weave.resmax);
      spoils = rw (c, p);
      faulted = rw (c, p);
    }

-- ---- numbers

-- 01, "Codes": the table
pub codes-are : map number (Denied ∷ NotNow ∷ Unsound ∷ NoRoom ∷ Bad ∷ Budget ∷ BadValue ∷ [])
    ≡ negsuc 0 ∷ negsuc 1 ∷ negsuc 2 ∷ negsuc 3 ∷ negsuc 4 ∷ negsuc 5 ∷ negsuc 6 ∷ []
codes-are = refl

-- a value's fault and the code that it gives have one number
pub fault-numbers : (k : Result ℕ Fault) → fault_number k ≡ number (fault_code k)
fault-numbers (Ok len) = refl
fault-numbers (Err Outside) = refl
fault-numbers (Err Unfit) = refl

-- a refusal says its code's number, and that is no answer
pub refusal-number : (s : Said) → is_refused s ≡ true → said_number s ≡ number (code_of s)
refusal-number (Answered c v) e = rw (not-true (is_fine c) e)
refusal-number (Ended (Refused c)) e = refl
refusal-number (Ended (Discarded c)) e = absurd (true≢false (sym e))
refusal-number (Ended Running) e = absurd (true≢false (sym e))
refusal-number (Ended (Committed events bytes)) e = absurd (true≢false (sym e))
refusal-number (Part bytes) e = absurd (true≢false (sym e))
