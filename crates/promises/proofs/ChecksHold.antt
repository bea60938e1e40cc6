-- What a call finds, its code and its field, is that of the first check that fails, in 01's order; a call is accepted exactly when none does.
-- Assumes nothing.
use mathlib.Core.Path.{◌≡◌, refl, sym, ap, ◌∙◌}
use mathlib.Core.Bool.{Bool, true, false, not, ◌&&◌, ◌||◌, cond, true≢false}
use mathlib.Core.List.{List, [], ◌∷◌, ◌++◌}
use mathlib.Core.Logic.{◌↔◌}
use Prim.Native.Nat.{ℕ, ◌+◌}
use borrow.Author.Tests.{not-false}
use lib.Dec.{leb, eqb}
use lib.IntN.{ℤ}
use lib.ListN.{length}
use Rattle.value.specs.declared.Fault.{Fault}
use Rattle.value.specs.declared.Fault.TheVariants.{Outside, Unfit}
use Rattle.std.specs.Prelude.{Result, Ok, Err}
use Rattle.card.specs.Pick.{All}
use Rattle.card.specs.declared.Page.{Page}
use Rattle.card.specs.declared.Page.TheVariants.{End, Short, Bytes, Fault as Faulty}
use Rattle.card.specs.Records.{size}
use Rattle.card.specs.Listing.{fit, page_of}
use Rattle.card.specs.Look.{Stop, AtEnd, Full, AtFault, Look, end_of, short_of, page_at, page_after, page_by, is_fault}
use Rattle.weave.specs.declared.Code.{Code}
use Rattle.weave.specs.declared.Code.TheVariants.{Fine, Denied, NotNow, Unsound, NoRoom, Bad, Budget, BadValue}
use Rattle.weave.specs.declared.Finding.{Finding}
use Rattle.weave.specs.declared.Spoiled.{Spoiled}
use Rattle.weave.specs.declared.Spoiled.TheVariants.{Not, Overspent, Panicked}
use Rattle.weave.specs.Codes.{is_fine, need, first_by, reason_for}
use Rattle.weave.specs.Findings.{plain, before_record, is_clear, first_found}
use Rattle.weave.specs.Args.{write_args, read_args}
use Rattle.weave.specs.Checks.{running_check, budget_check}
use Rattle.takes.specs.Pages.{page_code, page_check}
use Rattle.takes.specs.Payloads.{payload_checked, fault_code}
use Rattle.host.specs.declared.Host.{Host}
use Rattle.host.specs.declared.Answer.{Answer}
use Rattle.host.specs.Hosts.{Lent, lent_check, indexed_check, gate_check, gate_found, turned_away, settle}
use Rattle.host.specs.Begin.{begin_check, begin_answer}
use Rattle.writes.specs.Stage.{room_fine, write_charge, ingress_checks, ingress_check, ingress_answer, is_panic, data_len, stage_check, write_checks, write_check, write_answer}
use Rattle.reads.specs.Reading.{read_checks, read_sound, read_list, read_page, read_check, read_answer}
use Rattle.host.specs.Cursors.{open_check, open_answer, close_check, close_answer}
use Rattle.reads.specs.Paging.{next_checks, next_found, next_look, page_found, check_by, next_check, answer_by, next_answer}
use Rattle.host.specs.Ending.{return_check, return_answer}
use Rattle.promises.specs.Box.{World, Op, Begin, Ingress, Write, Read, Open, Next, Close, Return, LookUp, answered, step, is_refused, code_of}
use Rattle.promises.specs.Checks.{Check, Passed, is_overspent, is_panicked, is_outside, is_unfit, check, check_at, failing, failing_field, lent_asked, index_asks, gate, paged, write_asks, read_first, open_asks, next_first, close_asks, checks_of}
use Rattle.promises.proofs.CheckLaws.{proper, none_of, all-passed, Comes, joined, last, then, Finds, finds-code, finds-field, followed, plainly, named, field-then, plain-last, plain_then}
use Rattle.promises.proofs.OutcomeHolds.{Fated, turned-away, has-reason, turns-on, ends-badly, ends-well, fated}

pub fine-is : (c : Code) → is_fine c ≡ true → c ≡ Fine
fine-is Fine e = refl
fine-is Denied e = absurd (true≢false (sym e))
fine-is NotNow e = absurd (true≢false (sym e))
fine-is Unsound e = absurd (true≢false (sym e))
fine-is NoRoom e = absurd (true≢false (sym e))
fine-is Bad e = absurd (true≢false (sym e))
fine-is Budget e = absurd (true≢false (sym e))
fine-is BadValue e = absurd (true≢false (sym e))

-- what is asked when the checks before it are passed
under : (c : Finding) (f : Page → Finding) (p : Page) → first_found c (f (cond (is_clear c) p End)) ≡ first_found c (f p)
unfolding first_by
under c f p = go (is_clear c) refl
  where
    go : (t : Bool) → is_clear c ≡ t → cond t (f (cond t p End)) c ≡ cond t (f p) c
    go true q = refl
    go false q = refl

-- ---- each call's

spoiled-code : (s : Spoiled) → Comes (reason_for s) (check (not (is_overspent s)) Budget ∷ check (not (is_panicked s)) Denied ∷ [])
spoiled-code Not = record { is = refl }
spoiled-code Overspent = record { is = refl }
spoiled-code Panicked = record { is = refl }

fault-code : (f : Result ℕ Fault) → Comes (fault_code f) (check_at (not (is_outside f)) 16 ∷ check (not (is_unfit f)) BadValue ∷ [])
fault-code (Ok len) = record { is = refl }
fault-code (Err Outside) = record { is = refl }
fault-code (Err Unfit) = record { is = refl }

-- a page that no record stands on which is not sound
abbrev faulty : Page → Bool
faulty End = false
faulty Short = false
faulty (Bytes n) = false
faulty Faulty = true

page-code : (p : Page) → Comes (page_code p) (check (not (faulty p)) Unsound ∷ check (is_fine (page_code p)) NoRoom ∷ [])
page-code End = record { is = refl }
page-code Short = record { is = refl }
page-code (Bytes n) = record { is = refl }
page-code Faulty = record { is = refl }

-- a list has no such record
list_code : (cap : ℕ) (l : List (List ℕ)) → Comes (page_code (page_of cap l)) (check (is_fine (page_code (page_of cap l))) NoRoom ∷ [])
unfolding page_of
list_code cap [] = record { is = refl }
list_code cap (r ∷ t) = go (leb (length r) cap)
  where
    go : (b : Bool) → Comes (page_code (cond b (Bytes (size (fit cap (r ∷ t)))) Short)) (check (is_fine (page_code (cond b (Bytes (size (fit cap (r ∷ t)))) Short))) NoRoom ∷ [])
    go true = record { is = refl }
    go false = record { is = refl }

look-fault : (k : Look) → faulty (page_by k) ≡ is_fault k.stop
unfolding page_after end_of short_of
look-fault k = go k.stop (0 + size k.part)
  where
    some : (b : Bool) (p : Page) (n : ℕ) → faulty p ≡ false → faulty (cond b p (Bytes n)) ≡ false
    some true p n e = e
    some false p n e = refl

    go : (e : Stop) (n : ℕ) → faulty (page_at e n) ≡ is_fault e
    go AtEnd n = some (eqb n 0) End n refl
    go Full n = some (eqb n 0) Short n refl
    go AtFault n = refl

two : (a b : Bool) (c : Code) → Comes (need (a && b) c) (check a c ∷ check b c ∷ [])
unfolding need
two true b c = record { is = refl }
two false b c = record { is = refl }

stage_code : (h : Host) (p : Bool) (cost t d n : ℕ)
    → Comes (stage_check h p cost t d n) (check (p || room_fine h t d n) NoRoom ∷ check (p || leb (h.weave.units + cost) h.weave.resmax) Budget ∷ [])
unfolding stage_check budget_check
stage_code h true cost t d n = record { is = refl }
stage_code h false cost t d n = then _ NoRoom _ _ refl (last _ Budget)

module _ (w : World) where
  abbrev l : Lent
  l = w.lent

  abbrev h : Host
  h = w.host

  abbrev table : List ℕ
  table = w.index

  begin-code : (args : List ℕ) → Comes (begin_check l h args) (checks_of w (Begin args))
  unfolding begin_check lent_check
  begin-code args = then _ Bad _ _ refl (then _ NotNow _ _ refl (then _ Denied _ _ refl (last _ Bad)))

  pub begin-finds : (args : List ℕ) → Finds (plain (begin_check l h args)) (checks_of w (Begin args))
  begin-finds args = plainly (begin_check l h args) (checks_of w (Begin args)) (begin-code args) refl

  ingress-code : (topic payload : List ℕ) → Comes (ingress_check l h topic payload) (checks_of w (Ingress topic payload))
  unfolding ingress_checks lent_check
  ingress-code topic payload =
      then _ Bad _ _ refl
      (joined (check h.weave.running NotNow ∷ check (not h.weave.late) NotNow ∷ []) _ _ _ refl
      (two h.weave.running (not h.weave.late) NotNow) (then _ Bad _ _ refl (last _ NoRoom)))

  pub ingress-finds : (topic payload : List ℕ) → Finds (plain (ingress_check l h topic payload)) (checks_of w (Ingress topic payload))
  ingress-finds topic payload = plainly (ingress_check l h topic payload) (checks_of w (Ingress topic payload)) (ingress-code topic payload) refl

  module _ (m : List ℕ) (a : ℕ) where
    gate-code : Comes (gate_check l h (length m)) (gate w m)
    unfolding gate_check lent_check running_check
    gate-code = then _ Bad _ _ refl (then _ Bad _ _ refl (then _ NotNow _ _ refl (spoiled-code h.weave.spoiled.0)))

    -- a module call: the gate, then what else it asks
    gated : (f : Finding) (cs : List Check) → Finds f cs → Finds (first_found (gate_found l h (length m)) f) (gate w m ++ cs)
    gated f cs = followed (gate w m) cs (gate_found l h (length m)) f refl (named before_record (gate_check l h (length m)) (gate w m) gate-code refl)

    pub write-finds : Finds (write_check w.charge l h m a) (checks_of w (Write m a))
    unfolding write_checks
    write-finds =
        gated _ (write_asks w m a)
        (field-then _ 255 _ _ (field-then _ 0 _ _ (field-then _ 32 _ _ (field-then _ 16 _ _ (field-then _ 24 _ _ (plain_then _ Denied _ _ refl
        (followed (check_at _ 16 ∷ check _ BadValue ∷ []) _ _ _ refl (named 16 _ _ (fault-code (payload_checked m (write_args m a))) refl)
        (plainly _ _ (stage_code h (is_panic m a) (write_charge w.charge m a) (write_args m a).topic.len (data_len m a) (length l.staging)) refl))))))))

    pub open-finds : Finds (open_check l h m a) (checks_of w (Open m a))
    unfolding open_check budget_check
    open-finds = gated _ (open_asks w m a) (field-then _ 255 _ _ (field-then _ 0 _ _ (field-then _ 40 _ _ (plain_then _ NoRoom _ _ refl (plain-last _ Budget)))))

    pub close-finds : Finds (close_check l h m a) (checks_of w (Close m a))
    unfolding close_check budget_check
    close-finds = gated _ (close_asks w m a) (field-then _ 255 _ _ (plain_then _ NotNow _ _ refl (plain-last _ Budget)))

    -- a page is looked for when all before it is passed
    looked-for : (f : Finding) (cs ds : List Check) (p : Page) → proper cs ≡ true → Finds f cs → Finds (plain (page_check h.weave p)) ds
        → Finds (first_found f (plain (page_check h.weave (cond (is_clear f) p End)))) (cs ++ ds)
    looked-for f cs ds p r e g = record { is = under f (λ (q : Page). plain (page_check h.weave q)) p ∙ (followed cs ds f _ r e g).is }

    list-finds : (cap : ℕ) (rs : List (List ℕ)) → Finds (plain (page_check h.weave (page_of cap rs))) (paged w (page_of cap rs))
    unfolding budget_check
    list-finds cap rs = plainly _ (paged w (page_of cap rs)) (joined (check (is_fine (page_code (page_of cap rs))) NoRoom ∷ []) _ _ _ refl (list_code cap rs) (last _ Budget)) refl

    look-finds : (k : Look) → Finds (plain (page_check h.weave (page_by k))) (check (not (is_fault k.stop)) Unsound ∷ paged w (page_by k))
    unfolding budget_check
    look-finds k =
        rw (look-fault k) at
        (plainly _ (check (not (faulty (page_by k))) Unsound ∷ paged w (page_by k))
        (joined (check (not (faulty (page_by k))) Unsound ∷ check (is_fine (page_code (page_by k))) NoRoom ∷ []) _ _ _ refl (page-code (page_by k)) (last _ Budget)) refl)

    pub read-finds : Finds (read_check l h m a) (checks_of w (Read m a))
    unfolding read_check read_page read_checks
    read-finds =
        looked-for (read_sound l h m a) (gate w m ++ read_first w m a) _ (page_of (read_args m a).out.len (read_list l h m a)) refl
        (gated _ (read_first w m a) (field-then _ 255 _ _ (field-then _ 0 _ _ (field-then _ 24 _ _ (plain_then _ Denied _ _ refl (plain-last _ Unsound))))))
        (list-finds (read_args m a).out.len (read_list l h m a))

    pub next-finds : Finds (next_check l table h m a) (checks_of w (Next m a))
    unfolding check_by page_found next_checks
    next-finds =
        looked-for (next_found l table h m a) (check_at (index_asks w) 254 ∷ (gate w m ++ next_first w m a)) _ (page_by (next_look l table h m a)) refl
        (field-then _ 254 _ _ (gated _ (next_first w m a) (field-then _ 255 _ _ (field-then _ 8 _ _ (plain-last _ NotNow)))))
        (look-finds (next_look l table h m a))

  pub return-code : Comes (return_check l table h) (check (index_asks w) Bad ∷ lent_asked w ∷ check h.weave.running NotNow ∷ [])
  unfolding return_check indexed_check lent_check
  return-code = joined (check (index_asks w) Bad ∷ lent_asked w ∷ []) _ _ _ refl (then _ Bad _ _ refl (last _ Bad)) (last _ NotNow)

-- ---- what is said

settle-code : (h : Host) (f : Finding) (v : ℕ) (next : Host) → (settle h f v next).code ≡ f.code
unfolding settle turned_away
settle-code h f v next = go (is_clear f) refl
  where
    go : (t : Bool) → is_clear f ≡ t → (cond {A = Answer} t (record { code = Fine; value = v; field = 0; host = next }) (turned_away h f)).code ≡ f.code
    go true q = sym (fine-is f.code q)
    go false q = refl

settle-field : (h : Host) (f : Finding) (v : ℕ) (next : Host) (cs : List Check) → proper cs ≡ true → Finds f cs → (settle h f v next).field ≡ failing_field cs
unfolding settle turned_away
settle-field h f v next cs p e = go (is_clear f) refl
  where
    go : (t : Bool) → is_clear f ≡ t → (cond {A = Answer} t (record { code = Fine; value = v; field = 0; host = next }) (turned_away h f)).field ≡ failing_field cs
    go true q = sym (none_of (λ (c : Check). c.field) 0 cs (all-passed cs p (sym (ap is_fine (finds-code f cs e)) ∙ q)))
    go false q = finds-field f cs e

record Judged (w : World) (o : Op) : Type 0 where
  code : code_of (step w o).said ≡ failing (checks_of w o)
  field : (step w o).field ≡ failing_field (checks_of w o)
  refusal : is_refused (step w o).said ≡ not (is_fine (code_of (step w o).said))
  coded : proper (checks_of w o) ≡ true

-- a call that ends in `settle`
settled-judged : (w : World) (o : Op) (f : Finding) (v : ℕ) (next : Host) (staging' memory' : List ℕ) → step w o ≡ answered w (settle w.host f v next) staging' memory'
    → proper (checks_of w o) ≡ true → Finds f (checks_of w o) → Judged w o
settled-judged w o f v next staging' memory' is p e = record {
  code = rw is (settle-code w.host f v next ∙ finds-code f _ e);
  field = rw is (settle-field w.host f v next (checks_of w o) p e);
  refusal = rw is;
  coded = p;
}

fate-judged : (w : World) (code : ℤ) → Fated w.lent w.index w.host code → Judged w (Return code)
unfolding step return_answer
fate-judged w code f = record { code = said f; field = finds-field _ _ (plainly _ _ (return-code w) refl); refusal = refused f; coded = refl }
  where
    said : Fated w.lent w.index w.host code → code_of (step w (Return code)).said ≡ failing (checks_of w (Return code))
    said (turned-away a q) = rw q (return-code w).is
    said (has-reason a b q) = rw q (sym (fine-is _ a) ∙ (return-code w).is)
    said (turns-on a b c q) = rw q (sym (fine-is _ a) ∙ (return-code w).is)
    said (ends-badly a b c d q) = rw q (sym (fine-is _ a) ∙ (return-code w).is)
    said (ends-well a b c d q) = rw q (sym (fine-is _ a) ∙ (return-code w).is)

    refused : Fated w.lent w.index w.host code → is_refused (step w (Return code)).said ≡ not (is_fine (code_of (step w (Return code)).said))
    refused (turned-away a q) = rw (q, a)
    refused (has-reason a b q) = rw q
    refused (turns-on a b c q) = rw q
    refused (ends-badly a b c d q) = rw q
    refused (ends-well a b c d q) = rw q

judged : (w : World) (o : Op) → Judged w o
unfolding step begin_answer ingress_answer write_answer read_answer open_answer next_answer answer_by close_answer
judged w (Begin args) = settled-judged w (Begin args) _ _ _ _ _ refl refl (begin-finds w args)
judged w (Ingress topic payload) = settled-judged w (Ingress topic payload) _ _ _ _ _ refl refl (ingress-finds w topic payload)
judged w (Write m a) = settled-judged w (Write m a) _ _ _ _ _ refl refl (write-finds w m a)
judged w (Read m a) = settled-judged w (Read m a) _ _ _ _ _ refl refl (read-finds w m a)
judged w (Open m a) = settled-judged w (Open m a) _ _ _ _ _ refl refl (open-finds w m a)
judged w (Next m a) = settled-judged w (Next m a) _ _ _ _ _ refl refl (next-finds w m a)
judged w (Close m a) = settled-judged w (Close m a) _ _ _ _ _ refl refl (close-finds w m a)
judged w (Return code) = fate-judged w code (fated w.lent w.index w.host code)
judged w (LookUp id) = record { code = refl; field = refl; refusal = refl; coded = refl }

-- THE PROMISE: the code is that of the first check that fails, and so is the field
pub code_is : (w : World) (o : Op) → code_of (step w o).said ≡ failing (checks_of w o)
code_is w o = (judged w o).code

pub field_is : (w : World) (o : Op) → (step w o).field ≡ failing_field (checks_of w o)
field_is w o = (judged w o).field

-- .. and a call is accepted exactly when none fails
pub accepted-exactly : (w : World) (o : Op) → (is_refused (step w o).said ≡ false) ↔ All Passed (checks_of w o)
accepted-exactly w o =
    let j = judged w o in
    (λ e. all-passed (checks_of w o) j.coded (rw (← j.code) (not-false _ (sym j.refusal ∙ e))), λ a. j.refusal ∙ ap (λ (c : Code). not (is_fine c)) (j.code ∙ none_of (λ (c : Check). c.code) Fine (checks_of w o) a))
