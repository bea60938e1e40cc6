-- EVERY STEP IS A MOVE: the one place that goes through the operations. A further operation is a case of `moved`.
-- Assumes nothing.
use mathlib.Core.Path.{◌≡◌, refl, sym, ap, ◌∙◌}
use mathlib.Core.Bool.{Bool, true, false, not, ◌&&◌, cond, true≢false}
use mathlib.Core.List.{List, [], ◌∷◌, ◌++◌}
use Prim.Native.Nat.{ℕ}
use borrow.Author.Tests.{eqb-true, not-true}
use lib.Dec.{leb}
use lib.IntN.{ℤ}
use lib.ListN.{length}
use Rattle.le.specs.Le.{Bytes}
use Rattle.le.proofs.TestLaws.{and_left, and_right}
use Rattle.le.proofs.SpliceLaws.{splice-nil}
use Rattle.weave.specs.declared.Code.{Code}
use Rattle.weave.specs.declared.Code.TheVariants.{NotNow, Bad}
use Rattle.weave.specs.declared.Finding.{Finding}
use Rattle.weave.specs.Codes.{is_budget}
use Rattle.weave.specs.Findings.{plain, is_clear}
use Rattle.weave.specs.Moves.{opened_with, moved_to, closed_at}
use Rattle.weave.specs.States.{paid, holding, tabled, spoilt, turned}
use Rattle.weave.specs.Args.{open_args, next_args, close_handle}
use Rattle.weave.proofs.CodeLaws.{found_left}
use Rattle.takes.specs.Opening.{opening}
use Rattle.takes.specs.Begun.{begun}
use Rattle.host.specs.declared.Host.{Host}
use Rattle.host.specs.declared.Fate.TheVariants.{Discarded}
use Rattle.host.specs.Hosts.{Lent, with_weave, turned_away, settle}
use Rattle.host.specs.Begin.{begin_check, begin_answer, begin_staging}
use Rattle.writes.specs.Stage.{ingress_check, ingress_answer, ingress_staging, is_panic, panicked, written, write_check, write_answer, write_staging}
use Rattle.reads.specs.Reading.{read_sound, read_check, read_answer, read_memory}
use Rattle.host.specs.Cursors.{open_check, open_next, open_answer, close_check, close_next, close_answer, next_handle}
use Rattle.reads.specs.Paging.{next_found, next_look, next_part, next_check, next_host, cursor_by, answer_by, memory_by, next_answer, next_memory, next_list, walk_look}
use Rattle.reads.proofs.PagingLaws.{check-before}
use Rattle.reads.proofs.IndexedLaws.{look-walks}
use Rattle.card.specs.Index.{offsets, entered}
use Rattle.card.specs.Listing.{fit}
use Rattle.card.specs.Look.{Look}
use Rattle.card.proofs.LookLaws.{walked-part}
use Rattle.card.proofs.RecordsLaws.{no-records}
use Rattle.host.specs.Ending.{return_check, fate_of, finished, return_answer, return_card, return_index, return_staging}
use Rattle.promises.specs.Box.{World, Indexed, Op, Begin, Ingress, Write, Read, Open, Next, Close, Return, LookUp, answered, step, is_refused, memory_of}
use Rattle.promises.specs.Checks.{Check, check_at, failing, lent_asked, index_asks, gate, write_asks, read_asks, open_asks, next_asks, close_asks, checks_of}
use Rattle.promises.specs.Outcome.{says_committed}
use Rattle.promises.specs.Diary.{Diary, ingress_record, written_record, noted}
use Rattle.promises.specs.Standing.{Standing, done}
use Rattle.promises.specs.Turn.{page_on, is_next_on}
use Rattle.promises.proofs.OutcomeHolds.{Fated, turned-away, has-reason, turns-on, ends-badly, ends-well, fated, return-runs, conditions}
use Rattle.promises.proofs.CheckLaws.{Finds, finds-code}
use Rattle.promises.proofs.ChecksHold.{begin-finds, ingress-finds, write-finds, read-finds, open-finds, next-finds, close-finds, return-code}
use Rattle.promises.proofs.AcceptedHolds.{begin-exactly, ingress-exactly, write-exactly, read-exactly, open-exactly, next-exactly, close-exactly, next-page, read-page}
use Rattle.promises.proofs.StagedLaws.{ingress-staged, write-staged}
use Rattle.promises.proofs.MoveLaws.{Traced, called, Unpaid, Free, Paid, Kept, Staged, Same, Opens, Hands, Closes, Cleared, Unmarked, Overspends, Panics, Stays, Turns, Move, Rests, Begins, GoesOn, Commits, Discards, after, entry_by, heard_by, handed_by, ends_turn, Moved}

-- ---- a -6 is said in a weave alone

-- checks none of which gives -6
abbrev mild : List Check → Bool
mild [] = true
mild (c ∷ cs) = not (is_budget c.code) && mild cs

pub no-budget : (cs : List Check) → mild cs ≡ true → is_budget (failing cs) ≡ false
no-budget [] e = refl
no-budget (c ∷ cs) e = go c.asks (no-budget cs (and_right (not (is_budget c.code)) _ e))
  where
    go : (t : Bool) → is_budget (failing cs) ≡ false → is_budget (cond t (failing cs) c.code) ≡ false
    go true ih = ih
    go false ih = not-true (is_budget c.code) (and_left (not (is_budget c.code)) _ e)

-- a module call outside a weave does not come to the checks behind the second
gate-idle : (w : World) (m : List ℕ) (cs : List Check) → w.host.weave.running ≡ false → is_budget (failing (gate w m ++ cs)) ≡ false
gate-idle w m cs idle = go (leb (length m) 1048576) (lent_asked w).asks w.host.weave.running _ idle
  where
    go : (a b r : Bool) (c : Code) → r ≡ false → is_budget (cond a (cond b (cond r c NotNow) Bad) Bad) ≡ false
    go true true r c e = rw e
    go true false r c e = refl
    go false b r c e = refl

-- .. nor does a next, whose first check is of the table
next-idle : (w : World) (m : List ℕ) (cs : List Check) → w.host.weave.running ≡ false → is_budget (failing (check_at (index_asks w) 254 ∷ (gate w m ++ cs))) ≡ false
next-idle w m cs idle = go (index_asks w) (gate-idle w m cs idle)
  where
    go : (b : Bool) → is_budget (failing (gate w m ++ cs)) ≡ false → is_budget (cond b (failing (gate w m ++ cs)) Bad) ≡ false
    go true e = e
    go false e = refl

-- ---- a call that ends in `settle`

-- what it does when it is accepted
record Accepted (w : World) (o : Op) : Type 0 where
  move : Move w o
  world : (step w o).world ≡ after w o move
  entry : Bytes (memory_of o) → Traced w → (d : Diary) → noted w d o ≡ entry_by w o move d
  heard-as : (s : Standing) → done s o (step w o).said ≡ heard_by w o move s
  given : (k : ℕ) → page_on k w o ≡ handed_by k w o move
  stays : ends_turn w o move ≡ false

module _ (w : World) (o : Op) (f : Finding) (v : ℕ) (next' : Host) (staging' memory' : List ℕ)
    (is : step w o ≡ answered w (settle w.host f v next') staging' memory') where
  -- THE LAW of `settle`: accepted it is what it is then; refused, nothing is changed but for the mark
  settled : (is_clear f ≡ false → (staging' ≡ w.lent.staging) × (memory' ≡ memory_of o)) → Finds f (checks_of w o) → (w.host.weave.running ≡ false → is_budget (failing (checks_of w o)) ≡ false)
      → (is_refused (step w o).said ≡ false → is_clear f ≡ true → Accepted w o) → Moved w o
  unfolding settle turned_away with_weave spoilt
  settled off found idle accepts = go (is_clear f) refl (is_budget f.code) refl
    where
      in-weave : (r : Bool) → w.host.weave.running ≡ r → is_budget f.code ≡ true → w.host.weave.running ≡ true
      in-weave true q b = q
      in-weave false q b = absurd (true≢false (sym b ∙ ap is_budget (finds-code f (checks_of w o) found) ∙ idle q))

      go : (t : Bool) → is_clear f ≡ t → (b : Bool) → is_budget f.code ≡ b → Moved w o
      go true q b r =
          let said : is_refused (step w o).said ≡ false = rw (is, q) in
          let y = accepts said q in
          record {
            move = y.move;
            world = y.world;
            entry = λ b t d. rw said (y.entry b t d);
            heard-as = λ s. rw said (y.heard-as s);
            given = λ k. rw said (y.given k);
            returned = rw is (sym y.stays);
            refused = λ e. absurd (true≢false (sym e ∙ said));
          }
      go false q true r = record {
        move = GoesOn (in-weave w.host.weave.running refl r) (record { cost = Unpaid; staging = Kept; cursors = Same; mark = Overspends; turn = Stays });
        world = rw (is, q, r, (off q).0);
        entry = λ b t d. rw (is, q, q);
        heard-as = λ s. rw (is, q, q, r);
        given = λ k. rw (is, q, q);
        returned = rw is;
        refused = λ e. record { lent = rw (is, (off q).0); index = rw is; memory = rw (is, (off q).1); host = rw (is, q, r) };
      }
      go false q false r = record {
        move = Rests;
        world = rw (is, q, r, (off q).0);
        entry = λ b t d. rw (is, q, q);
        heard-as = λ s. rw (is, q, q, r);
        given = λ k. rw (is, q, q);
        returned = rw is;
        refused = λ e. record { lent = rw (is, (off q).0); index = rw is; memory = rw (is, (off q).1); host = rw (is, q, r) };
      }

-- ---- a return, by its fate

module _ (w : World) (code : ℤ) where
  discards : (c : Code) → fate_of w.lent w.index w.host code ≡ Discarded c → Moved w (Return code)
  unfolding step return_answer return_card return_index entered offsets return_staging finished
  discards c q = record {
    move = Discards (λ i. i);
    world = rw (q, no-records, splice-nil, splice-nil);
    entry = λ b t d. rw q;
    heard-as = λ s. rw q;
    given = λ k. rw q;
    returned = rw q;
    refused = λ e. absurd (true≢false (sym e ∙ rw q));
  }

  -- a return is not refused with -6
  return-mild : is_budget (return_check w.lent w.index w.host) ≡ false
  return-mild = ap is_budget (return-code w).is ∙ no-budget (checks_of w (Return code)) refl

  fate-moved : Fated w.lent w.index w.host code → Moved w (Return code)
  unfolding step return_answer return_card return_index entered offsets return_staging finished with_weave turned
  fate-moved (turned-away a q) = record {
    move = Rests;
    world = rw (q, no-records, splice-nil, splice-nil);
    entry = λ b t d. rw q;
    heard-as = λ s. rw (q, return-mild);
    given = λ k. rw q;
    returned = rw q;
    refused = λ e. record { lent = rw (q, splice-nil); index = rw (q, no-records, splice-nil); memory = refl; host = rw (q, return-mild) };
  }
  fate-moved (has-reason a b q) = discards _ q
  fate-moved (turns-on a b low q) = record {
    move = GoesOn (return-runs w.lent w.index w.host a) (record { cost = Unpaid; staging = Kept; cursors = Cleared (λ i. i); mark = Unmarked; turn = Turns (λ i. i) low });
    world = rw (q, no-records, splice-nil, splice-nil);
    entry = λ b t d. rw q;
    heard-as = λ s. rw q;
    given = λ k. rw q;
    returned = rw q;
    refused = λ e. absurd (true≢false (sym e ∙ rw q));
  }
  fate-moved (ends-badly a b c f q) = discards _ q
  fate-moved (ends-well a b c f q) = record {
    move = Commits (λ i. i) (rw q) code (conditions w.lent w.index w.host code _ _ q).0;
    world = rw q;
    entry = λ b t d. rw q;
    heard-as = λ s. rw q;
    given = λ k. rw q;
    returned = rw q;
    refused = λ e. absurd (true≢false (sym e ∙ rw q));
  }

-- ---- each call

module _ (w : World) where
  abbrev l : Lent
  l = w.lent

  abbrev h : Host
  h = w.host

  abbrev table : List ℕ
  table = w.index

  begin-moved : (args : List ℕ) → Moved w (Begin args)
  unfolding step begin_answer begin_staging settle with_weave
  begin-moved args =
      settled w (Begin args) (plain (begin_check l h args)) 0 (with_weave h (begun args)) (begin_staging l h args) [] refl
      (λ e. (rw e, refl)) (begin-finds w args) (λ i. no-budget (checks_of w (Begin args)) refl)
      (λ a f. record { move = Begins args ((begin-exactly w args).0 a).idle (λ b. b); world = rw f; entry = λ b t d. refl; heard-as = λ s. refl; given = λ k. refl; stays = refl })

  ingress-moved : (topic payload : List ℕ) → Moved w (Ingress topic payload)
  unfolding step ingress_answer ingress_staging ingress_record settle with_weave holding
  ingress-moved topic payload =
      settled w (Ingress topic payload) (plain (ingress_check l h topic payload)) 0 _ (ingress_staging l h topic payload) [] refl
      (λ e. (rw e, refl)) (ingress-finds w topic payload) (λ i. no-budget (checks_of w (Ingress topic payload)) refl)
      (λ a f. record {
        move = GoesOn ((ingress-exactly w topic payload).0 a).running (called w _ Unpaid (Staged _ _ (λ b t. ingress-staged l h topic payload t ((ingress-exactly w topic payload).0 a))) Same);
        world = rw f;
        entry = λ b t d. refl;
        heard-as = λ s. refl;
        given = λ k. refl;
        stays = refl;
      })

  module _ (m : List ℕ) (at : ℕ) where
    write-moved : Moved w (Write m at)
    unfolding step write_answer write_staging written_record settle written panicked with_weave holding paid spoilt
    write-moved =
        settled w (Write m at) (write_check w.charge l h m at) 0 _ (write_staging w.charge l h m at) m refl
        (λ e. (rw e, refl)) (write-finds w m at) (gate-idle w m (write_asks w m at)) (λ a f. go a f (is_panic m at) refl)
      where
        go : is_refused (step w (Write m at)).said ≡ false → is_clear (write_check w.charge l h m at) ≡ true → (p : Bool) → is_panic m at ≡ p → Accepted w (Write m at)
        go a f true p =
            record {
              move = GoesOn ((write-exactly w m at).0 a).gated.running (record { cost = Free; staging = Kept; cursors = Same; mark = Panics; turn = Stays });
              world = rw (f, p);
              entry = λ b t d. rw p;
              heard-as = λ s. rw p;
              given = λ k. refl;
              stays = refl;
            }
        go a f false p =
            let may = (write-exactly w m at).0 a in
            record {
              move = GoesOn may.gated.running (called w _ (Paid _ (may.budget p)) (Staged (written_record w m at) _ (λ b t. write-staged w.charge l h m at t b may p)) Same);
              world = rw (f, p);
              entry = λ b t d. rw (p, (write-staged w.charge l h m at t b may p).long);
              heard-as = λ s. rw p;
              given = λ k. refl;
              stays = refl;
            }

    read-moved : Moved w (Read m at)
    unfolding step read_answer read_memory read_check settle with_weave paid
    read-moved =
        settled w (Read m at) (read_check l h m at) _ _ l.staging (read_memory l h m at) refl (λ e. (refl, rw e)) (read-finds w m at) (gate-idle w m (read_asks w m at))
        (λ a f.
        let may = (read-exactly w m at).0 a in
        let page = read-page w m at (found_left (read_sound l h m at) _ f) in
        record {
          move = GoesOn may.gated.running (called w _ (Paid _ may.budget) Kept Same);
          world = rw (f, page);
          entry = λ b t d. rw (f, page);
          heard-as = λ s. refl;
          given = λ k. refl;
          stays = refl;
        })

    open-moved : Moved w (Open m at)
    unfolding step open_answer open_next settle with_weave opening opened_with tabled paid
    open-moved =
        settled w (Open m at) (open_check l h m at) (next_handle h) _ l.staging m refl (λ e. (refl, refl)) (open-finds w m at) (gate-idle w m (open_asks w m at))
        (λ a f.
        let may = (open-exactly w m at).0 a in
        record {
          move = GoesOn may.gated.running (called w _ (Paid 1 may.budget) Kept (Opens (opening m (open_args m at) (next_handle h)) refl may.room));
          world = rw f;
          entry = λ b t d. refl;
          heard-as = λ s. rw f;
          given = λ k. refl;
          stays = refl;
        })

    -- on a sound card with a table that fits, what is handed over is the walk's page
    pub next-hands : Indexed w → next_part l table h m at ≡ fit (next_args m at).out.len (next_list l h (next_args m at).handle)
    unfolding walk_look
    next-hands i = ap (λ (k : Look). k.part) (look-walks l table h i.sound i.fits m at) ∙ rw i.sound (walked-part (next_args m at).out.len (next_list l h (next_args m at).handle))

    next-moved : Moved w (Next m at)
    unfolding step next_answer answer_by next_memory memory_by next_host cursor_by settle with_weave moved_to tabled paid
    next-moved =
        settled w (Next m at) (next_check l table h m at) _ _ l.staging (next_memory l table h m at) refl (λ e. (refl, rw e)) (next-finds w m at) (next-idle w m (next_asks w m at))
        (λ a f.
        let may = (next-exactly w m at).0 a in
        let page = next-page w m at (check-before h (next_found l table h m at) (next_look l table h m at) f) in
        record {
          move = GoesOn may.gated.running
              (called w _ (Paid _ may.budget) Kept (Hands (next_args m at).handle (next_part l table h m at) may.handle (next_args m at).out.len next-hands));
          world = rw (f, page);
          entry = λ b t d. rw (f, page);
          heard-as = λ s. refl;
          given = λ k. refl;
          stays = refl;
        })

    close-moved : Moved w (Close m at)
    unfolding step close_answer close_next settle with_weave closed_at tabled paid
    close-moved =
        settled w (Close m at) (close_check l h m at) 0 _ l.staging m refl (λ e. (refl, refl)) (close-finds w m at) (gate-idle w m (close_asks w m at))
        (λ a f.
        let may = (close-exactly w m at).0 a in
        record {
          move = GoesOn may.gated.running (called w _ (Paid 1 may.budget) Kept (Closes (close_handle m at) may.handle));
          world = rw f;
          entry = λ b t d. refl;
          heard-as = λ s. refl;
          given = λ k. refl;
          stays = refl;
        })

  look-moved : (id : ℕ) → Moved w (LookUp id)
  unfolding step
  look-moved id = record { move = Rests; world = refl; entry = λ b t d. refl; heard-as = λ s. refl; given = λ k. refl; returned = refl; refused = λ e. absurd (true≢false (sym e)) }

  -- THE THEOREM
  pub moved : (o : Op) → Moved w o
  moved (Begin args) = begin-moved args
  moved (Ingress topic payload) = ingress-moved topic payload
  moved (Write m at) = write-moved m at
  moved (Read m at) = read-moved m at
  moved (Open m at) = open-moved m at
  moved (Next m at) = next-moved m at
  moved (Close m at) = close-moved m at
  moved (Return code) = fate-moved w code (fated w.lent w.index w.host code)
  moved (LookUp id) = look-moved id

-- a next on the cursor k
pub record NextOn (k : ℕ) (o : Op) : Type 0 where
  pub memory : List ℕ
  pub at : ℕ
  pub is : o ≡ Next memory at
  pub handle : (next_args memory at).handle ≡ k

pub next-on : (k : ℕ) (o : Op) → is_next_on k o ≡ true → NextOn k o
next-on k (Begin args) e = absurd (true≢false (sym e))
next-on k (Ingress topic payload) e = absurd (true≢false (sym e))
next-on k (Write m at) e = absurd (true≢false (sym e))
next-on k (Read m at) e = absurd (true≢false (sym e))
next-on k (Open m at) e = absurd (true≢false (sym e))
next-on k (Next m at) e = record { memory = m; at = at; is = refl; handle = eqb-true (next_args m at).handle k e }
next-on k (Close m at) e = absurd (true≢false (sym e))
next-on k (Return code) e = absurd (true≢false (sym e))
next-on k (LookUp id) e = absurd (true≢false (sym e))

-- what says committed is a return
pub commits-by : (w : World) (o : Op) → says_committed (step w o).said ≡ true → (code : ℤ) × (o ≡ Return code)
unfolding step
commits-by w (Begin args) e = absurd (true≢false (sym e))
commits-by w (Ingress topic payload) e = absurd (true≢false (sym e))
commits-by w (Write m at) e = absurd (true≢false (sym e))
commits-by w (Read m at) e = absurd (true≢false (sym e))
commits-by w (Open m at) e = absurd (true≢false (sym e))
commits-by w (Next m at) e = absurd (true≢false (sym e))
commits-by w (Close m at) e = absurd (true≢false (sym e))
commits-by w (Return code) e = (code, refl)
commits-by w (LookUp id) e = absurd (true≢false (sym e))
