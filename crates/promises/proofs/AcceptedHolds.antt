-- Each call is accepted exactly when all holds that it asks, in words of its own: what a list of passed checks says.
-- Assumes nothing.
use mathlib.Core.Path.{◌≡◌, refl, sym}
use mathlib.Core.Bool.{Bool, true, false, not, ◌||◌, true≢false}
use mathlib.Core.List.{List, ◌++◌}
use mathlib.Core.Logic.{◌↔◌}
use Prim.Native.Nat.{ℕ}
use borrow.Author.Tests.{leb-true, le-leb, eqb-true, eq-eqb, not-true}
use lib.ListN.{length}
use Rattle.value.specs.declared.Fault.{Fault}
use Rattle.value.specs.declared.Fault.TheVariants.{Outside, Unfit}
use Rattle.std.specs.Prelude.{Result, Ok, Err, is_ok}
use Rattle.card.specs.Pick.{All}
use Rattle.card.specs.Listing.{page_of}
use Rattle.card.specs.Look.{page_by}
use Rattle.weave.specs.declared.Code.TheVariants.{Bad}
use Rattle.weave.specs.declared.Spoiled.{Spoiled}
use Rattle.weave.specs.declared.Spoiled.TheVariants.{Not, Overspent, Panicked}
use Rattle.weave.specs.Codes.{is_fine, need}
use Rattle.weave.specs.Findings.{is_clear}
use Rattle.weave.specs.Args.{read_args}
use Rattle.weave.proofs.CodeLaws.{need-test}
use Rattle.host.specs.declared.Host.{Host}
use Rattle.host.specs.Hosts.{Lent, lent_check}
use Rattle.writes.specs.Stage.{is_panic}
use Rattle.reads.specs.Paging.{next_found, next_look, page_found, next_page}
use Rattle.reads.specs.Reading.{read_sound, read_list, read_page}
use Rattle.promises.specs.Box.{World, Begin, Ingress, Write, Read, Open, Next, Close, step, is_refused}
use Rattle.promises.specs.Checks.{Check, Passed, is_overspent, is_panicked, is_outside, is_unfit, lent_asked, gate, write_asks, read_asks, open_asks, next_asks, close_asks}
use Rattle.promises.specs.Accepted.{BeginMay, IngressMay, Gated, WriteMay, ReadMay, OpenMay, NextMay, CloseMay}
use Rattle.promises.proofs.ChecksHold.{accepted-exactly}

-- ---- one check, in other words

not_yes : (b : Bool) → b ≡ false → not b ≡ true
not_yes b e = rw e

unspoilt : (s : Spoiled) → not (is_overspent s) ≡ true → not (is_panicked s) ≡ true → s ≡ Not
unspoilt Not e f = refl
unspoilt Overspent e f = absurd (true≢false (sym e))
unspoilt Panicked e f = absurd (true≢false (sym f))

no-fault : (k : Result ℕ Fault) → not (is_outside k) ≡ true → not (is_unfit k) ≡ true → is_ok k ≡ true
no-fault (Ok len) e g = refl
no-fault (Err Outside) e g = absurd (true≢false (sym e))
no-fault (Err Unfit) e g = absurd (true≢false (sym g))

not-outside : (k : Result ℕ Fault) → is_ok k ≡ true → not (is_outside k) ≡ true
not-outside (Ok len) e = refl
not-outside (Err f) e = absurd (true≢false (sym e))

not-unfit : (k : Result ℕ Fault) → is_ok k ≡ true → not (is_unfit k) ≡ true
not-unfit (Ok len) e = refl
not-unfit (Err f) e = absurd (true≢false (sym e))

unless : (p b : Bool) → p || b ≡ true → p ≡ false → b ≡ true
unless true b e q = absurd (true≢false q)
unless false b e q = e

or_else : (p b : Bool) → (p ≡ false → b ≡ true) → p || b ≡ true
or_else true b f = refl
or_else false b f = f refl

module _ (w : World) where
  abbrev l : Lent
  l = w.lent

  abbrev h : Host
  h = w.host

  abbrev table : List ℕ
  table = w.index

  lent-fine : Passed (lent_asked w) → is_fine (lent_check l h) ≡ true
  unfolding lent_check need
  lent-fine e = rw e

  fine-lent : is_fine (lent_check l h) ≡ true → Passed (lent_asked w)
  unfolding lent_check
  fine-lent e = need-test _ Bad refl e

  -- ---- begin and ingress

  pub begin-exactly : (args : List ℕ) → (is_refused (step w (Begin args)).said ≡ false) ↔ BeginMay l h args
  begin-exactly args = (
    λ e. let p = (accepted-exactly w (Begin args)).0 e in let c = lent-fine p.0 in search (not-true, eqb-true),
    λ b. let c = fine-lent b.check-1 in (accepted-exactly w (Begin args)).1 (search (not_yes, eq-eqb)),
  )

  pub ingress-exactly : (topic payload : List ℕ) → (is_refused (step w (Ingress topic payload)).said ≡ false) ↔ IngressMay l h topic payload
  ingress-exactly topic payload = (
    λ e. let p = (accepted-exactly w (Ingress topic payload)).0 e in let c = lent-fine p.0 in search not-true,
    λ b. let c = fine-lent b.check-1 in (accepted-exactly w (Ingress topic payload)).1 (search not_yes),
  )

  -- ---- the module calls

  module _ (m : List ℕ) (a : ℕ) where
    -- checks 1 to 3, and those behind them
    gated : (cs : List Check) → All Passed (gate w m ++ cs) → Gated l h (length m)
    gated cs p = record {
      memory = leb-true (length m) 1048576 p.0;
      check-1 = lent-fine p.1.0;
      running = p.1.1.0;
      unspoiled = unspoilt h.weave.spoiled.0 p.1.1.1.0 p.1.1.1.1.0;
    }

    behind : (cs : List Check) → All Passed (gate w m ++ cs) → All Passed cs
    behind cs p = p.1.1.1.1.1

    through : (cs : List Check) → Gated l h (length m) → All Passed cs → All Passed (gate w m ++ cs)
    through cs g p = (le-leb (length m) 1048576 g.memory, (fine-lent g.check-1, (g.running, (rw g.unspoiled, (rw g.unspoiled, p)))))

    pub write-exactly : (is_refused (step w (Write m a)).said ≡ false) ↔ WriteMay w.charge l h m a
    write-exactly = (
      λ e. let p = (accepted-exactly w (Write m a)).0 e in let g = gated (write_asks w m a) p in search (leb-true, unless, no-fault),
      λ b.
          (accepted-exactly w (Write m a)).1
          (through (write_asks w m a) b.gated (
            b.args,
            (
              b.topic,
              (
                b.flags,
                (
                  b.payload,
                  (
                    b.value_len,
                    (
                      b.granted,
                      (
                        not-outside _ b.value,
                        (
                          not-unfit _ b.value,
                          (or_else (is_panic m a) _ b.room, (or_else (is_panic m a) _ (λ c. le-leb _ h.weave.resmax (b.budget c)), tt)),
                        ),
                      ),
                    ),
                  ),
                ),
              ),
            ),
          )),
    )

    pub open-exactly : (is_refused (step w (Open m a)).said ≡ false) ↔ OpenMay l h m a
    open-exactly = (
      λ e. let p = (accepted-exactly w (Open m a)).0 e in let g = gated (open_asks w m a) p in search leb-true,
      λ b. (accepted-exactly w (Open m a)).1 (through (open_asks w m a) b.gated (search le-leb)),
    )

    pub close-exactly : (is_refused (step w (Close m a)).said ≡ false) ↔ CloseMay l h m a
    close-exactly = (
      λ e. let p = (accepted-exactly w (Close m a)).0 e in let g = gated (close_asks w m a) p in search leb-true,
      λ b. (accepted-exactly w (Close m a)).1 (through (close_asks w m a) b.gated (search le-leb)),
    )

    -- a page: what is found once all before it is passed
    pub next-page : is_clear (next_found l table h m a) ≡ true → next_page l table h m a ≡ page_by (next_look l table h m a)
    unfolding page_found
    next-page s = rw s

    pub next-exactly : (is_refused (step w (Next m a)).said ≡ false) ↔ NextMay l table h m a
    next-exactly = (
      λ e. let p = (accepted-exactly w (Next m a)).0 e in let g = gated (next_asks w m a) p.1 in search (leb-true, not-true),
      λ b. (accepted-exactly w (Next m a)).1 (b.table-long, through (next_asks w m a) b.gated (search (le-leb, not_yes))),
    )

    pub read-page : is_clear (read_sound l h m a) ≡ true → read_page l h m a ≡ page_of (read_args m a).out.len (read_list l h m a)
    unfolding read_page
    read-page s = rw s

    pub read-exactly : (is_refused (step w (Read m a)).said ≡ false) ↔ ReadMay l h m a
    read-exactly = (
      λ e. let p = (accepted-exactly w (Read m a)).0 e in let g = gated (read_asks w m a) p in search leb-true,
      λ b. (accepted-exactly w (Read m a)).1 (through (read_asks w m a) b.gated (search le-leb)),
    )
