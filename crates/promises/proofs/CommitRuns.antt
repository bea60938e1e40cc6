-- None of the promises holds because nothing happens: on every empty card with room for it, one event is begun, staged and committed.
-- Assumes nothing.
use mathlib.Core.Path.{◌≡◌, refl, sym, ◌∙◌}
use mathlib.Core.Bool.{true, false}
use mathlib.Core.List.{List, [], ◌∷◌}
use mathlib.Core.Logic.{inl}
use Prim.Native.Nat.{ℕ, ◌≤◌}
use native.Mathlib.Omega.{arith}
use borrow.Author.Tests.{le-leb}
use lib.IntN.{pos}
use lib.ListN.{length}
use Rattle.le.specs.Splice.{zeros}
use Rattle.text.specs.Compare.{same_bytes}
use Rattle.text.specs.Decimal.{number_of, no_leading_zero, number_from, digits, value_from}
use Rattle.text.specs.Lines.{closed, fields, line_at, lines, field}
use Rattle.text.specs.Topic.{good_text, good_topic, no_control}
use Rattle.text.specs.Utf8.{utf8, utf8_from, after}
use Rattle.manifest.specs.Line.{number_in, modules_in, charge_in, one_to}
use Rattle.manifest.specs.Words.{modules_word, charge_word}
use Rattle.manifest.specs.Head.{optional, beyond, modules_of, head_of, grant_lines}
use Rattle.manifest.specs.Saying.{is_good, modules_said, manifest_of, good_head, grants_said, good_grants, all_grants}
use Rattle.weave.specs.declared.Code.TheVariants.{Fine}
use Rattle.weave.specs.States.{fresh_weave, begun_weave, holding}
use Rattle.weave.specs.Sums.{added}
use Rattle.weave.proofs.SumLaws.{added-sum}
use Rattle.takes.specs.Begun.{begun}
use Rattle.weave.specs.Findings.{plain}
use Rattle.host.specs.declared.Fate.TheVariants.{Committed}
use Rattle.host.specs.Hosts.{Lent, lent_as, with_weave, settle}
use Rattle.host.specs.Begin.{begin_check, begin_answer, begin_staging}
use Rattle.writes.specs.Stage.{room_fine, ingress_check, ingress_answer, ingress_staging}
use Rattle.host.specs.Hosts.{fresh_host}
use Rattle.mounts.specs.Mount.{mounted}
use Rattle.promises.specs.Box.{World, Op, Begin, Ingress, Return, Ended, box_of, step, is_refused, mounted_as, run}
use Rattle.promises.specs.Outcome.{Conditions}
use Rattle.promises.specs.Diary.{held, ingress_record, first_page}
use Rattle.promises.proofs.AcceptedLaws.{settle-ok}
use Rattle.promises.proofs.OutcomeHolds.{committed-exactly}
use Rattle.promises.proofs.AcceptedHolds.{begin-exactly, ingress-exactly}
use Rattle.promises.proofs.RunLaws.{no_bytes, long, At, one_more, empty_box, mount-ok, at_first}

-- `modules`, tab, `1`, line end
abbrev pub one_module : List ℕ
one_module = 109 ∷ 111 ∷ 100 ∷ 117 ∷ 108 ∷ 101 ∷ 115 ∷ 9 ∷ 49 ∷ 10 ∷ []

said-good : is_good (manifest_of one_module) ≡ true
unfolding manifest_of good_head modules_of head_of optional beyond grant_lines grants_said good_grants all_grants closed modules_in charge_in number_in fields line_at lines same_bytes field modules_word charge_word one_to number_of no_leading_zero number_from digits value_from
said-good = refl

said-one : modules_said (manifest_of one_module) ≡ 1
unfolding manifest_of good_head modules_of head_of optional beyond grant_lines grants_said good_grants all_grants closed modules_in charge_in number_in fields line_at lines same_bytes field modules_word charge_word one_to number_of no_leading_zero number_from digits value_from
said-one = refl

-- a topic of one letter
good-letter : good_topic (116 ∷ []) ≡ true
unfolding good_text utf8 utf8_from after no_control
good-letter = refl

module _ (n c t : ℕ) (n-least : 65536 ≤ n) (n-most : n ≤ 1048576) (c-least : 136 ≤ c) (c-most : c ≤ 16777216) (t-least : 1 ≤ t) where
  abbrev l : Lent
  l = lent_as (zeros n) (zeros c) one_module

  abbrev table : List ℕ
  table = zeros t

  fine : (mounted l table 0).code ≡ Fine
  fine = mount-ok n c t one_module n-least n-most c-most said-good

  abbrev w₀ : World
  w₀ = empty_box n c t one_module

  at₀ : At l table [] w₀ (first_page l 0)
  at₀ = at_first n c t one_module n-least n-most c-most said-good

  e₀ : is_refused (step w₀ (Begin (zeros 128))).said ≡ false
  unfolding fresh_host fresh_weave
  e₀ = (begin-exactly w₀ (zeros 128)).1 (record { check-1 = at₀.check-1; idle = refl; healthy = refl; long = refl })

  abbrev w₁ : World
  w₁ = box_of (with_weave w₀.host (begun (zeros 128))) (lent_as (zeros (length (zeros n))) (zeros c) one_module) table

  q₀ : (step w₀ (Begin (zeros 128))).world ≡ w₁
  unfolding step begin_answer begin_staging settle
  q₀ = rw (settle-ok w₀.host (plain (begin_check w₀.lent w₀.host (zeros 128))) 0 _ e₀)

  at₁ : At l table (Begin (zeros 128) ∷ []) w₁ (first_page l 0)
  at₁ = one_more l table fine [] w₀ (first_page l 0) at₀ (Begin (zeros 128)) no_bytes e₀ w₁ q₀

  staging-long : length w₁.lent.staging ≡ n
  staging-long = long (length (zeros n)) ∙ long n

  e₁ : is_refused (step w₁ (Ingress (116 ∷ []) [])).said ≡ false
  unfolding with_weave begun begun_weave fresh_host room_fine
  e₁ =
      (ingress-exactly w₁ (116 ∷ []) []).1
      (record { check-1 = at₁.check-1; running = refl; early = refl; topic-good = good-letter; room = rw (staging-long, le-leb 136 n (omega arith)) })

  -- the box with the event staged
  abbrev w₂ : World
  w₂ =
      box_of (with_weave w₁.host (holding w₁.host.weave 136 (length w₁.lent.staging)))
      (lent_as (ingress_staging w₁.lent w₁.host (116 ∷ []) []) (zeros c) one_module) table

  q₁ : (step w₁ (Ingress (116 ∷ []) [])).world ≡ w₂
  unfolding step ingress_answer settle
  q₁ = rw (settle-ok w₁.host (plain (ingress_check w₁.lent w₁.host (116 ∷ []) [])) 0 _ e₁)

  abbrev ops : List Op
  ops = Begin (zeros 128) ∷ Ingress (116 ∷ []) [] ∷ []

  at₂ : At l table ops w₂ (held (first_page l 0) (ingress_record w₁ (116 ∷ []) []))
  at₂ = one_more l table fine (Begin (zeros 128) ∷ []) w₁ (first_page l 0) at₁ (Ingress (116 ∷ []) []) no_bytes e₁ w₂ q₁

  staged-136 : w₂.host.weave.staged ≡ 136
  unfolding with_weave holding begun begun_weave
  staged-136 = added-sum 0 136 (length w₁.lent.staging) (omega (arith, staging-long))

  count-1 : w₂.host.weave.count ≡ 1
  unfolding with_weave holding begun begun_weave added
  count-1 = refl

  meets : Conditions w₂.lent w₂.index w₂.host (pos 0)
  unfolding with_weave holding begun begun_weave fresh_host
  meets = record {
    table-long = at₂.kept.long;
    check-1 = at₂.check-1;
    running = refl;
    unspoiled = refl;
    zero-or-one = inl refl;
    last = sym said-one;
    sound = at₂.agrees.carried;
    fits = omega (arith, staged-136, long c);
    entries = omega (arith, count-1, long t);
  }

  -- committed: one event, 136 bytes
  pub commits-one : (step (run (mounted_as l table 0) ops) (Return (pos 0))).said ≡ Ended (Committed 1 136)
  commits-one = rw at₂.is ((committed-exactly w₂ (pos 0) 1 136).1 (meets, (sym count-1, sym staged-136)))
