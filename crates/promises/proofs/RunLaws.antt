-- A box that was mounted on an empty card and asked some calls: it agrees with its diary and passes check 1, which leaves little to show of each further call.
-- Assumes nothing.
use mathlib.Core.Path.{◌≡◌, refl, ap, subst, ◌∙◌}
use mathlib.Core.Bool.{true, false}
use mathlib.Core.List.{List, [], ◌∷◌, ◌++◌}
use Prim.Native.Nat.{ℕ, ◌≤◌}
use native.Mathlib.Omega.{arith}
use borrow.Author.Tests.{le-leb}
use lib.ListN.{length, length-replicate}
use Rattle.le.specs.Le.{Bytes}
use Rattle.le.specs.Splice.{zeros}
use Rattle.manifest.specs.Saying.{is_good, manifest_of}
use Rattle.card.specs.Pick.{All}
use Rattle.card.specs.Records.{up_to, records}
use Rattle.card.specs.Walk.{chain}
use Rattle.weave.specs.declared.Code.TheVariants.{Fine}
use Rattle.weave.specs.Codes.{is_fine, need}
use Rattle.host.specs.Hosts.{Lent, lent_as, lengths_of, lent_check}
use Rattle.host.specs.Hosts.{fresh_host}
use Rattle.mounts.specs.Mount.{sizes_fine, mount_check, mounted_with, mounted_by, mounted, entered_bytes, mount_index}
use Rattle.card.specs.Index.{offsets, entered}
use Rattle.card.proofs.RecordsLaws.{no-records}
use Rattle.le.proofs.SpliceLaws.{splice-nil}
use Rattle.promises.specs.Box.{World, Op, box_of, step, is_refused, memory_of, mounted_as, run}
use Rattle.promises.specs.Diary.{Diary, noted, first_page, Agrees}
use Rattle.promises.proofs.MountHolds.{mounts}
use Rattle.promises.proofs.IndexHolds.{Kept, step_kept, mount-kept}
use Rattle.promises.proofs.DiaryHolds.{agrees-step, mount-agrees}
use Rattle.promises.proofs.LifeHolds.{life-sane}

pub no_bytes : Bytes []
no_bytes i = omega arith

pub long : (k : ℕ) → length (zeros k) ≡ k
long k = length-replicate {0} {A = ℕ} k 0

pub record At (l : Lent) (table : List ℕ) (os : List Op) (w : World) (d : Diary) : Type 0 where
  pub is : run (mounted_as l table 0) os ≡ w
  pub bytes : All (λ (o : Op). Bytes (memory_of o)) os
  pub agrees : Agrees w d
  pub check-1 : is_fine (lent_check w.lent w.host) ≡ true
  pub kept : Kept w

run-one : (os : List Op) (w : World) (o : Op) → run w (os ++ (o ∷ [])) ≡ (step (run w os) o).world
run-one [] w o = refl
run-one (p ∷ os) w o = run-one os (step w p).world o

all_one : (os : List Op) (o : Op) → All (λ (o : Op). Bytes (memory_of o)) os → Bytes (memory_of o) → All (λ (o : Op). Bytes (memory_of o)) (os ++ (o ∷ []))
all_one [] o a b = (b, tt)
all_one (p ∷ os) o a b = (a.0, all_one os o a.1 b)

-- .. and after one more that is accepted
pub one_more : (l : Lent) (table : List ℕ) → (mounted l table 0).code ≡ Fine → (os : List Op) (w : World) (d : Diary) → At l table os w d → (o : Op) → Bytes (memory_of o) → is_refused (step w o).said ≡ false
    → (w' : World) → (step w o).world ≡ w' → At l table (os ++ (o ∷ [])) w' (noted w d o)
one_more l table fine os w d a o b e w' q =
    let here : run (mounted_as l table 0) (os ++ (o ∷ [])) ≡ w' = run-one os (mounted_as l table 0) o ∙ ap (λ (v : World). (step v o).world) a.is ∙ q in
    let all = all_one os o a.bytes b in
    record {
      is = here;
      bytes = all;
      agrees = rw (q, e) at (agrees-step w o b d a.agrees);
      check-1 = subst (λ (v : World). is_fine (lent_check v.lent v.host) ≡ true) here (life-sane l table 0 (os ++ (o ∷ [])) all fine);
      kept = rw q at (step_kept w o a.kept);
    }

-- ---- the empty card

-- with a table of t entries
abbrev pub empty_box : ℕ → ℕ → ℕ → List ℕ → World
empty_box n c t text = box_of (fresh_host (lengths_of (lent_as (zeros n) (zeros c) text)) (length (zeros t)) 0 1) (lent_as (zeros n) (zeros c) text) (zeros t)

module _ (n c t : ℕ) (text : List ℕ) (n-least : 65536 ≤ n) (n-most : n ≤ 1048576) (c-most : c ≤ 16777216) (good : is_good (manifest_of text) ≡ true) where
  abbrev l : Lent
  l = lent_as (zeros n) (zeros c) text

  abbrev table : List ℕ
  table = zeros t

  pub mount-ok : (mounted l table 0).code ≡ Fine
  unfolding records up_to
  mount-ok = (mounts l table 0).code ∙ rw (long n, long c, le-leb 65536 n n-least, le-leb n 1048576 n-most, le-leb c 16777216 c-most, le-leb 0 c (omega arith), good, le-leb 0 (length table) (omega arith))

  pub mount-host : (mounted l table 0).host ≡ fresh_host (lengths_of l) (length table) 0 1
  unfolding mounted mount_check sizes_fine lengths_of need mounted_by mounted_with chain records up_to fresh_host
  mount-host = rw (long n, long c, le-leb 65536 n n-least, le-leb n 1048576 n-most, le-leb c 16777216 c-most, le-leb 0 c (omega arith), good, le-leb 0 (length table) (omega arith))

  -- an empty card has no entry
  pub mount-table : mount_index l table 0 ≡ table
  unfolding mount_index entered entered_bytes offsets
  mount-table = rw (mount-ok, no-records, splice-nil)

  pub at_first : At l table [] (empty_box n c t text) (first_page l 0)
  at_first =
      let here : run (mounted_as l table 0) [] ≡ empty_box n c t text = rw (mount-host, mount-table) in
      record {
        is = here;
        bytes = tt;
        agrees = subst (λ (w : World). Agrees w (first_page l 0)) here (mount-agrees _ l table 0 mount-ok);
        check-1 = subst (λ (w : World). is_fine (lent_check w.lent w.host) ≡ true) here (life-sane l table 0 [] tt mount-ok);
        kept = subst Kept here (mount-kept _ l table 0 mount-ok);
      }
