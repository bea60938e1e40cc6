-- Promise 2: what is written reads back.
-- Assumes nothing.
use mathlib.Core.Path.{◌≡◌, ap, ◌∙◌}
use mathlib.Core.Bool.{Bool, true, false, cond}
use mathlib.Core.List.{List, [], ◌∷◌}
use Prim.Native.Nat.{ℕ, ◌+◌, ◌-◌, ◌^◌, ◌<◌}
use native.Mathlib.Omega.{arith}
use borrow.Author.Tests.{lt-ltb, le-ltb}
use lib.Dec.{leb}
use lib.ListN.{length, take, get_or}
use Rattle.le.specs.Splice.{splice}
use Rattle.le.specs.Le.{Bytes}
use Rattle.record.specs.Shown.{Framed}
use Rattle.record.specs.Written.{Written}
use Rattle.record.proofs.ShownLaws.{good-shown}
use Rattle.card.specs.Pick.{All}
use Rattle.card.specs.Records.{records}
use Rattle.card.specs.Walk.{look_up}
use Rattle.card.specs.Listing.{fit}
use Rattle.card.proofs.PickLaws.{all-only}
use Rattle.card.proofs.RecordsLaws.{records-good}
use Rattle.card.proofs.WalkLaws.{to-count, record_of-is}
use Rattle.card.proofs.PageLaws.{size-fit}
use Rattle.weave.specs.Codes.{is_fine}
use Rattle.weave.specs.Findings.{plain, is_clear}
use Rattle.weave.specs.Args.{write_args, read_args, next_args}
use Rattle.weave.proofs.CodeLaws.{found_left}
use Rattle.takes.specs.Payloads.{payload_bytes}
use Rattle.host.specs.Hosts.{lent_check}
use Rattle.card.proofs.PickLaws.{all-at}
use Rattle.writes.specs.Stage.{header_for, ingress_check, ingress_answer, ingress_staging, is_panic, written_topic, write_check, write_answer, write_staging}
use Rattle.reads.specs.Paging.{next_found, next_look, next_part, next_check, answer_by, memory_by, next_answer, next_memory}
use Rattle.mounts.specs.Mount.{walk_looked}
use Rattle.mounts.proofs.IndexedLaws.{looked-walks}
use Rattle.reads.specs.Reading.{read_sound, read_list, read_check, read_answer, read_memory}
use Rattle.reads.proofs.PagingLaws.{check-before, next-lies, part_small, part-framed}
use Rattle.reads.proofs.ReadingLaws.{out-lies}
use Rattle.promises.specs.Box.{World, Ingress, Write, Read, Next, LookUp, Part, step, is_refused}
use Rattle.promises.specs.Diary.{Diary, ingress_record, written_record, Agrees}
use Rattle.promises.specs.ReadBack.{HasPage}
use Rattle.promises.proofs.AcceptedLaws.{settle-ok}
use Rattle.promises.proofs.AcceptedHolds.{ingress-exactly, write-exactly}
use Rattle.promises.proofs.StagedLaws.{ingress-back, write-back}
use Rattle.promises.proofs.ShownLaws.{has-page}
use Rattle.promises.proofs.OutcomeHolds.{indexed-fine}
use Rattle.promises.proofs.IndexHolds.{Kept}

-- ---- the record that was staged

-- an accepted write, but for a panic, stages a record that says the write's topic and its payload as 01 stores it, with the next number
pub write-reads-back : (w : World) (m : List ℕ) (at : ℕ) → Bytes m → length w.host.weave.trace ≡ 32 → w.host.weave.time.0 < 256 ^ 8
    → is_refused (step w (Write m at)).said ≡ false → is_panic m at ≡ false
    → ((step w (Write m at)).world.lent.staging ≡ splice w.lent.staging w.host.weave.staged (written_record w m at))
    × Written (header_for w.host (write_args m at).flags w.host.weave.turn) w.host.weave.trace (written_topic m at) (payload_bytes m (write_args m at))
    (written_record w m at)
unfolding step write_answer write_staging written_record
write-reads-back w m at b l t e p =
    let c = settle-ok w.host (write_check w.charge w.lent w.host m at) _ _ e in
    (rw (c, p), write-back w.charge w.lent w.host m at l b ((write-exactly w m at).0 e) p t)

-- an accepted ingress likewise
pub ingress-reads-back : (w : World) (topic payload : List ℕ) → length w.host.weave.trace ≡ 32 → w.host.weave.time.0 < 256 ^ 8
    → is_refused (step w (Ingress topic payload)).said ≡ false
    → ((step w (Ingress topic payload)).world.lent.staging ≡ splice w.lent.staging w.host.weave.staged (ingress_record w topic payload))
    × Written (header_for w.host 1 0) w.host.weave.trace topic payload (ingress_record w topic payload)
unfolding step ingress_answer ingress_staging ingress_record
ingress-reads-back w topic payload l t e =
    let c = settle-ok w.host (plain (ingress_check w.lent w.host topic payload)) _ _ e in
    (rw c, ingress-back w.lent w.host topic payload l ((ingress-exactly w topic payload).0 e) t)

-- ---- look-up

module _ (w : World) (d : Diary) (a : Agrees w d) (k : Kept w) (sane : is_fine (lent_check w.lent w.host) ≡ true) where
  -- look-up shows what the walk shows
  walks : (id : ℕ) → (step w (LookUp id)).said ≡ Part (look_up (take w.host.used w.lent.card) (take w.host.weave.staged w.lent.staging) w.host.next.0 id)
  unfolding step walk_looked
  walks id =
      ap Part (looked-walks w.lent w.index w.host k.indexed.sound k.indexed.fits id ∙ rw (indexed-fine w.lent w.index w.host k.long sane))

  -- an event that was kept, by its number
  pub kept-found : (i : ℕ) → i < length d.kept → (step w (LookUp (i + 1))).said ≡ Part (get_or d.kept i [])
  unfolding look_up
  kept-found i h =
      let count = to-count (take w.host.used w.lent.card) 1 w.host.next.0 a.chained in
      walks (i + 1)
      ∙ rw (lt-ltb (i + 1) w.host.next.0 (omega (arith, count, ap length a.kept)))
      (ap Part (record_of-is (take w.host.used w.lent.card) 1 (i + 1) (omega arith) ∙ rw (a.kept, minus i)))
    where
      minus : (i : ℕ) → i + 1 - 1 ≡ i
      minus i = omega arith

  -- an event that is staged: "a staged event already has the id it will have if committed"
  pub staged-found : (i : ℕ) → i < length d.staged → (step w (LookUp (w.host.next.0 + i))).said ≡ Part (get_or d.staged i [])
  unfolding look_up
  staged-found i h =
      walks (w.host.next.0 + i)
      ∙ rw (le-ltb (w.host.next.0 + i) w.host.next.0 (omega arith))
      (ap Part (record_of-is (take w.host.weave.staged w.lent.staging) w.host.next.0 (w.host.next.0 + i) (omega arith) ∙ rw (a.staged, minus w.host.next.0 i)))
    where
      minus : (n i : ℕ) → n + i - n ≡ i
      minus n i = omega arith

-- ---- next

-- every record that a next hands over stands in the memory, one right behind the other from out_ptr on, each with its topic and its payload as 01 stores it,
-- its pointer moved to where its bytes now lie
pub page-stands : (w : World) (m : List ℕ) (at : ℕ) → is_refused (step w (Next m at)).said ≡ false
    → HasPage (step w (Next m at)).memory (next_args m at).out.ptr (next_part w.lent w.index w.host m at)
unfolding step next_answer answer_by next_memory memory_by
page-stands w m at e =
    let c = settle-ok w.host (next_check w.lent w.index w.host m at) _ _ e in
    let lies = next-lies w.lent w.index w.host m at (check-before w.host (next_found w.lent w.index w.host m at) (next_look w.lent w.index w.host m at) c) in
    rw c
    (has-page m (next_args m at).out.ptr (next_part w.lent w.index w.host m at)
    (part-framed w.lent w.index w.host m at) (omega (arith, part_small w.lent w.index w.host m at, lies)))

-- ---- read: the same of the staged events that it lists

all_fit : (P : List ℕ → Type 0) (cap : ℕ) (rs : List (List ℕ)) → All P rs → All P (fit cap rs)
unfolding fit
all_fit P cap [] a = tt
all_fit P cap (r ∷ rs) a = go (leb (length r) cap) (all_fit P (cap - length r) rs a.1)
  where
    go : (b : Bool) → All P (fit (cap - length r) rs) → All P (cond b (r ∷ fit (cap - length r) rs) [])
    go true ih = (a.0, ih)
    go false ih = tt

records-framed : (s : List ℕ) (id : ℕ) → All Framed (records s id)
records-framed s id = all-at [] Framed (records s id) (λ k h. good-shown (get_or (records s id) k []) (id + k) (records-good s id k h))

pub read-page-stands : (w : World) (m : List ℕ) (at : ℕ) → is_refused (step w (Read m at)).said ≡ false
    → HasPage (step w (Read m at)).memory (read_args m at).out.ptr (fit (read_args m at).out.len (read_list w.lent w.host m at))
unfolding step read_answer read_memory read_list read_check
read-page-stands w m at e =
    let c = settle-ok w.host (read_check w.lent w.host m at) _ _ e in
    let cap = (read_args m at).out.len in
    let list = read_list w.lent w.host m at in
    rw c
    (has-page m (read_args m at).out.ptr (fit cap list)
    (all_fit Framed cap list (all-only Framed _ _ (records-framed (take w.host.weave.staged w.lent.staging) w.host.next.0)))
    (omega (arith, size-fit cap list, out-lies w.lent w.host m at (read-sound w m at c))))
  where
    read-sound : (w : World) (m : List ℕ) (at : ℕ) → is_clear (read_check w.lent w.host m at) ≡ true → is_clear (read_sound w.lent w.host m at) ≡ true
    read-sound w m at c = found_left (read_sound w.lent w.host m at) _ c
