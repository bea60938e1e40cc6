-- 02, A9: which entries a mount and a commit set, and how many a table has to have.
-- Assumes nothing.
use mathlib.Core.Path.{◌≡◌}
use mathlib.Core.Bool.{true, false}
use mathlib.Core.List.{List, [], ◌∷◌}
use Prim.Native.Nat.{ℕ, ◌+◌, ◌*◌, ◌/◌, ◌≤◌}
use native.Mathlib.Omega.{arith}
use lib.IntN.{ℤ}
use lib.ListN.{length, take, length-take}
use lib.Seq.{length-take-le}
use Rattle.le.proofs.SpliceLaws.{splice-nil}
use Rattle.card.specs.Pick.{All}
use Rattle.card.specs.Records.{records, size}
use Rattle.card.specs.Index.{offsets, entered}
use Rattle.card.proofs.RecordsLaws.{no-records}
use Rattle.card.proofs.PlaceLaws.{records-within}
use Rattle.card.proofs.IndexLaws.{length-offsets}
use Rattle.card.proofs.WalkLaws.{to-size, to-count}
use Rattle.weave.specs.Codes.{is_fine}
use Rattle.host.specs.declared.Fate.TheVariants.{Committed}
use Rattle.host.specs.Hosts.{Lent, card_count}
use Rattle.mounts.specs.Mount.{mounted, entered_bytes, mount_index}
use Rattle.promises.specs.Box.{World, records_on, card_records, Indexed, staged_part, staged_records, Return, Ended, step}
use Rattle.promises.specs.Refusal.{OnlyThere}
use Rattle.promises.specs.Outcome.{staged_chained}
use Rattle.promises.proofs.OutcomeHolds.{committed-exactly}
use Rattle.promises.proofs.RefusalHolds.{laid-there}
use Rattle.promises.proofs.CardHolds.{commit-appends}
use Rattle.promises.proofs.PagesHold.{Long, records-long}

-- ---- which are set

entered-there : (table : List ℕ) (k at : ℕ) (rs : List (List ℕ)) → OnlyThere table (entered table k at rs) k (length rs)
unfolding entered
entered-there table k at rs = laid-there table k (offsets at rs) (length rs) (length-offsets at rs)

module _ (l : Lent) (table : List ℕ) (used : ℕ) where
  pub mount-entries : is_fine (mounted l table used).code ≡ true → OnlyThere table (mount_index l table used) 0 (length (records_on l.card used))
  unfolding mount_index entered_bytes
  mount-entries f = rw f (entered-there table 0 0 (records_on l.card used))

  pub no-entries : is_fine (mounted l table used).code ≡ false → mount_index l table used ≡ table
  unfolding mount_index entered_bytes entered offsets
  no-entries f = rw (f, no-records, splice-nil)

pub commit-entries : (w : World) (code : ℤ) (events bytes : ℕ) → (step w (Return code)).said ≡ Ended (Committed events bytes)
    → OnlyThere w.index (step w (Return code)).world.index (card_count w.host) events
commit-entries w code events bytes e =
    let c = (committed-exactly w code events bytes).0 e in
    let next = w.host.next.0 in
    let many : length (staged_records w) ≡ events = omega (arith, c.1.0, to-count (staged_part w.lent w.host) next (next + w.host.weave.count) c.0.sound) in
    rw ((commit-appends w code events bytes e).entries, ← many) (entered-there w.index (card_count w.host) w.host.used (staged_records w))

-- ---- how many there have to be: a record has 136 bytes at least

few : (rs : List (List ℕ)) → All Long rs → 136 * length rs ≤ size rs
few [] a = omega arith
few (r ∷ rs) a = omega (arith, a.0, few rs a.1)

enough : (n bytes card entries : ℕ) → 136 * n ≤ bytes → bytes ≤ card → card / 136 ≤ entries → n ≤ entries
enough n bytes card entries a b c = omega (arith, a, b, c)

pub enough-at-mount : (l : Lent) (table : List ℕ) (used : ℕ) → used ≤ length l.card → length l.card / 136 ≤ length table → length (records_on l.card used) ≤ length table
enough-at-mount l table used h e =
    let s = take used l.card in
    enough (length (records s 1)) (size (records s 1)) (length l.card) (length table) (few (records s 1) (records-long s 1))
    (omega (arith, records-within s 1, length-take-le used l.card h)) e

pub enough-for-commit : (w : World) → Indexed w → w.host.used + w.host.weave.staged ≤ length w.lent.card → staged_chained w ≡ true
    → length w.lent.card / 136 ≤ length w.index → card_count w.host + w.host.weave.count ≤ length w.index
enough-for-commit w i fits sound e =
    let used = take w.host.used w.lent.card in
    let new = staged_part w.lent w.host in
    let next = w.host.next.0 in
    let last = next + w.host.weave.count in
    let old-many = to-count used 1 next i.sound in
    let new-many = to-count new next last sound in
    enough (card_count w.host + w.host.weave.count) (size (card_records w) + size (staged_records w)) (length w.lent.card) (length w.index)
    (omega (arith, few (card_records w) (records-long used 1), few (staged_records w) (records-long new next), old-many, new-many))
    (omega (arith, to-size used 1 next i.sound, to-size new next last sound, length-take w.host.used w.lent.card, length-take w.host.weave.staged w.lent.staging, fits)) e
