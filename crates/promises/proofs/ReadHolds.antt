-- What a read lists, and when it answers 0.
-- Assumes nothing.
use mathlib.Core.Path.{◌≡◌, ◌∙◌, sym}
use mathlib.Core.Bool.{Bool, true, false, ◌&&◌}
use mathlib.Core.List.{List, [], Memᴰ}
use mathlib.Core.Logic.{◌↔◌}
use Prim.Native.Nat.{ℕ, ◌<◌}
use borrow.Author.Tests.{leb-true, le-leb}
use lib.Dec.{leb}
use Rattle.le.proofs.TestLaws.{and_left, and_right, and_both}
use Rattle.text.specs.Compare.{same_bytes}
use Rattle.text.proofs.CompareLaws.{same_true, same_refl}
use Rattle.record.specs.Record.{id_of, topic_of}
use Rattle.card.specs.Pick.{All, only}
use Rattle.card.proofs.PickLaws.{members, all_map, all-only, mem-only, only-passes, sorted-only}
use Rattle.card.proofs.RecordsLaws.{records-rise}
use Rattle.weave.specs.Args.{read_args}
use Rattle.reads.specs.Reading.{read_topic, read_list}
use Rattle.promises.specs.Box.{World, staged_part, staged_records, Read, step, is_refused}
use Rattle.promises.specs.Diary.{answer_of}
use Rattle.promises.specs.ReadBack.{ReadOf}
use Rattle.promises.proofs.AcceptedHolds.{read-exactly}
use Rattle.promises.proofs.AnswersHold.{answers-are, page-bytes}
use Rattle.promises.proofs.PagesHold.{Long, records-long, page-zero, zero-page}

module _ (w : World) (m : List ℕ) (at : ℕ) where
  abbrev wanted : List ℕ → Bool
  wanted r = same_bytes (topic_of r) (read_topic m at) && leb (read_args m at).start.0 (id_of r)

  pub read-lists : ReadOf (read_topic m at) (read_args m at).start.0 (staged_records w) (read_list w.lent w.host m at)
  unfolding read_list
  read-lists = record {
    every = λ r i t s.
        mem-only wanted r (staged_records w)
        (and_both (same_bytes (topic_of r) (read_topic m at)) _ (rw t (same_refl (read_topic m at))) (le-leb (read_args m at).start.0 (id_of r) s)) i;
    of-these = all-only (λ (r : List ℕ). Memᴰ r (staged_records w)) wanted (staged_records w) (members (staged_records w));
    topics =
        all_map (λ (r : List ℕ). wanted r ≡ true) _
        (λ r e. same_true (topic_of r) (read_topic m at) (and_left (same_bytes (topic_of r) (read_topic m at)) _ e)) (only wanted (staged_records w)) (only-passes wanted (staged_records w));
    ids =
        all_map (λ (r : List ℕ). wanted r ≡ true) _
        (λ r e. leb-true (read_args m at).start.0 (id_of r) (and_right (same_bytes (topic_of r) (read_topic m at)) _ e)) (only wanted (staged_records w)) (only-passes wanted (staged_records w));
    in_order = sorted-only (λ (a b : List ℕ). id_of a < id_of b) wanted (staged_records w) (records-rise (staged_part w.lent w.host) w.host.next.0);
  }

  list-long : All Long (read_list w.lent w.host m at)
  unfolding read_list
  list-long = all-only Long wanted (staged_records w) (records-long (staged_part w.lent w.host) w.host.next.0)

  -- "Answers the bytes written, 0 when none is left"
  pub read-zero : is_refused (step w (Read m at)).said ≡ false → (answer_of (step w (Read m at)).said ≡ 0) ↔ (read_list w.lent w.host m at ≡ [])
  read-zero e =
      let cap' = (read_args m at).out.len in
      let list = read_list w.lent w.host m at in
      let is = answers-are w (Read m at) e in (
        λ z. page-zero cap' list list-long ((read-exactly w m at).0 e).room (page-bytes cap' list ∙ sym is ∙ z),
        λ n. is ∙ sym (page-bytes cap' list) ∙ zero-page cap' list n,
      )
