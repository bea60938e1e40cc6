-- Byte 127: no call and no grant names it, so no module is shown an event with it; a card that holds one mounts, and look-up shows it.
-- Assumes nothing.
use mathlib.Core.Path.{◌≡◌, refl, sym, ap, subst, ◌∙◌}
use mathlib.Core.Bool.{Bool, true, false, not, ◌||◌, or-true}
use mathlib.Core.List.Memᴰ
use mathlib.Core.List.{List, [], ◌∷◌, ◌++◌, Memᴰ}
use mathlib.Core.Logic.{◌↔◌}
use Prim.Native.Nat.{ℕ, ◌+◌, ◌≤◌}
use native.Mathlib.Omega.{arith}
use borrow.Author.Tests.{leb-true, le-leb, eq-eqb}
use lib.Dec.{leb, eqb}
use lib.ListN.{length, length-append}
use lib.Seq.{take_all, get_or-append_seam}
use Rattle.le.proofs.TestLaws.{and_left, and_right, and_both}
use Rattle.text.specs.declared.topic.Rule.TheVariants.{Called, Kept}
use Rattle.text.specs.Topic.{card_topic, good_text, no_control}
use Rattle.text.specs.Utf8.{utf8}
use Rattle.text.specs.Compare.{same_bytes}
use Rattle.text.specs.Words.{panic_topic}
use Rattle.text.specs.Span.{inside}
use Rattle.text.specs.Sizes.{total_len}
use Rattle.text.proofs.TopicLaws.{good-no-del, called-kept, kept-called}
use Rattle.value.specs.declared.Span.{Span}
use Rattle.manifest.specs.Rights.{Right}
use Rattle.manifest.specs.Saying.{is_good, manifest_of, rights_said, may_read}
use Rattle.manifest.proofs.SayingLaws.{rights-good, reader-good}
use Rattle.record.specs.declared.Header.{Header}
use Rattle.record.specs.Record.{topic_of, record_bytes}
use Rattle.record.specs.Good.{good_name, good_record}
use Rattle.record.proofs.GoodLaws.{length-record, record-topic, record-good}
use Rattle.card.specs.Pick.{All}
use Rattle.card.proofs.PickLaws.{all_map}
use Rattle.card.specs.Records.{records, size}
use Rattle.card.proofs.RecordsLaws.{records-append, records-one, size-append}
use Rattle.weave.specs.declared.Code.TheVariants.{Fine}
use Rattle.weave.specs.Moves.{cursor_of}
use Rattle.weave.specs.Args.{write_args, read_args, open_args, bytes_at, topic_fine, filter_fine}
use Rattle.host.specs.Hosts.{Lent, lent_as}
use Rattle.mounts.specs.Mount.{mounted}
use Rattle.reads.specs.Paging.{next_list}
use Rattle.reads.specs.Reading.{read_topic, read_list}
use Rattle.promises.specs.Box.{World, records_on, card_records, Op, Begin, Ingress, Write, Read, Open, Next, Close, Return, LookUp, Part, step, is_refused, mounted_as}
use Rattle.promises.specs.Diary.{first_page}
use Rattle.promises.specs.Turn.{list_left, Allowed}
use Rattle.promises.specs.Naming.{NoDel, Clean, named_in, GoodIn01, MayFollow}
use Rattle.promises.proofs.AcceptedHolds.{ingress-exactly, write-exactly, read-exactly, open-exactly}
use Rattle.promises.proofs.DiaryHolds.{mount-agrees}
use Rattle.promises.proofs.LifeHolds.{life-sane, few-records}
use Rattle.promises.proofs.ListHolds.{all-allowed}
use Rattle.promises.proofs.MountHolds.{mounts}
use Rattle.promises.proofs.ReadBackHolds.{kept-found}
use Rattle.promises.proofs.ReadHolds.{read-lists}
use Rattle.promises.proofs.IndexHolds.{mount-kept}
use Rattle.promises.proofs.PagesHold.{records-long}

-- ---- what may be named, and what a card may keep, in the documents' own words

bytes-kept : (s : List ℕ) → (no_control Kept s ≡ true) ↔ All (λ (b : ℕ). 32 ≤ b) s
unfolding no_control
bytes-kept [] = (λ e. tt, λ h. refl)
bytes-kept (b ∷ s) = (
  λ e. (leb-true 32 b (and_left (leb 32 b) _ e), (bytes-kept s).0 (and_right (leb 32 b) _ e)),
  λ h. and_both (leb 32 b) _ (le-leb 32 b h.0) ((bytes-kept s).1 h.1),
)

module _ (least most : ℕ) (s : List ℕ) where
  pub kept-exactly : (good_text Kept least most s ≡ true) ↔ GoodIn01 least most s
  unfolding good_text
  kept-exactly = (
    λ e.
        let f = and_right (leb least (length s)) _ e in
        let g = and_right (leb (length s) most) _ f in
        record {
          at_least = leb-true least (length s) (and_left (leb least (length s)) _ e);
          at_most = leb-true (length s) most (and_left (leb (length s) most) _ f);
          encoded = and_left (utf8 s) _ g;
          no-control = (bytes-kept s).0 (and_right (utf8 s) _ g);
        },
    λ g. rw (le-leb least (length s) g.at_least, le-leb (length s) most g.at_most, g.encoded) ((bytes-kept s).1 g.no-control),
  )

  pub called-exactly : (good_text Called least most s ≡ true) ↔ (GoodIn01 least most s × NoDel s)
  called-exactly = (
    λ e. (kept-exactly.0 (called-kept least most s e), good-no-del least most s e),
    λ g. kept-called least most s g.1 (kept-exactly.1 g.0),
  )

-- ---- what is named

topic-clean : (m : List ℕ) (s : Span) → topic_fine m s ≡ true → NoDel (bytes_at m s)
unfolding topic_fine
topic-clean m s e = good-no-del 1 2048 (bytes_at m s) (and_right (inside s.ptr s.len (length m)) _ e)

filter-clean : (m : List ℕ) (s : Span) → filter_fine m s ≡ true → NoDel (bytes_at m s)
unfolding filter_fine
filter-clean m s e = good-no-del 0 64 (bytes_at m s) (and_right (inside s.ptr s.len (length m)) _ e)

pub names-no-del : (w : World) (o : Op) → is_refused (step w o).said ≡ false → NoDel (named_in o)
names-no-del w (Begin args) e = Memᴰ.not-nil
names-no-del w (Ingress topic payload) e = good-no-del 1 2048 topic ((ingress-exactly w topic payload).0 e).topic-good
names-no-del w (Write m a) e = topic-clean m (write_args m a).topic ((write-exactly w m a).0 e).topic
names-no-del w (Read m a) e = topic-clean m (read_args m a).topic ((read-exactly w m a).0 e).topic
names-no-del w (Open m a) e = filter-clean m (open_args m a).topic ((open-exactly w m a).0 e).filter
names-no-del w (Next m a) e = Memᴰ.not-nil
names-no-del w (Close m a) e = Memᴰ.not-nil
names-no-del w (Return code) e = Memᴰ.not-nil
names-no-del w (LookUp id) e = Memᴰ.not-nil

pub grants-no-del : (text : List ℕ) (g : Right) → Memᴰ g (rights_said (manifest_of text)) → NoDel g.topic
grants-no-del text g m = good-no-del 1 2048 g.topic (rights-good text g m).topic

-- ---- what is shown

pub lists-no-del : (w : World) (k : ℕ) → All Clean (list_left w k)
unfolding next_list
lists-no-del w k =
    let may = may_read w.lent.text w.host.weave.turn in
    let c = cursor_of w.host.weave k in
    all_map (Allowed may c) Clean
    (λ r a. good-no-del 1 2048 (topic_of r) (reader-good w.lent.text w.host.weave.turn (topic_of r) a.granted).topic)
    (list_left w k) (all-allowed may c (card_records w))

pub reads-no-del : (w : World) (m : List ℕ) (at : ℕ) → is_refused (step w (Read m at)).said ≡ false
    → All Clean (read_list w.lent w.host m at)
reads-no-del w m at e =
    all_map (λ (r : List ℕ). topic_of r ≡ read_topic m at) Clean (λ r q. subst NoDel (sym q) (names-no-del w (Read m at) e))
    (read_list w.lent w.host m at) (read-lists w m at).topics

-- ---- what a card holds

module _ (staging text table front : List ℕ) (h : Header) (trace topic payload : List ℕ) (least : 65536 ≤ length staging) (most : length staging ≤ 1048576)
    (good : is_good (manifest_of text) ≡ true) (entries : h.id.0 ≤ length table) (may : MayFollow front h trace topic payload) where
  abbrev r : List ℕ
  r = record_bytes h trace topic payload

  abbrev card' : List ℕ
  card' = front ++ r

  abbrev l : Lent
  l = lent_as staging card' text

  small : total_len (length topic) (length payload) ≤ 4294967295
  small = omega (arith, may.fits)

  long : length card' ≡ length front + total_len (length topic) (length payload)
  long = length-append front r ∙ ap (λ (n : ℕ). length front + n) (length-record h trace topic payload may.traced small)

  name : good_name h.agent topic ≡ true
  unfolding good_name
  name = and_both (card_topic topic) _ ((kept-exactly 1 2048 topic).1 may.topic-good) (go (same_bytes topic panic_topic) may.panic)
    where
      go : (b : Bool) → (b ≡ true → h.agent ≡ 0) → (eqb h.agent 0 || not b) ≡ true
      go true f = rw (f refl)
      go false f = or-true (eqb h.agent 0)

  sound : good_record r h.id.0 ≡ true
  sound =
      record-good h trace topic payload may.traced small
      (omega (arith, may.number, may.fits, may.sound, few-records (records front 1) (records-long front 1))) may.kind name may.payload-good

  on-card : records_on card' (length card') ≡ records front 1 ++ (r ∷ [])
  on-card =
      rw (take_all (length card') card' (omega arith))
      (records-append r front 1 may.sound ∙ rw (← may.number, records-one r h.id.0 sound))

  pub kept-mounts : (mounted l table (length card')).code ≡ Fine
  kept-mounts =
      (mounts l table (length card')).code
      ∙ rw (
        le-leb 65536 (length staging) least,
        le-leb (length staging) 1048576 most,
        le-leb (length card') 16777216 (omega (arith, long, may.fits)),
        le-leb (length card') (length card') (omega arith),
        good,
        on-card,
        eq-eqb (size (records front 1 ++ (r ∷ []))) (length card') (omega (arith, size-append (records front 1) (r ∷ []), may.sound, length-append front r)),
        le-leb (length (records front 1 ++ (r ∷ []))) (length table) (omega (arith, length-append (records front 1) (r ∷ []), may.number, entries)),
      )

  pub kept-shown : (step (mounted_as l table (length card')) (LookUp h.id.0)).said ≡ Part r
  kept-shown =
      let i = length (records front 1) in
      let here = kept-found (mounted_as l table (length card')) (first_page l (length card')) (mount-agrees _ l table (length card') kept-mounts) (mount-kept _ l table (length card') kept-mounts) (life-sane l table (length card') [] tt kept-mounts) i
      (rw on-card (omega (arith, length-append (records front 1) (r ∷ [])))) in
      let number : h.id.0 ≡ i + 1 = omega (arith, may.number) in
      ap (λ (k : ℕ). (step (mounted_as l table (length card')) (LookUp k)).said) number ∙ here ∙ ap Part (rw on-card (get_or-append_seam (records front 1) r [] []))

  pub kept-named : topic_of r ≡ topic
  kept-named = record-topic h trace topic payload may.traced small
