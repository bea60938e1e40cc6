-- Two boxes that are alike and differ, reached by mount, begin, ingress and a turn: what band A played is any payload, and it is band B's turn.
-- Assumes nothing.
use mathlib.Core.Path.{◌≡◌, refl, sym, ap, ◌∙◌}
use mathlib.Core.Bool.{true, false, true≢false}
use mathlib.Core.List.{List, [], ◌∷◌, append-nil}
use mathlib.Core.Logic.{inl}
use Prim.Native.Nat.{ℕ, ◌+◌, ◌≤◌}
use native.Mathlib.Omega.{arith}
use borrow.Author.Tests.{le-leb}
use lib.IntN.{pos}
use lib.ListN.{length, take, length-append, length-replicate}
use lib.Seq.{take_at, take_all}
use Rattle.le.specs.Splice.{zeros}
use Rattle.text.specs.Compare.{same_bytes}
use Rattle.text.specs.Decimal.{number_of, no_leading_zero, number_from, digits, value_from}
use Rattle.text.specs.Flags.{good_flags}
use Rattle.text.specs.Lines.{closed, fields, line_at, lines, field}
use Rattle.text.specs.Sizes.{total_len}
use Rattle.text.specs.Topic.{good_topic, good_text, no_control}
use Rattle.text.specs.Utf8.{utf8, utf8_from, after}
use Rattle.text.specs.Words.{panic_topic}
use Rattle.manifest.specs.Line.{number_in, modules_in, charge_in, one_to, holder_in, grant_form, right_in}
use Rattle.manifest.specs.Rights.{granted, any_gives, gives}
use Rattle.manifest.specs.Words.{modules_word, charge_word, grant_word, in_word, out_word}
use Rattle.manifest.specs.Head.{optional, beyond, modules_of, head_of, grant_lines}
use Rattle.manifest.specs.Saying.{is_good, modules_said, manifest_of, charge_of, good_head, grants_said, good_grants, all_grants, may_read}
use Rattle.record.specs.Good.{good_kind, good_name, good_record}
use Rattle.record.specs.Record.{topic_of, payload_of}
use Rattle.record.proofs.GoodLaws.{length-record, record-topic, record-payload, record-good}
use Rattle.record.proofs.WrittenLaws.{raw-payload}
use Rattle.record.specs.declared.Header.{Header}
use Rattle.card.specs.Records.{up_to, records}
use Rattle.card.specs.Walk.{chain_to}
use Rattle.card.proofs.RecordsLaws.{records-one}
use Rattle.card.proofs.WalkLaws.{to-chain, to-records}
use Rattle.weave.specs.declared.Code.TheVariants.{Fine}
use Rattle.weave.specs.States.{fresh_weave}
use Rattle.host.specs.declared.Fate.TheVariants.{Running}
use Rattle.host.specs.Hosts.{Lent, with_weave}
use Rattle.mounts.specs.Mount.{mounted}
use Rattle.writes.specs.Stage.{room_fine}
use Rattle.promises.specs.Box.{World, records_on, Begin, Ingress, Return, Ended, step, is_refused, mounted_as}
use Rattle.promises.specs.Outcome.{module_count, SameCard, begun_with}
use Rattle.promises.specs.TwoBands.{Beside, Alike}
use Rattle.promises.specs.SideBySide.{Together, Exchanged}
use Rattle.promises.specs.Standing.{at_mount, started, Stands}
use Rattle.promises.specs.TwoWeaves.{hundred}
use Rattle.promises.specs.Bands.{bands, take_of, take_a, take_b, card_with, lent_with, to_band_b, in_band_b, BandBsTurn}
use Rattle.promises.proofs.AcceptedHolds.{begin-exactly, ingress-exactly}
use Rattle.promises.proofs.ReturnHolds.{running-exactly, turn-passes}
use Rattle.promises.proofs.MountHolds.{mounts, mount-fresh, mount-healthy}
use Rattle.promises.proofs.WeaveHolds.{begin-sets}
use Rattle.promises.proofs.CountHolds.{turn-counted}
use Rattle.promises.proofs.LifeHolds.{life-sane}
use Rattle.promises.proofs.StandingHolds.{ruled-stands}
use Rattle.promises.proofs.CardHolds.{same-run}
use Rattle.promises.proofs.AlikeHolds.{mounts-beside, exchanged-alike}
use Rattle.promises.proofs.TwoBandsHold.{side_by_side}
use Rattle.promises.proofs.IndexHolds.{mount-kept, life-kept}
use Rattle.promises.proofs.RunLaws.{no_bytes}
use Rattle.promises.proofs.NamingHolds.{called-exactly, kept-mounts}

-- ---- what the manifest says: two modules; band B is granted what it plays itself, and not what band A plays

record Says : Type 0 where
  good : is_good (manifest_of bands) ≡ true
  two : modules_said (manifest_of bands) ≡ 2
  own : may_read bands 2 (98 ∷ []) ≡ true
  hidden : may_read bands 2 (97 ∷ []) ≡ false
  topic : good_topic (98 ∷ []) ≡ true

says : Says
unfolding may_read granted any_gives gives right_in manifest_of good_head modules_of head_of optional beyond grant_lines grants_said good_grants all_grants closed modules_in charge_in number_in fields line_at lines same_bytes field modules_word charge_word one_to number_of no_leading_zero number_from digits value_from holder_in grant_form grant_word in_word out_word good_text utf8 utf8_from after no_control
says = record { good = refl; two = refl; own = refl; hidden = refl; topic = refl }

-- ---- the two takes

record TakeIs (number module' letter : ℕ) (payload : List ℕ) : Type 0 where
  small : total_len 1 (length payload) ≤ 1000144
  long : length (take_of number module' letter payload) ≡ total_len 1 (length payload)
  topic : topic_of (take_of number module' letter payload) ≡ letter ∷ []
  content : payload_of (take_of number module' letter payload) ≡ payload
  one : records (take_of number module' letter payload) number ≡ take_of number module' letter payload ∷ []
  sound : chain_to (take_of number module' letter payload) number (number + 1) ≡ true

take-is : (number module' letter : ℕ) (payload : List ℕ) → number ≤ 2 → length payload ≤ 1000000 → good_kind 1 module' ≡ true → good_name module' (letter ∷ []) ≡ true
    → TakeIs number module' letter payload
take-is number module' letter payload low short kind name =
    let head : Header = record { id = record { 0 = number }; flags = 1; time = record { 0 = 0 }; agent = module' } in
    let r = take_of number module' letter payload in
    let small : total_len 1 (length payload) ≤ 1000144 = omega arith in
    let fits : total_len 1 (length payload) ≤ 4294967295 = omega (arith, small) in
    let good : good_record r number ≡ true = record-good head (zeros 32) (letter ∷ []) payload refl fits (omega arith) kind name (raw-payload 1 payload cc) in
    let one : records r number ≡ r ∷ [] = records-one r number good in
    record {
      small = small;
      long = length-record head (zeros 32) (letter ∷ []) payload refl fits;
      topic = record-topic head (zeros 32) (letter ∷ []) payload refl fits;
      content = record-payload head (zeros 32) (letter ∷ []) payload refl fits;
      one = one;
      sound = to-chain r number (number + 1) (rw one (omega arith)) (rw one);
    }

kinds : (good_kind 1 1 ≡ true) × (good_kind 1 2 ≡ true)
unfolding good_kind good_flags
kinds = (cc, cc)

a-is : (payload : List ℕ) → length payload ≤ 1000000 → TakeIs 1 1 97 payload
unfolding good_name good_text utf8 utf8_from after no_control same_bytes panic_topic
a-is payload short = take-is 1 1 97 payload (omega arith) short kinds.0 refl

b-is : TakeIs 2 2 98 []
unfolding good_name good_text utf8 utf8_from after no_control same_bytes panic_topic
b-is = take-is 2 2 98 [] (omega arith) (omega arith) kinds.1 refl

-- ---- one box

module _ (n : ℕ) (least : 65536 ≤ n) (most : n ≤ 1048576) (payload : List ℕ) (short : length payload ≤ 1000000) where
  abbrev l : Lent
  l = lent_with n payload

  abbrev table : List ℕ
  table = zeros 3

  abbrev used' : ℕ
  used' = length (card_with payload)

  staging-long : length (zeros n) ≡ n
  staging-long = length-replicate {0} {A = ℕ} n 0

  fine : (mounted l table used').code ≡ Fine
  unfolding same_bytes panic_topic
  fine =
      let is = a-is payload short in
      kept-mounts (zeros n) bands table (take_a payload) (record { id = record { 0 = 2 }; flags = 1; time = record { 0 = 0 }; agent = 2 }) (zeros 32) (98 ∷ []) []
      (omega (arith, staging-long)) (omega (arith, staging-long)) says.good (omega arith)
      (record {
        sound = rw is.one (omega arith);
        number = rw is.one;
        traced = refl;
        kind = kinds.1;
        topic-good = ((called-exactly 1 2048 (98 ∷ [])).0 says.topic).0;
        panic = λ e. absurd (true≢false (sym e));
        payload-good = raw-payload 1 [] cc;
        fits = omega (arith, is.long, is.small);
      })

  on-card : records_on (card_with payload) used' ≡ take_a payload ∷ take_b ∷ []
  on-card =
      rw (take_all used' (card_with payload) (omega arith)) (to-records (take_a payload) take_b 1 2 (a-is payload short).sound ∙ rw ((a-is payload short).one, b-is.one))

  -- ---- begin, ingress, return

  abbrev w₀ : World
  w₀ = mounted_as l table used'

  e₀ : is_refused (step w₀ (Begin hundred)).said ≡ false
  unfolding fresh_weave
  e₀ = (begin-exactly w₀ hundred).1 (record { check-1 = life-sane l table used' [] tt fine; idle = rw (mount-fresh l table used'); healthy = mount-healthy l table used'; long = refl })

  abbrev w₁ : World
  w₁ = (step w₀ (Begin hundred)).world

  begun : w₁ ≡ begun_with w₀ hundred
  begun = begin-sets w₀ hundred e₀

  runs : w₁.host.weave.running ≡ true
  unfolding with_weave
  runs = rw begun

  two-events : w₀.host.next.0 ≡ 3
  two-events = ((mounts l table used').fresh fine).next ∙ rw on-card

  e₁ : is_refused (step w₁ (Ingress (98 ∷ []) [])).said ≡ false
  unfolding with_weave room_fine
  e₁ =
      (ingress-exactly w₁ (98 ∷ []) []).1
      (record {
        check-1 = life-sane l table used' (Begin hundred ∷ []) (no_bytes, tt) fine;
        running = runs;
        early = rw begun;
        topic-good = says.topic;
        room = rw (begun, two-events, staging-long, staging-long, le-leb 136 n (omega arith));
      })

  abbrev w₂ : World
  w₂ = (step w₁ (Ingress (98 ∷ []) [])).world

  stands : Stands w₂ (started at_mount)
  stands = rw (e₀, e₁) at (ruled-stands (charge_of bands) l table used' (Begin hundred ∷ Ingress (98 ∷ []) [] ∷ []))

  first-turn : w₂.host.weave.turn ≡ 1
  unfolding step
  first-turn = (turn-counted w₀ hundred e₀ (Ingress (98 ∷ []) [] ∷ []) (runs, stands.running)).0

  two-modules : module_count w₂ ≡ 2
  unfolding step
  two-modules = says.two

  e₂ : (step w₂ (Return (pos 0))).said ≡ Ended Running
  e₂ =
      (running-exactly w₂ (pos 0)).1 (
        record {
          returns = record { table-long = (life-kept (charge_of bands) l table used' fine (Begin hundred ∷ Ingress (98 ∷ []) [] ∷ [])).long; check-1 = life-sane l table used' (Begin hundred ∷ Ingress (98 ∷ []) [] ∷ []) (no_bytes, (no_bytes, tt)) fine; running = stands.running };
          unspoiled = stands.mark;
          zero-or-one = inl refl;
        },
        omega (arith, first-turn, two-modules),
      )

  -- the card is as it was
  kept : SameCard w₀ (in_band_b n payload)
  unfolding step
  kept = same-run to_band_b w₀ (refl, (refl, (rw e₂, tt)))

  -- THE PROMISE: it is band B's turn
  pub bands-turn : BandBsTurn (in_band_b n payload) payload
  unfolding with_weave
  bands-turn = record {
    running = rw (turn-passes w₂ (pos 0) e₂) stands.running;
    turn = rw (turn-passes w₂ (pos 0) e₂, first-turn);
    card = rw (kept.card, kept.used, ((mounts l table used').fresh fine).used) on-card;
    own = rw (kept.text, b-is.topic) says.own;
    other = rw (kept.text, (a-is payload short).topic) says.hidden;
  }

-- ---- two boxes

module _ (n : ℕ) (least : 65536 ≤ n) (most : n ≤ 1048576) (p q : List ℕ) (same : length p ≡ length q) (short : length p ≤ 1000000) where
  short' : length q ≤ 1000000
  short' = omega (arith, same, short)

  take_same : length (take_a q) ≡ length (take_a p)
  take_same = rw ((a-is p short).long, (a-is q short').long, same)

  card-same : length (card_with q) ≡ length (card_with p)
  card-same = rw (length-append (take_a q) take_b, length-append (take_a p) take_b, take_same)

  -- both as they are mounted
  abbrev used'' : ℕ
  used'' = length (card_with p)

  abbrev v₁ : World
  v₁ = mounted_as (lent_with n p) (zeros 3) used''

  abbrev v₂ : World
  v₂ = mounted_as (lent_with n q) (zeros 3) used''

  fine' : (mounted (lent_with n q) (zeros 3) used'').code ≡ Fine
  fine' = rw (← card-same) (fine n least most q short')

  on-card' : records_on (card_with q) used'' ≡ take_a q ∷ take_b ∷ []
  on-card' = rw (← card-same) (on-card n least most q short')

  beside : Beside v₁ v₂
  beside = mounts-beside (zeros n) bands (card_with p) (card_with q) (zeros 3) (zeros 3) used'' (sym card-same) refl (fine n least most p short) fine' (rw (on-card n least most p short, on-card'))

  none-sound : chain_to [] 1 1 ≡ true
  unfolding records up_to
  none-sound = to-chain [] 1 1 refl refl

  -- band A's take is a run of one event, and band B is not granted it
  exchanged : Exchanged 2 v₁ v₂
  exchanged = record {
    beside = beside;
    was = take_a p;
    is = take_a q;
    first = 1;
    next = 2;
    front = [];
    back = take_b;
    rest = [];
    card₁ = sym (append-nil (card_with p));
    card₂ = sym (append-nil (card_with q));
    used = ((mounts (lent_with n p) (zeros 3) used'').fresh (fine n least most p short)).used;
    long = take_same;
    front-sound = none-sound;
    was-sound = (a-is p short).sound;
    is-sound = (a-is q short').sound;
    back-sound = rw (two-events n least most p short) b-is.sound;
    small = (mount-kept (charge_of bands) (lent_with n p) (zeros 3) used'' (fine n least most p short)).indexed.small;
    fits₁ = (mount-kept (charge_of bands) (lent_with n p) (zeros 3) used'' (fine n least most p short)).indexed.fits;
    fits₂ = (mount-kept (charge_of bands) (lent_with n q) (zeros 3) used'' fine').indexed.fits;
    was-hidden = rw ((a-is p short).one, (a-is p short).topic) (says.hidden, tt);
    is_hidden = rw ((a-is q short').one, (a-is q short').topic) (says.hidden, tt);
  }

  together : Together (λ (k : ℕ). k ≡ 2) v₁ v₂ to_band_b
  together = side_by_side (λ (k : ℕ). k ≡ 2) to_band_b v₁ v₂ beside (λ k e. rw e (exchanged-alike 2 v₁ v₂ exchanged)) (tt, (tt, (tt, tt)))

  -- THE PROMISE: in band B's turn they are alike
  pub bands-alike : Alike (in_band_b n p) (in_band_b n q)
  bands-alike = rw card-same (record { beside = together.beside; cards = together.cards _ (bands-turn n least most p short).turn })

  -- and band A has played what it likes
  pub bands-differ : (in_band_b n p).lent.card ≡ (in_band_b n q).lent.card → p ≡ q
  bands-differ e =
      let cards : card_with p ≡ card_with q = sym (kept n least most p short).card ∙ e ∙ (kept n least most q short').card in
      let takes : take_a p ≡ take_a q =
      sym (take_at (take_a p) take_b (length (take_a p)) refl) ∙ ap (take (length (take_a p))) cards ∙ take_at (take_a q) take_b (length (take_a p)) take_same in
      sym (a-is p short).content ∙ ap payload_of takes ∙ (a-is q short').content
