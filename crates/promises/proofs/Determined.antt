-- For each public function: two results that meet its contract are equal, and so is each buffer that it was lent to write to. The contract is `Learnt`, what
-- the check gives a caller of the function. (Of a returned slice the bytes are equal: a contract has no word for its place.)
-- Assumes nothing.
use mathlib.Core.Path.{◌≡◌, refl, sym, ◌∙◌}
use mathlib.Core.List.{List}
use Prim.Native.Nat.{ℕ}
use borrow.Fn.Kinds.{ParamKind, ResultKind, Dens, res_t, ended_of, Out}
use denote.Triple.Clauses.{AtExit}
use contract.Lifetimes.{Lfts}
use denote.RattleType.{RattleType}
use denote.Exit.{no}
use denote.Struct.Field.{uint_field}
use denote.Struct.Laws.{FLaws, Copyable, u8-laws, u32-laws, u64-laws, u8-copy, u32-copy, u64-copy}
use denote.Param.{arg}
use denote.Param.Laws.{Laws, IsCopy, arg_laws, arg_copy, of_field, of_copyable}
use denote.Param.Shared.{copy_shared}
use mir.Syntax.{Dict, Width, w8, w32, w64, ty_int}
use Rattle.std.specs.declared.clone.Clone as Clone
use Rattle.std.specs.contracts.prelude.U8Clone.TheImpl as u8-clone
use Rattle.std.specs.contracts.prelude.U32Clone.TheImpl as u32-clone
use Rattle.std.specs.contracts.prelude.U64Clone.TheImpl as u64-clone
use Rattle.le.specs.declared.Number as Number
use Rattle.le.specs.contracts.U8Number.TheImpl as u8-number
use Rattle.le.specs.contracts.U32Number.TheImpl as u32-number
use Rattle.le.specs.contracts.U64Number.TheImpl as u64-number
use Rattle.le.specs.contracts.U8Number.TheImpl.Laws as u8-proved
use Rattle.le.specs.contracts.U32Number.TheImpl.Laws as u32-proved
use Rattle.le.specs.contracts.U64Number.TheImpl.Laws as u64-proved
use Rattle.le.proofs as le
use Rattle.text.proofs as text
use Rattle.value.proofs as value
use Rattle.manifest.proofs as manifest
use Rattle.record.proofs as records
use Rattle.card.proofs as card
use Rattle.weave.proofs as weave
use Rattle.takes.proofs as takes
use Rattle.host.proofs as host
use Rattle.mounts.proofs as mounts
use Rattle.writes.proofs as writes
use Rattle.reads.proofs as reads

-- two results
abbrev pub ResultOnce : {n : ℕ} (ps : List (ParamKind n)) (r : ResultKind n) → Out n ps r → Type 0
ResultOnce {n} ps r Q = (κs : Lfts n) (a : Dens κs ps) (z z' : (res_t r κs).Denot) (s s' : AtExit (ended_of n ps r) κs) → Q κs a z s → Q κs a z' s' → z ≡ z'

-- one thing that is seen of two results, or of two exits
abbrev pub SeenOnce : {A : Type 0} {n : ℕ} (ps : List (ParamKind n)) (r : ResultKind n) → Out n ps r → ((κs : Lfts n) → (res_t r κs).Denot → AtExit (ended_of n ps r) κs → A) → Type 0
SeenOnce {A} {n} ps r Q seen =
    (κs : Lfts n) (a : Dens κs ps) (z z' : (res_t r κs).Denot) (s s' : AtExit (ended_of n ps r) κs) → Q κs a z s → Q κs a z' s' → seen κs z s ≡ seen κs z' s'

-- two that are equal to a third, by a contract of one clause, of two, of three, of four
pub meet : {A : Type 0} {x y z : A} → x ≡ z → y ≡ z → x ≡ y
meet p q = p ∙ sym q

pub meet-0 : {A B C : Type 0} {x y z : A} → (x ≡ z) × B → (y ≡ z) × C → x ≡ y
meet-0 p q = p.0 ∙ sym q.0

pub meet-1 : {A B C : Type 0} {x y z : A} → B × (x ≡ z) → C × (y ≡ z) → x ≡ y
meet-1 p q = p.1 ∙ sym q.1

meet-1-0 : {A B C D E : Type 0} {x y z : A} → B × ((x ≡ z) × C) → D × ((y ≡ z) × E) → x ≡ y
meet-1-0 p q = p.1.0 ∙ sym q.1.0

meet-1-1 : {A B C D E : Type 0} {x y z : A} → B × (C × (x ≡ z)) → D × (E × (y ≡ z)) → x ≡ y
meet-1-1 p q = p.1.1 ∙ sym q.1.1

meet-1-1-0 : {A B C D E F G : Type 0} {x y z : A} → B × (C × ((x ≡ z) × D)) → E × (F × ((y ≡ z) × G)) → x ≡ y
meet-1-1-0 p q = p.1.1.0 ∙ sym q.1.1.0

meet-1-1-1 : {A B C D E F G : Type 0} {x y z : A} → B × (C × (D × (x ≡ z))) → E × (F × (G × (y ≡ z))) → x ≡ y
meet-1-1-1 p q = p.1.1.1 ∙ sym q.1.1.1

ruleset met = (meet, meet-0, meet-1, meet-1-0, meet-1-1, meet-1-1-0, meet-1-1-1)

-- ---- numbers and runs of bytes

-- A number's type as a call of `get` or `put` hands it over, with the kit's laws for it.
pub record Handed : Type 2 where
  pub row : RattleType
  pub laws : Laws row
  pub copies : IsCopy row

abbrev pub handed : (w : Width) → FLaws (uint_field w) → Copyable (uint_field w) → Handed
handed w laws copies =
    let F = uint_field w in
    record {
      row = arg (ty_int w) no F.row;
      laws = arg_laws (ty_int w) no F.row (of_field F laws refl (copy_shared F copies)) refl;
      copies = arg_copy (ty_int w) no F.row (of_copyable F copies) refl;
    }

abbrev pub u8 : Handed
u8 = handed w8 u8-laws u8-copy

abbrev pub u32 : Handed
u32 = handed w32 u32-laws u32-copy

abbrev pub u64 : Handed
u64 = handed w64 u64-laws u64-copy

-- `front` at any type. What is over any number stands here over any, and once more at each type that is one. That two numbers of one value are one is the
-- law `distinct` of le's `Number`: over any number it is a premise, and at each type it is cited as the type's impl proves it.
pub record LeOnce : Type 2 where
  pub front : (T : RattleType) (laws : Laws T) → SeenOnce (le.front.Kinds.ps T laws) (le.front.Kinds.r T laws) (le.front.Reads.Learnt T laws) (λ κs z s. z.now)
  pub tail : SeenOnce le.tail.Kinds.ps le.tail.Kinds.r le.tail.Reads.Learnt (λ κs z s. z.now)
  pub cut : SeenOnce le.cut.Kinds.ps le.cut.Kinds.r le.cut.Reads.Learnt (λ κs z s. z.now)
  pub get : (N : RattleType) (laws : Laws N) (copies : IsCopy N) (number : Number.Ghosts N.Denot) (d : Dict) (clone : Clone.Ghosts N.Denot) (e : Dict)
      → ((m n : N.Denot) → number.value m ≡ number.value n → m ≡ n)
      → ResultOnce (le.get.Kinds.ps N laws copies) (le.get.Kinds.r N laws copies) (le.get.Reads.Learnt N laws copies number d clone e)
  pub get-u8 : ResultOnce (le.get.Kinds.ps u8.row u8.laws u8.copies) (le.get.Kinds.r u8.row u8.laws u8.copies) (le.get.Reads.Learnt u8.row u8.laws u8.copies u8-number.ghosts u8-number.dict u8-clone.ghosts u8-clone.dict)
  pub get-u32 : ResultOnce (le.get.Kinds.ps u32.row u32.laws u32.copies) (le.get.Kinds.r u32.row u32.laws u32.copies) (le.get.Reads.Learnt u32.row u32.laws u32.copies u32-number.ghosts u32-number.dict u32-clone.ghosts u32-clone.dict)
  pub get-u64 : ResultOnce (le.get.Kinds.ps u64.row u64.laws u64.copies) (le.get.Kinds.r u64.row u64.laws u64.copies) (le.get.Reads.Learnt u64.row u64.laws u64.copies u64-number.ghosts u64-number.dict u64-clone.ghosts u64-clone.dict)
  pub put-s : (N : RattleType) (laws : Laws N) (copies : IsCopy N) (number : Number.Ghosts N.Denot) (d : Dict) (clone : Clone.Ghosts N.Denot) (e : Dict)
      → SeenOnce (le.put.Kinds.ps N laws copies) (le.put.Kinds.r N laws copies) (le.put.Reads.Learnt N laws copies number d clone e) (λ κs z s. s.0.now)
  pub put-u8-s : SeenOnce (le.put.Kinds.ps u8.row u8.laws u8.copies) (le.put.Kinds.r u8.row u8.laws u8.copies) (le.put.Reads.Learnt u8.row u8.laws u8.copies u8-number.ghosts u8-number.dict u8-clone.ghosts u8-clone.dict) (λ κs z s. s.0.now)
  pub put-u32-s : SeenOnce (le.put.Kinds.ps u32.row u32.laws u32.copies) (le.put.Kinds.r u32.row u32.laws u32.copies) (le.put.Reads.Learnt u32.row u32.laws u32.copies u32-number.ghosts u32-number.dict u32-clone.ghosts u32-clone.dict) (λ κs z s. s.0.now)
  pub put-u64-s : SeenOnce (le.put.Kinds.ps u64.row u64.laws u64.copies) (le.put.Kinds.r u64.row u64.laws u64.copies) (le.put.Reads.Learnt u64.row u64.laws u64.copies u64-number.ghosts u64-number.dict u64-clone.ghosts u64-clone.dict) (λ κs z s. s.0.now)
  pub number-narrowed : (N : RattleType) (laws : Laws N) (copies : IsCopy N) (number : Number.Ghosts N.Denot) (d : Dict) (clone : Clone.Ghosts N.Denot) (e : Dict)
      → ((m n : N.Denot) → number.value m ≡ number.value n → m ≡ n)
      → ResultOnce (le.Number.narrowed.Kinds.ps N laws copies) (le.Number.narrowed.Kinds.r N laws copies) (le.Number.narrowed.Reads.Learnt N laws copies number d clone e)
  pub number-narrowed-u8 : ResultOnce le.U8Number.narrowed.Kinds.ps le.U8Number.narrowed.Kinds.r le.U8Number.narrowed.Reads.Learnt
  pub number-narrowed-u32 : ResultOnce le.U32Number.narrowed.Kinds.ps le.U32Number.narrowed.Kinds.r le.U32Number.narrowed.Reads.Learnt
  pub number-narrowed-u64 : ResultOnce le.U64Number.narrowed.Kinds.ps le.U64Number.narrowed.Kinds.r le.U64Number.narrowed.Reads.Learnt
  pub number-widened : (N : RattleType) (laws : Laws N) (copies : IsCopy N) (number : Number.Ghosts N.Denot) (d : Dict) (clone : Clone.Ghosts N.Denot) (e : Dict)
      → ResultOnce (le.Number.widened.Kinds.ps N laws copies) (le.Number.widened.Kinds.r N laws copies) (le.Number.widened.Reads.Learnt N laws copies number d clone e)
  pub number-widened-u8 : ResultOnce le.U8Number.widened.Kinds.ps le.U8Number.widened.Kinds.r le.U8Number.widened.Reads.Learnt
  pub number-widened-u32 : ResultOnce le.U32Number.widened.Kinds.ps le.U32Number.widened.Kinds.r le.U32Number.widened.Reads.Learnt
  pub number-widened-u64 : ResultOnce le.U64Number.widened.Kinds.ps le.U64Number.widened.Kinds.r le.U64Number.widened.Reads.Learnt
  pub copy-at-dst : SeenOnce le.copy_at.Kinds.ps le.copy_at.Kinds.r le.copy_at.Reads.Learnt (λ κs z s. s.1.0.now)
  pub lay-dst : SeenOnce le.lay.Kinds.ps le.lay.Kinds.r le.lay.Reads.Learnt (λ κs z s. s.1.0.now)
  pub copy-part-dst : SeenOnce le.copy_part.Kinds.ps le.copy_part.Kinds.r le.copy_part.Reads.Learnt (λ κs z s. s.1.1.1.0.now)
  pub zero-range-dst : SeenOnce le.zero_range.Kinds.ps le.zero_range.Kinds.r le.zero_range.Reads.Learnt (λ κs z s. s.0.now)
  pub zero-between : ResultOnce le.zero_between.Kinds.ps le.zero_between.Kinds.r le.zero_between.Reads.Learnt

pub le-once : LeOnce
le-once =
    record {
      front = λ T laws. search met;
      tail = search met;
      cut = search met;
      get = λ N laws copies number d clone e one κs a z z' s s' p q. one z z' (p ∙ sym q);
      get-u8 = λ κs a z z' s s' p q. u8-proved.distinct-law z z' (p ∙ sym q);
      get-u32 = λ κs a z z' s s' p q. u32-proved.distinct-law z z' (p ∙ sym q);
      get-u64 = λ κs a z z' s s' p q. u64-proved.distinct-law z z' (p ∙ sym q);
      put-s = λ N laws copies number d clone e. search met;
      put-u8-s = search met;
      put-u32-s = search met;
      put-u64-s = search met;
      number-narrowed = λ N laws copies number d clone e one κs a z z' s s' p q. one z z' (p ∙ sym q);
      number-narrowed-u8 = search met;
      number-narrowed-u32 = search met;
      number-narrowed-u64 = search met;
      number-widened = λ N laws copies number d clone e. search met;
      number-widened-u8 = search met;
      number-widened-u32 = search met;
      number-widened-u64 = search met;
      copy-at-dst = search met;
      lay-dst = search met;
      copy-part-dst = search met;
      zero-range-dst = search met;
      zero-between = search met;
    }

-- ---- texts

pub record TextOnce : Type 0 where
  pub compare-starts-with : ResultOnce text.compare.starts_with.Kinds.ps text.compare.starts_with.Kinds.r text.compare.starts_with.Reads.Learnt
  pub compare_same : ResultOnce text.compare.same.Kinds.ps text.compare.same.Kinds.r text.compare.same.Reads.Learnt
  pub decimal-read-number : ResultOnce text.decimal.read_number.Kinds.ps text.decimal.read_number.Kinds.r text.decimal.read_number.Reads.Learnt
  pub decimal-digit-count : ResultOnce text.decimal.digit_count.Kinds.ps text.decimal.digit_count.Kinds.r text.decimal.digit_count.Reads.Learnt
  pub decimal-put-number : ResultOnce text.decimal.put_number.Kinds.ps text.decimal.put_number.Kinds.r text.decimal.put_number.Reads.Learnt
  pub decimal-put-number-out : SeenOnce text.decimal.put_number.Kinds.ps text.decimal.put_number.Kinds.r text.decimal.put_number.Reads.Learnt (λ κs z s. s.0.now)
  pub flags-good-flags : ResultOnce text.flags.good_flags.Kinds.ps text.flags.good_flags.Kinds.r text.flags.good_flags.Reads.Learnt
  pub flags-is-value : ResultOnce text.flags.is_value.Kinds.ps text.flags.is_value.Kinds.r text.flags.is_value.Reads.Learnt
  pub lines-find : ResultOnce text.lines.find.Kinds.ps text.lines.find.Kinds.r text.lines.find.Reads.Learnt
  pub lines-line : SeenOnce text.lines.line.Kinds.ps text.lines.line.Kinds.r text.lines.line.Reads.Learnt (λ κs z s. z.now)
  pub lines-closed : ResultOnce text.lines.closed.Kinds.ps text.lines.closed.Kinds.r text.lines.closed.Reads.Learnt
  pub lines-field-count : ResultOnce text.lines.field_count.Kinds.ps text.lines.field_count.Kinds.r text.lines.field_count.Reads.Learnt
  pub lines-behind : SeenOnce text.lines.behind.Kinds.ps text.lines.behind.Kinds.r text.lines.behind.Reads.Learnt (λ κs z s. z.now)
  pub lines-field : SeenOnce text.lines.field.Kinds.ps text.lines.field.Kinds.r text.lines.field.Reads.Learnt (λ κs z s. z.now)
  pub sizes-up-to-8 : ResultOnce text.sizes.up_to_8.Kinds.ps text.sizes.up_to_8.Kinds.r text.sizes.up_to_8.Reads.Learnt
  pub sizes-total-len : ResultOnce text.sizes.total_len.Kinds.ps text.sizes.total_len.Kinds.r text.sizes.total_len.Reads.Learnt
  pub span-inside : ResultOnce text.span.inside.Kinds.ps text.span.inside.Kinds.r text.span.inside.Reads.Learnt
  pub topic-good-topic : ResultOnce text.topic.good_topic.Kinds.ps text.topic.good_topic.Kinds.r text.topic.good_topic.Reads.Learnt
  pub topic-card-topic : ResultOnce text.topic.card_topic.Kinds.ps text.topic.card_topic.Kinds.r text.topic.card_topic.Reads.Learnt
  pub topic-good-filter : ResultOnce text.topic.good_filter.Kinds.ps text.topic.good_filter.Kinds.r text.topic.good_filter.Reads.Learnt
  pub utf8-valid : ResultOnce text.utf8.valid.Kinds.ps text.utf8.valid.Kinds.r text.utf8.valid.Reads.Learnt
  pub words-is-panic : ResultOnce text.words.is_panic.Kinds.ps text.words.is_panic.Kinds.r text.words.is_panic.Reads.Learnt
  pub words-is-core : ResultOnce text.words.is_core.Kinds.ps text.words.is_core.Kinds.r text.words.is_core.Reads.Learnt

pub text-once : TextOnce
text-once = search met

-- ---- values

pub record ValueOnce : Type 0 where
  pub check-check-value : ResultOnce value.check.check_value.Kinds.ps value.check.check_value.Kinds.r value.check.check_value.Reads.Learnt
  pub decode-read-value : ResultOnce value.decode.read_value.Kinds.ps value.decode.read_value.Kinds.r value.decode.read_value.Reads.Learnt
  pub form-good-stored : ResultOnce value.form.good_stored.Kinds.ps value.form.good_stored.Kinds.r value.form.good_stored.Reads.Learnt
  pub scalar-put-scalar-out : SeenOnce value.scalar.put_scalar.Kinds.ps value.scalar.put_scalar.Kinds.r value.scalar.put_scalar.Reads.Learnt (λ κs z s. s.0.now)
  pub shown-show-value-buf : SeenOnce value.shown.show_value.Kinds.ps value.shown.show_value.Kinds.r value.shown.show_value.Reads.Learnt (λ κs z s. s.0.now)
  pub store-put-value-out : SeenOnce value.store.put_value.Kinds.ps value.store.put_value.Kinds.r value.store.put_value.Reads.Learnt (λ κs z s. s.1.1.0.now)
  pub store-store-value-out : SeenOnce value.store.store_value.Kinds.ps value.store.store_value.Kinds.r value.store.store_value.Reads.Learnt (λ κs z s. s.1.1.0.now)

pub value-once : ValueOnce
value-once = search met

-- ---- the manifest

pub record ManifestOnce : Type 0 where
  pub manifest-read : ResultOnce manifest.Manifest.read.Kinds.ps manifest.Manifest.read.Kinds.r manifest.Manifest.read.Reads.Learnt
  pub manifest-granted : ResultOnce manifest.Manifest.granted.Kinds.ps manifest.Manifest.granted.Kinds.r manifest.Manifest.granted.Reads.Learnt
  pub manifest-held : ResultOnce manifest.Manifest.held.Kinds.ps manifest.Manifest.held.Kinds.r manifest.Manifest.held.Reads.Learnt
  pub manifest-held-places : SeenOnce manifest.Manifest.held.Kinds.ps manifest.Manifest.held.Kinds.r manifest.Manifest.held.Reads.Learnt (λ κs z s. s.1.1.0.now)
  pub held-stands-at : ResultOnce manifest.held.stands_at.Kinds.ps manifest.held.stands_at.Kinds.r manifest.held.stands_at.Reads.Learnt

pub manifest-once : ManifestOnce
manifest-once = search met

-- ---- records

pub record RecordOnce : Type 0 where
  pub good-good-record : ResultOnce records.good.good_record.Kinds.ps records.good.good_record.Kinds.r records.good.good_record.Reads.Learnt
  pub header-payload-at : ResultOnce records.Header.payload_at.Kinds.ps records.Header.payload_at.Kinds.r records.Header.payload_at.Reads.Learnt
  pub put-put-record-staging : SeenOnce records.put.put_record.Kinds.ps records.put.put_record.Kinds.r records.put.put_record.Reads.Learnt (λ κs z s. s.0.now)
  pub put-put-value-record-staging : SeenOnce records.put.put_value_record.Kinds.ps records.put.put_value_record.Kinds.r records.put.put_value_record.Reads.Learnt (λ κs z s. s.0.now)
  pub shown-put-shown-memory : SeenOnce records.shown.put_shown.Kinds.ps records.shown.put_shown.Kinds.r records.shown.put_shown.Reads.Learnt (λ κs z s. s.1.0.now)

pub record-once : RecordOnce
record-once = search met

-- ---- the card

pub record CardOnce : Type 0 where
  pub cursor-reading : ResultOnce card.Cursor.reading.Kinds.ps card.Cursor.reading.Kinds.r card.Cursor.reading.Reads.Learnt
  pub cursor-past : ResultOnce card.Cursor.past.Kinds.ps card.Cursor.past.Kinds.r card.Cursor.past.Reads.Learnt
  pub cursor-window : ResultOnce card.Cursor.window.Kinds.ps card.Cursor.window.Kinds.r card.Cursor.window.Reads.Learnt
  pub numbers-count : ResultOnce card.Numbers.count.Kinds.ps card.Numbers.count.Kinds.r card.Numbers.count.Reads.Learnt
  pub index-enter-table : SeenOnce card.index.enter.Kinds.ps card.index.enter.Kinds.r card.index.enter.Reads.Learnt (λ κs z s. s.1.1.0.now)
  pub spots-spot-by : ResultOnce card.spots.spot_by.Kinds.ps card.spots.spot_by.Kinds.r card.spots.spot_by.Reads.Learnt
  pub listing-lists : ResultOnce card.listing.lists.Kinds.ps card.listing.lists.Kinds.r card.listing.lists.Reads.Learnt
  pub pages-measure : ResultOnce card.pages.measure.Kinds.ps card.pages.measure.Kinds.r card.pages.measure.Reads.Learnt
  pub pages-measure-notes : SeenOnce card.pages.measure.Kinds.ps card.pages.measure.Kinds.r card.pages.measure.Reads.Learnt (λ κs z s. s.1.1.0.now)
  pub pages-copy-page : ResultOnce card.pages.copy_page.Kinds.ps card.pages.copy_page.Kinds.r card.pages.copy_page.Reads.Learnt
  pub pages-copy-page-memory : SeenOnce card.pages.copy_page.Kinds.ps card.pages.copy_page.Kinds.r card.pages.copy_page.Reads.Learnt (λ κs z s. s.1.1.0.now)
  pub notes-copy-noted : ResultOnce card.notes.copy_noted.Kinds.ps card.notes.copy_noted.Kinds.r card.notes.copy_noted.Reads.Learnt
  pub notes-copy-noted-memory : SeenOnce card.notes.copy_noted.Kinds.ps card.notes.copy_noted.Kinds.r card.notes.copy_noted.Reads.Learnt (λ κs z s. s.1.1.1.1.0.now)
  pub walk-head-len : ResultOnce card.walk.head_len.Kinds.ps card.walk.head_len.Kinds.r card.walk.head_len.Reads.Learnt
  pub walk-check-chain : ResultOnce card.walk.check_chain.Kinds.ps card.walk.check_chain.Kinds.r card.walk.check_chain.Reads.Learnt
  pub walk-chain-to : ResultOnce card.walk.chain_to.Kinds.ps card.walk.chain_to.Kinds.r card.walk.chain_to.Reads.Learnt
  pub walk-find : ResultOnce card.walk.find.Kinds.ps card.walk.find.Kinds.r card.walk.find.Reads.Learnt

pub card-once : CardOnce
card-once = search met

-- ---- one weave

pub record WeaveOnce : Type 0 where
  pub args-record-fine : ResultOnce weave.args.record_fine.Kinds.ps weave.args.record_fine.Kinds.r weave.args.record_fine.Reads.Learnt
  pub args-closeargs-handle : ResultOnce weave.args.CloseArgs.handle.Kinds.ps weave.args.CloseArgs.handle.Kinds.r weave.args.CloseArgs.handle.Reads.Learnt
  pub args-bytes-at : SeenOnce weave.args.bytes_at.Kinds.ps weave.args.bytes_at.Kinds.r weave.args.bytes_at.Reads.Learnt (λ κs z s. z.now)
  pub args-topic-fine : ResultOnce weave.args.topic_fine.Kinds.ps weave.args.topic_fine.Kinds.r weave.args.topic_fine.Reads.Learnt
  pub args-filter-fine : ResultOnce weave.args.filter_fine.Kinds.ps weave.args.filter_fine.Kinds.r weave.args.filter_fine.Reads.Learnt
  pub args-out-fine : ResultOnce weave.args.out_fine.Kinds.ps weave.args.out_fine.Kinds.r weave.args.out_fine.Reads.Learnt
  pub args-writeargs-data-fine : ResultOnce weave.args.WriteArgs.data_fine.Kinds.ps weave.args.WriteArgs.data_fine.Kinds.r weave.args.WriteArgs.data_fine.Reads.Learnt
  pub args-writeargs-len-fine : ResultOnce weave.args.WriteArgs.len_fine.Kinds.ps weave.args.WriteArgs.len_fine.Kinds.r weave.args.WriteArgs.len_fine.Reads.Learnt
  pub args-filter-bytes : ResultOnce weave.args.filter_bytes.Kinds.ps weave.args.filter_bytes.Kinds.r weave.args.filter_bytes.Reads.Learnt
  pub charges-write-charge : ResultOnce weave.charges.write_charge.Kinds.ps weave.charges.write_charge.Kinds.r weave.charges.write_charge.Reads.Learnt
  pub weave-lent-fine : ResultOnce weave.Weave.lent_fine.Kinds.ps weave.Weave.lent_fine.Kinds.r weave.Weave.lent_fine.Reads.Learnt
  pub weave-running-check : ResultOnce weave.Weave.running_check.Kinds.ps weave.Weave.running_check.Kinds.r weave.Weave.running_check.Reads.Learnt
  pub weave-handle-fine : ResultOnce weave.Weave.handle_fine.Kinds.ps weave.Weave.handle_fine.Kinds.r weave.Weave.handle_fine.Reads.Learnt
  pub weave-slot-fine : ResultOnce weave.Weave.slot_fine.Kinds.ps weave.Weave.slot_fine.Kinds.r weave.Weave.slot_fine.Reads.Learnt
  pub weave-budget-check : ResultOnce weave.Weave.budget_check.Kinds.ps weave.Weave.budget_check.Kinds.r weave.Weave.budget_check.Reads.Learnt
  pub code-number : ResultOnce weave.Code.number.Kinds.ps weave.Code.number.Kinds.r weave.Code.number.Reads.Learnt
  pub code-fine : ResultOnce weave.Code.fine.Kinds.ps weave.Code.fine.Kinds.r weave.Code.fine.Reads.Learnt
  pub code-budget : ResultOnce weave.Code.budget.Kinds.ps weave.Code.budget.Kinds.r weave.Code.budget.Reads.Learnt
  pub code-bad : ResultOnce weave.Code.bad.Kinds.ps weave.Code.bad.Kinds.r weave.Code.bad.Reads.Learnt
  pub code-then : ResultOnce weave.Code.then.Kinds.ps weave.Code.then.Kinds.r weave.Code.then.Reads.Learnt
  pub code-reason : ResultOnce weave.Code.reason.Kinds.ps weave.Code.reason.Kinds.r weave.Code.reason.Reads.Learnt
  pub codes-need : ResultOnce weave.codes.need.Kinds.ps weave.codes.need.Kinds.r weave.codes.need.Reads.Learnt
  pub code-plain : ResultOnce weave.Code.plain.Kinds.ps weave.Code.plain.Kinds.r weave.Code.plain.Reads.Learnt
  pub code-naming : ResultOnce weave.Code.naming.Kinds.ps weave.Code.naming.Kinds.r weave.Code.naming.Reads.Learnt
  pub findings-need-at : ResultOnce weave.findings.need_at.Kinds.ps weave.findings.need_at.Kinds.r weave.findings.need_at.Reads.Learnt
  pub finding-fine : ResultOnce weave.Finding.fine.Kinds.ps weave.Finding.fine.Kinds.r weave.Finding.fine.Reads.Learnt
  pub finding-then : ResultOnce weave.Finding.then.Kinds.ps weave.Finding.then.Kinds.r weave.Finding.then.Reads.Learnt
  pub mark_code : ResultOnce weave.Mark.code.Kinds.ps weave.Mark.code.Kinds.r weave.Mark.code.Reads.Learnt
  pub weave-fresh : ResultOnce weave.Weave.fresh.Kinds.ps weave.Weave.fresh.Kinds.r weave.Weave.fresh.Reads.Learnt
  pub weave-begun : ResultOnce weave.Weave.begun.Kinds.ps weave.Weave.begun.Kinds.r weave.Weave.begun.Reads.Learnt
  pub weave-paid : ResultOnce weave.Weave.paid.Kinds.ps weave.Weave.paid.Kinds.r weave.Weave.paid.Reads.Learnt
  pub weave-holding : ResultOnce weave.Weave.holding.Kinds.ps weave.Weave.holding.Kinds.r weave.Weave.holding.Reads.Learnt
  pub weave-tabled : ResultOnce weave.Weave.tabled.Kinds.ps weave.Weave.tabled.Kinds.r weave.Weave.tabled.Reads.Learnt
  pub weave-spoilt : ResultOnce weave.Weave.spoilt.Kinds.ps weave.Weave.spoilt.Kinds.r weave.Weave.spoilt.Reads.Learnt
  pub weave-turned : ResultOnce weave.Weave.turned.Kinds.ps weave.Weave.turned.Kinds.r weave.Weave.turned.Reads.Learnt
  pub sums-within : ResultOnce weave.sums.within.Kinds.ps weave.sums.within.Kinds.r weave.sums.within.Reads.Learnt
  pub sums-added : ResultOnce weave.sums.added.Kinds.ps weave.sums.added.Kinds.r weave.sums.added.Reads.Learnt
  pub sums-record-eighths : ResultOnce weave.sums.record_eighths.Kinds.ps weave.sums.record_eighths.Kinds.r weave.sums.record_eighths.Reads.Learnt
  pub sums-record-fits : ResultOnce weave.sums.record_fits.Kinds.ps weave.sums.record_fits.Kinds.r weave.sums.record_fits.Reads.Learnt
  pub sums-staged-with : ResultOnce weave.sums.staged_with.Kinds.ps weave.sums.staged_with.Kinds.r weave.sums.staged_with.Reads.Learnt
  pub slot-free : ResultOnce weave.Slot.free.Kinds.ps weave.Slot.free.Kinds.r weave.Slot.free.Reads.Learnt
  pub slot-none : ResultOnce weave.Slot.none.Kinds.ps weave.Slot.none.Kinds.r weave.Slot.none.Reads.Learnt
  pub table-find-slot : ResultOnce weave.table.find_slot.Kinds.ps weave.table.find_slot.Kinds.r weave.table.find_slot.Reads.Learnt
  pub table-slot-at : ResultOnce weave.table.slot_at.Kinds.ps weave.table.slot_at.Kinds.r weave.table.slot_at.Reads.Learnt
  pub table-put-slot : ResultOnce weave.table.put_slot.Kinds.ps weave.table.put_slot.Kinds.r weave.table.put_slot.Reads.Learnt
  pub args-writeargs-read : ResultOnce weave.args.WriteArgs.read.Kinds.ps weave.args.WriteArgs.read.Kinds.r weave.args.WriteArgs.read.Reads.Learnt
  pub args-readargs-read : ResultOnce weave.args.ReadArgs.read.Kinds.ps weave.args.ReadArgs.read.Kinds.r weave.args.ReadArgs.read.Reads.Learnt
  pub args-openargs-read : ResultOnce weave.args.OpenArgs.read.Kinds.ps weave.args.OpenArgs.read.Kinds.r weave.args.OpenArgs.read.Reads.Learnt
  pub args-nextargs-read : ResultOnce weave.args.NextArgs.read.Kinds.ps weave.args.NextArgs.read.Kinds.r weave.args.NextArgs.read.Reads.Learnt
  pub weave-cursor-of : ResultOnce weave.Weave.cursor_of.Kinds.ps weave.Weave.cursor_of.Kinds.r weave.Weave.cursor_of.Reads.Learnt
  pub weave-opened-with : ResultOnce weave.Weave.opened_with.Kinds.ps weave.Weave.opened_with.Kinds.r weave.Weave.opened_with.Reads.Learnt
  pub weave-moved-to : ResultOnce weave.Weave.moved_to.Kinds.ps weave.Weave.moved_to.Kinds.r weave.Weave.moved_to.Reads.Learnt
  pub weave-closed-at : ResultOnce weave.Weave.closed_at.Kinds.ps weave.Weave.closed_at.Kinds.r weave.Weave.closed_at.Reads.Learnt

pub weave-once : WeaveOnce
weave-once = search met

-- ---- takes on their way

pub record TakesOnce : Type 0 where
  pub begun-begun : ResultOnce takes.begun.begun.Kinds.ps takes.begun.begun.Kinds.r takes.begun.begun.Reads.Learnt
  pub buffers-clear-if-s : SeenOnce takes.buffers.clear_if.Kinds.ps takes.buffers.clear_if.Kinds.r takes.buffers.clear_if.Reads.Learnt (λ κs z s. s.1.0.now)
  pub opening-opening : ResultOnce takes.opening.opening.Kinds.ps takes.opening.opening.Kinds.r takes.opening.opening.Reads.Learnt
  pub page-page-check : ResultOnce takes.page.page_check.Kinds.ps takes.page.page_check.Kinds.r takes.page.page_check.Reads.Learnt
  pub page-page-bytes : ResultOnce takes.page.page_bytes.Kinds.ps takes.page.page_bytes.Kinds.r takes.page.page_bytes.Reads.Learnt
  pub page-find-page : ResultOnce takes.page.find_page.Kinds.ps takes.page.find_page.Kinds.r takes.page.find_page.Reads.Learnt
  pub page-find-page-notes : SeenOnce takes.page.find_page.Kinds.ps takes.page.find_page.Kinds.r takes.page.find_page.Reads.Learnt (λ κs z s. s.1.1.1.0.now)
  pub page-hand-over : ResultOnce takes.page.hand_over.Kinds.ps takes.page.hand_over.Kinds.r takes.page.hand_over.Reads.Learnt
  pub page-hand-over-memory : SeenOnce takes.page.hand_over.Kinds.ps takes.page.hand_over.Kinds.r takes.page.hand_over.Reads.Learnt (λ κs z s. s.1.1.1.1.1.0.now)
  pub page-kept-topic : ResultOnce takes.page.kept_topic.Kinds.ps takes.page.kept_topic.Kinds.r takes.page.kept_topic.Reads.Learnt
  pub stage-fault-code : ResultOnce takes.stage.fault_code.Kinds.ps takes.stage.fault_code.Kinds.r takes.stage.fault_code.Reads.Learnt
  pub stage-payload-checked : ResultOnce takes.stage.payload_checked.Kinds.ps takes.stage.payload_checked.Kinds.r takes.stage.payload_checked.Reads.Learnt
  pub stage-stage-staging : SeenOnce takes.stage.stage.Kinds.ps takes.stage.stage.Kinds.r takes.stage.stage.Reads.Learnt (λ κs z s. s.1.0.now)
  pub stage-stage-written-staging : SeenOnce takes.stage.stage_written.Kinds.ps takes.stage.stage_written.Kinds.r takes.stage.stage_written.Reads.Learnt (λ κs z s. s.1.0.now)

pub takes-once : TakesOnce
takes-once = search met

-- ---- the operations

pub record HostOnce : Type 0 where
  pub begin : ResultOnce host.Host.begin.Kinds.ps host.Host.begin.Kinds.r host.Host.begin.Reads.Learnt
  pub begin-staging : SeenOnce host.Host.begin.Kinds.ps host.Host.begin.Kinds.r host.Host.begin.Reads.Learnt (λ κs z s. s.1.0.now)
  pub «open» : ResultOnce host.Host.open.Kinds.ps host.Host.open.Kinds.r host.Host.open.Reads.Learnt
  pub close : ResultOnce host.Host.close.Kinds.ps host.Host.close.Kinds.r host.Host.close.Reads.Learnt
  pub fresh : ResultOnce host.Host.fresh.Kinds.ps host.Host.fresh.Kinds.r host.Host.fresh.Reads.Learnt
  pub none : ResultOnce host.Host.none.Kinds.ps host.Host.none.Kinds.r host.Host.none.Reads.Learnt
  pub lengths-of : ResultOnce host.state.lengths_of.Kinds.ps host.state.lengths_of.Kinds.r host.state.lengths_of.Reads.Learnt
  pub with-weave : ResultOnce host.Host.with_weave.Kinds.ps host.Host.with_weave.Kinds.r host.Host.with_weave.Reads.Learnt
  pub enter : ResultOnce host.Host.enter.Kinds.ps host.Host.enter.Kinds.r host.Host.enter.Reads.Learnt
  pub card-count : ResultOnce host.Host.card_count.Kinds.ps host.Host.card_count.Kinds.r host.Host.card_count.Reads.Learnt
  pub index-fine : ResultOnce host.Host.index_fine.Kinds.ps host.Host.index_fine.Kinds.r host.Host.index_fine.Reads.Learnt
  pub enter-indexed : ResultOnce host.Host.enter_indexed.Kinds.ps host.Host.enter_indexed.Kinds.r host.Host.enter_indexed.Reads.Learnt
  pub admit : ResultOnce host.Host.admit.Kinds.ps host.Host.admit.Kinds.r host.Host.admit.Reads.Learnt
  pub gate : ResultOnce host.Entry.gate.Kinds.ps host.Entry.gate.Kinds.r host.Entry.gate.Reads.Learnt
  pub settle : ResultOnce host.Host.settle.Kinds.ps host.Host.settle.Kinds.r host.Host.settle.Reads.Learnt
  pub fate-number : ResultOnce host.Fate.number.Kinds.ps host.Fate.number.Kinds.r host.Fate.number.Reads.Learnt
  pub fate-events : ResultOnce host.Fate.events.Kinds.ps host.Fate.events.Kinds.r host.Fate.events.Reads.Learnt
  pub fate-bytes : ResultOnce host.Fate.bytes.Kinds.ps host.Fate.bytes.Kinds.r host.Fate.bytes.Reads.Learnt
  pub fate-ends : ResultOnce host.Fate.ends.Kinds.ps host.Fate.ends.Kinds.r host.Fate.ends.Reads.Learnt

pub host-once : HostOnce
host-once = search met

-- ---- .. that end a turn

pub record ReturnOnce : Type 0 where
  pub module-return : ResultOnce host.Host.module_return.Kinds.ps host.Host.module_return.Kinds.r host.Host.module_return.Reads.Learnt
  pub module-return-card : SeenOnce host.Host.module_return.Kinds.ps host.Host.module_return.Kinds.r host.Host.module_return.Reads.Learnt (λ κs z s. s.1.1.0.now)
  pub module-return-staging : SeenOnce host.Host.module_return.Kinds.ps host.Host.module_return.Kinds.r host.Host.module_return.Reads.Learnt (λ κs z s. s.1.0.now)
  pub module-return-index : SeenOnce host.Host.module_return.Kinds.ps host.Host.module_return.Kinds.r host.Host.module_return.Reads.Learnt (λ κs z s. s.1.1.1.1.0.now)

pub return-once : ReturnOnce
return-once = search met

-- ---- mount and look-up

pub record MountsOnce : Type 0 where
  pub mount : ResultOnce mounts.mount.mount.Kinds.ps mounts.mount.mount.Kinds.r mounts.mount.mount.Reads.Learnt
  pub mount-index : SeenOnce mounts.mount.mount.Kinds.ps mounts.mount.mount.Kinds.r mounts.mount.mount.Reads.Learnt (λ κs z s. s.1.1.1.0.now)
  pub place-of : ResultOnce mounts.look.place_of.Kinds.ps mounts.look.place_of.Kinds.r mounts.look.place_of.Reads.Learnt
  pub look_up : SeenOnce mounts.look.look_up.Kinds.ps mounts.look.look_up.Kinds.r mounts.look.look_up.Reads.Learnt (λ κs z s. z.now)

pub mounts-once : MountsOnce
mounts-once = search met

-- ---- .. that stage events, and that hand them over

pub record EventOnce : Type 0 where
  pub next : ResultOnce reads.next.next.Kinds.ps reads.next.next.Kinds.r reads.next.next.Reads.Learnt
  pub next-memory : SeenOnce reads.next.next.Kinds.ps reads.next.next.Kinds.r reads.next.next.Reads.Learnt (λ κs z s. s.1.0.now)
  pub read : ResultOnce reads.read.read.Kinds.ps reads.read.read.Kinds.r reads.read.read.Reads.Learnt
  pub read-memory : SeenOnce reads.read.read.Kinds.ps reads.read.read.Kinds.r reads.read.read.Reads.Learnt (λ κs z s. s.1.0.now)
  pub ingress : ResultOnce writes.stage.ingress.Kinds.ps writes.stage.ingress.Kinds.r writes.stage.ingress.Reads.Learnt
  pub ingress-staging : SeenOnce writes.stage.ingress.Kinds.ps writes.stage.ingress.Kinds.r writes.stage.ingress.Reads.Learnt (λ κs z s. s.1.0.now)
  pub write : ResultOnce writes.write.write.Kinds.ps writes.write.write.Kinds.r writes.write.write.Reads.Learnt
  pub write-staging : SeenOnce writes.write.write.Kinds.ps writes.write.write.Kinds.r writes.write.write.Reads.Learnt (λ κs z s. s.1.1.0.now)

pub event-once : EventOnce
event-once = search met
