-- What the checks of fields test, in numbers: which spans are inside, and what has to be a multiple of 8.
-- Assumes nothing.
use mathlib.Core.Path.{◌≡◌, refl, sym, ◌∙◌}
use mathlib.Core.Bool.{Bool, true, false, not, ◌&&◌, ◌||◌, true≢false}
use mathlib.Core.List.{List}
use mathlib.Core.Logic.{◌↔◌, ◌⊎◌, inl, inr}
use Prim.Native.Nat.{ℕ, ◌-◌, ◌%◌}
use native.Mathlib.Omega.{arith}
use borrow.Author.Tests.{le-leb, eqb-true, eq-eqb}
use lib.Dec.{leb, eqb}
use lib.ListN.{length}
use Rattle.le.proofs.TestLaws.{and_left, and_right, and_both}
use Rattle.text.specs.Topic.{good_topic, good_filter}
use Rattle.text.specs.Span.{inside}
use Rattle.text.specs.Flags.{is_value}
use Rattle.text.proofs.SpanLaws.{inside-end}
use Rattle.value.specs.declared.Span.{Span}
use Rattle.weave.specs.declared.args.WriteArgs.{WriteArgs}
use Rattle.weave.specs.Args.{record_fine, bytes_at, topic_fine, filter_fine, out_fine, data_fine, len_fine}
use Rattle.promises.specs.Fields.{Inside, Aligned, Payload}
use Rattle.promises.proofs.AcceptedLaws.{or_right, or-if}

-- ---- one test

either : (a b : ℕ) → eqb a 0 || not (eqb b 0) ≡ true → (a ≡ 0) ⊎ (b ≡ 0 → ⊥)
either a b e = go (eqb a 0) refl (eqb b 0) refl e
  where
    go : (s : Bool) → eqb a 0 ≡ s → (t : Bool) → eqb b 0 ≡ t → s || not t ≡ true → (a ≡ 0) ⊎ (b ≡ 0 → ⊥)
    go true p t q e = inl (eqb-true a 0 p)
    go false p true q e = absurd (true≢false (sym e))
    go false p false q e = inr (λ z. true≢false (sym (eq-eqb b 0 z) ∙ q))

either-back : (a b : ℕ) → (a ≡ 0) ⊎ (b ≡ 0 → ⊥) → eqb a 0 || not (eqb b 0) ≡ true
either-back a b (inl z) = rw (eq-eqb a 0 z)
either-back a b (inr n) = go (eqb a 0) (eqb b 0) refl
  where
    go : (s t : Bool) → eqb b 0 ≡ t → s || not t ≡ true
    go true t q = refl
    go false true q = absurd (n (eqb-true b 0 q))
    go false false q = refl

pub inside-exactly : (ptr len size : ℕ) → (inside ptr len size ≡ true) ↔ Inside ptr len size
unfolding inside
inside-exactly ptr len size = (
  λ e. record { ends = inside-end ptr len size e; placed = either len ptr (and_right (leb len (size - ptr)) _ (and_right (leb ptr size) _ e)) },
  λ i.
      and_both (leb ptr size) _ (le-leb ptr size (omega (arith, i.ends)))
      (and_both (leb len (size - ptr)) _ (le-leb len (size - ptr) (omega (arith, i.ends))) (either-back len ptr i.placed)),
)

aligned-exactly : (ptr len size : ℕ) → (eqb (ptr % 8) 0 && inside ptr len size ≡ true) ↔ Aligned ptr len size
aligned-exactly ptr len size = (
  λ e. record { eighth = eqb-true (ptr % 8) 0 (and_left (eqb (ptr % 8) 0) _ e); inside = (inside-exactly ptr len size).0 (and_right (eqb (ptr % 8) 0) _ e) },
  λ a. and_both (eqb (ptr % 8) 0) _ (eq-eqb (ptr % 8) 0 a.eighth) ((inside-exactly ptr len size).1 a.inside),
)

-- ---- each check

pub record-exactly : (m : List ℕ) (a n : ℕ) → (record_fine m a n ≡ true) ↔ Aligned a n (length m)
unfolding record_fine
record-exactly m a n = aligned-exactly a n (length m)

pub out-exactly : (m : List ℕ) (s : Span) → (out_fine m s ≡ true) ↔ Aligned s.ptr s.len (length m)
unfolding out_fine
out-exactly m s = aligned-exactly s.ptr s.len (length m)

module _ (m : List ℕ) (s : Span) where
  with-text : (t : Bool) → (inside s.ptr s.len (length m) && t ≡ true) ↔ (Inside s.ptr s.len (length m) × (t ≡ true))
  with-text t = (
    λ e. ((inside-exactly _ _ _).0 (and_left (inside s.ptr s.len (length m)) t e), and_right (inside s.ptr s.len (length m)) t e),
    λ i. and_both (inside s.ptr s.len (length m)) t ((inside-exactly _ _ _).1 i.0) i.1,
  )

  pub topic-exactly : (topic_fine m s ≡ true) ↔ (Inside s.ptr s.len (length m) × (good_topic (bytes_at m s) ≡ true))
  unfolding topic_fine
  topic-exactly = with-text (good_topic (bytes_at m s))

  pub filter-exactly : (filter_fine m s ≡ true) ↔ (Inside s.ptr s.len (length m) × (good_filter (bytes_at m s) ≡ true))
  unfolding filter_fine
  filter-exactly = with-text (good_filter (bytes_at m s))

pub data-exactly : (m : List ℕ) (w : WriteArgs) → (data_fine m w ≡ true) ↔ Payload (is_value w.flags) w.place w.len (length m)
unfolding data_fine
data-exactly m w = (
  λ e. record {
    eighth = λ v. eqb-true (w.place % 8) 0 (or_right (is_value w.flags) _ (and_left (not (is_value w.flags) || eqb (w.place % 8) 0) _ e) v);
    inside = (inside-exactly _ _ _).0 (and_right (not (is_value w.flags) || eqb (w.place % 8) 0) _ e);
  },
  λ p.
      and_both (not (is_value w.flags) || eqb (w.place % 8) 0) _ (or-if (is_value w.flags) _ (λ v. eq-eqb (w.place % 8) 0 (p.eighth v)))
      ((inside-exactly _ _ _).1 p.inside),
)

pub len-exactly : (w : WriteArgs) → (len_fine w ≡ true) ↔ (is_value w.flags ≡ true → w.len ≡ 32)
unfolding len_fine
len-exactly w = (λ e v. eqb-true w.len 32 (or_right (is_value w.flags) _ e v), λ f. or-if (is_value w.flags) _ (λ v. eq-eqb w.len 32 (f v)))
