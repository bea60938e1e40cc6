-- How boxes that are alike come about: their cards are mounted, or a run of events that are not granted is exchanged. And what "agree" means by numbers.
-- Assumes nothing.
use mathlib.Core.Path.{◌≡◌, refl, sym, ap, ◌∙◌}
use mathlib.Core.Bool.{true}
use mathlib.Core.List.{List, ◌++◌, Memᴰ}
use mathlib.Core.Logic.{inl, inr, ⊎_elim, ◌↔◌}
use Prim.Native.Nat.{ℕ, ◌+◌}
use native.Mathlib.Omega.{arith}
use lib.ListN.{length, take, length-append}
use lib.Seq.{take_at}
use Rattle.manifest.specs.Saying.{charge_of, may_read}
use Rattle.record.specs.Record.{topic_of}
use Rattle.card.specs.Records.{records}
use Rattle.card.proofs.WalkLaws.{to-count}
use Rattle.card.proofs.AgreeLaws.{joined-sound, stays-among, same_place, place_same}
use Rattle.weave.specs.declared.Code.TheVariants.{Fine}
use Rattle.host.specs.declared.Host.{Host}
use Rattle.host.specs.Hosts.{Lent, lent_as, lengths_of}
use Rattle.mounts.specs.Mount.{mounted, mount_index}
use Rattle.card.specs.Index.{entered}
use Rattle.le.proofs.SpliceLaws.{length-splice}
use Rattle.promises.specs.Box.{World, records_on, Indexed, Op, mounted_as}
use Rattle.promises.specs.TwoBands.{Beside, CardsAlike}
use Rattle.promises.specs.SideBySide.{AllKeepTo, Together, Exchanged, AgreeByNumber}
use Rattle.promises.proofs.MountHolds.{mounts}
use Rattle.promises.proofs.IndexHolds.{mount-kept}
use Rattle.promises.proofs.TwoBandsHold.{side_by_side}

-- ---- mount

module _ (staging text card₁ card₂ table₁ table₂ : List ℕ) (used : ℕ) (long : length card₁ ≡ length card₂) (entries : length table₁ ≡ length table₂)
    (fine₁ : (mounted (lent_as staging card₁ text) table₁ used).code ≡ Fine) (fine₂ : (mounted (lent_as staging card₂ text) table₂ used).code ≡ Fine)
    (many : length (records_on card₁ used) ≡ length (records_on card₂ used)) where
  abbrev l₁ : Lent
  l₁ = lent_as staging card₁ text

  abbrev l₂ : Lent
  l₂ = lent_as staging card₂ text

  pub mounts-beside : Beside (mounted_as l₁ table₁ used) (mounted_as l₂ table₂ used)
  unfolding lengths_of mount_index entered
  mounts-beside =
      let s₁ = (mounts l₁ table₁ used).fresh fine₁ in
      let s₂ = (mounts l₂ table₂ used).fresh fine₂ in
      let lengths : lengths_of l₁ ≡ lengths_of l₂ = rw long in
      record {
        text = refl;
        staging = refl;
        card-length = long;
        index-length = length-splice table₁ 0 _ ∙ entries ∙ sym (length-splice table₂ 0 _);
        charge = refl;
        state = λ i.
            record {
              lengths = (s₁.lengths ∙ lengths ∙ sym s₂.lengths) i;
              index = (s₁.index ∙ entries ∙ sym s₂.index) i;
              used = (s₁.used ∙ sym s₂.used) i;
              next = record { 0 = (s₁.next ∙ ap (λ (n : ℕ). 1 + n) many ∙ sym s₂.next) i };
              faulted = (s₁.healthy ∙ sym s₂.healthy) i;
              weave = (s₁.weave ∙ sym s₂.weave) i;
            };
      }

  pub mounts-alike : (k : ℕ) → ((r : List ℕ) → may_read text k (topic_of r) ≡ true → Memᴰ r (records_on card₁ used) ↔ Memᴰ r (records_on card₂ used))
      → CardsAlike k (mounted_as l₁ table₁ used) (mounted_as l₂ table₂ used)
  mounts-alike k agree = record {
    sound₁ = (mount-kept (charge_of text) l₁ table₁ used fine₁).indexed;
    sound₂ = (mount-kept (charge_of text) l₂ table₂ used fine₂).indexed;
    agree = rw (((mounts l₁ table₁ used).fresh fine₁).used, ((mounts l₂ table₂ used).fresh fine₂).used) agree;
  }

  -- THE PROMISE: from there on they lead the same life
  pub lives-alike : (listeners : ℕ → Type 0)
      → ((k : ℕ) → listeners k → (r : List ℕ) → may_read text k (topic_of r) ≡ true → Memᴰ r (records_on card₁ used) ↔ Memᴰ r (records_on card₂ used))
      → (os : List Op) → AllKeepTo listeners (mounted_as l₁ table₁ used) os → Together listeners (mounted_as l₁ table₁ used) (mounted_as l₂ table₂ used) os
  lives-alike listeners agree os keep = side_by_side listeners os (mounted_as l₁ table₁ used) (mounted_as l₂ table₂ used) mounts-beside (λ k s. mounts-alike k (agree k s)) keep

-- ---- "The other events differ at will"

-- THE PROMISE: the boxes agree for that module
pub exchanged-alike : (k : ℕ) (w₁ w₂ : World) → Exchanged k w₁ w₂ → CardsAlike k w₁ w₂
exchanged-alike k w₁ w₂ x =
    let may = may_read w₁.lent.text k in
    let last = w₁.host.next.0 in
    let long : length (x.front ++ (x.is ++ x.back)) ≡ w₁.host.used =
    rw (x.used, length-append x.front (x.is ++ x.back), length-append x.is x.back, length-append x.front (x.was ++ x.back), length-append x.was x.back, x.long) in
    let part₁ : take w₁.host.used w₁.lent.card ≡ x.front ++ (x.was ++ x.back) = rw x.card₁ (take_at (x.front ++ (x.was ++ x.back)) x.rest w₁.host.used (sym x.used)) in
    let part₂ : take w₁.host.used w₂.lent.card ≡ x.front ++ (x.is ++ x.back) = rw x.card₂ (take_at (x.front ++ (x.is ++ x.back)) x.rest w₁.host.used long) in
    let among = stays-among may _ x.first x.next last x.front x.back x.front-sound x.back-sound in
    let whole = joined-sound may _ x.first x.next last x.front x.back x.front-sound x.back-sound in
    record {
      sound₁ = record { small = x.small; sound = rw part₁ (whole x.was x.was-sound); fits = x.fits₁ };
      sound₂ = record { small = omega (arith, x.small, x.beside.card-length); sound = rw (← x.beside.state, part₂) (whole x.is x.is-sound); fits = x.fits₂ };
      agree = λ r y.
          rw (← x.beside.state, part₁, part₂)
          (among x.was x.is x.was-sound x.is-sound x.was-hidden r y, among x.is x.was x.is-sound x.was-sound x.is_hidden r y);
    }

-- ---- by numbers

-- THE PROMISE: both readings of "agree" are one
pub agree-by-number : (k : ℕ) (w₁ w₂ : World) → Beside w₁ w₂ → Indexed w₁ → Indexed w₂
    → CardsAlike k w₁ w₂ ↔ AgreeByNumber k w₁ w₂
agree-by-number k w₁ w₂ b c₁ c₂ =
    let may = may_read w₁.lent.text k in
    let s = take w₁.host.used w₁.lent.card in
    let t = take w₂.host.used w₂.lent.card in
    let many : length (records s 1) ≡ length (records t 1) =
    omega (arith, to-count s 1 w₁.host.next.0 c₁.sound, to-count t 1 w₂.host.next.0 c₂.sound, ap (λ (h : Host). h.next.0) b.state) in (
      λ c i.
          ⊎_elim (λ y. same_place may 1 s t many (λ r z. (c.agree r z).0) i y) (λ y. sym (same_place may 1 t s (sym many) (λ r z. (c.agree r z).1) i y)),
      λ f.
          record {
            sound₁ = c₁;
            sound₂ = c₂;
            agree = λ r y. (place_same may 1 s t many (λ i z. f i (inl z)) r y, place_same may 1 t s (sym many) (λ i z. sym (f i (inr z))) r y);
          },
    )
