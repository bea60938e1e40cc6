-- The laws of `granted`, for callers.
-- Assumes nothing.
use mathlib.Core.Path.{◌≡◌, refl, sym, subst}
use mathlib.Core.Logic.{◌⊎◌, inl, inr}
use mathlib.Core.Bool.{Bool, true, false, ◌&&◌, ◌||◌, beq, true≢false, or-true}
use mathlib.Core.List.Memᴰ
use mathlib.Core.List.{List, [], ◌∷◌, Memᴰ}
use Prim.Native.Nat.{ℕ}
use borrow.Author.Tests.{eqb-true, eq-eqb}
use lib.Dec.{eqb}
use Rattle.text.specs.Compare.{same_bytes}
use Rattle.text.specs.Words.{log_topic, panic_topic, core_topic}
use Rattle.le.proofs.TestLaws.{and_left, and_right}
use Rattle.text.proofs.CompareLaws.{same_true, same_refl}
use Rattle.manifest.specs.Rights.{Right, gives, any_gives, granted}

beq-true : (a b : Bool) → beq a b ≡ true → a ≡ b
beq-true true true e = refl
beq-true true false e = sym e
beq-true false true e = e
beq-true false false e = refl

beq-refl : (a : Bool) → beq a a ≡ true
beq-refl true = refl
beq-refl false = refl

-- the grant that a question asks for
abbrev pub asked : ℕ → Bool → List ℕ → Right
asked k out topic = record { holder = k; out = out; topic = topic }

-- a grant gives just what it names: not another topic that begins with its own, nor one that its own begins with
pub gives-exact : (g : Right) (k : ℕ) (out : Bool) (topic : List ℕ) → gives g k out topic ≡ true → asked k out topic ≡ g
unfolding gives
gives-exact g k out topic e =
    let ek = eqb-true g.holder k (and_left (eqb g.holder k) _ e) in
    let e' = and_right (eqb g.holder k) _ e in
    let eo = beq-true g.out out (and_left (beq g.out out) _ e') in
    let et = same_true g.topic topic (and_right (beq g.out out) _ e') in
    rw (← ek, ← eo, ← et)

gives-asked : (k : ℕ) (out : Bool) (topic : List ℕ) → gives (asked k out topic) k out topic ≡ true
unfolding gives
gives-asked k out topic = rw (eq-eqb k k refl, beq-refl out, same_refl topic)

-- some grant gives it: just where it is among the grants
pub any-among : (gs : List Right) (k : ℕ) (out : Bool) (topic : List ℕ) → any_gives gs k out topic ≡ true → Memᴰ (asked k out topic) gs
unfolding any_gives
any-among [] k out topic e = absurd (true≢false (sym e))
any-among (g ∷ gs) k out topic e = go (gives g k out topic) refl e (λ r. any-among gs k out topic r)
  where
    go : (b : Bool) → gives g k out topic ≡ b → (b || any_gives gs k out topic) ≡ true
        → (any_gives gs k out topic ≡ true → Memᴰ (asked k out topic) gs) → Memᴰ (asked k out topic) (g ∷ gs)
    go true q r ih = Memᴰ.head (gives-exact g k out topic q)
    go false q r ih = Memᴰ.tail (ih r)

among-any : (gs : List Right) (k : ℕ) (out : Bool) (topic : List ℕ) → Memᴰ (asked k out topic) gs → any_gives gs k out topic ≡ true
unfolding any_gives
among-any [] k out topic m = absurd (Memᴰ.not-nil m)
among-any (g ∷ gs) k out topic m = go (Memᴰ.cases_cons m) (λ r. among-any gs k out topic r)
  where
    go : (asked k out topic ≡ g) ⊎ Memᴰ (asked k out topic) gs → (Memᴰ (asked k out topic) gs → any_gives gs k out topic ≡ true)
        → (gives g k out topic || any_gives gs k out topic) ≡ true
    go (inl e) ih = rw (← e, gives-asked k out topic)
    go (inr r) ih = rw (ih r) (or-true (gives g k out topic))

-- ---- the question that the host asks

-- every module has `out` on the two core topics
pub log-granted : (gs : List Right) (k : ℕ) → granted gs k true log_topic ≡ true
unfolding granted core_topic
log-granted gs k = rw (same_refl log_topic)

pub panic-granted : (gs : List Right) (k : ℕ) → granted gs k true panic_topic ≡ true
unfolding granted core_topic
panic-granted gs k = rw (same_refl panic_topic, or-true (same_bytes panic_topic log_topic))

-- what is granted is a core topic `out`, or is among the grants
pub granted-why : (gs : List Right) (k : ℕ) (out : Bool) (topic : List ℕ) → granted gs k out topic ≡ true
    → ((out ≡ true) × (core_topic topic ≡ true)) ⊎ Memᴰ (asked k out topic) gs
unfolding granted
granted-why gs k true topic e = go (core_topic topic) refl e
  where
    go : (b : Bool) → core_topic topic ≡ b → (b || any_gives gs k true topic) ≡ true
        → ((true ≡ true) × (core_topic topic ≡ true)) ⊎ Memᴰ (asked k true topic) gs
    go true q r = inl (refl, q)
    go false q r = inr (any-among gs k true topic r)
granted-why gs k false topic e = inr (any-among gs k false topic e)

pub granted-among : (gs : List Right) (k : ℕ) (out : Bool) (topic : List ℕ) → Memᴰ (asked k out topic) gs → granted gs k out topic ≡ true
unfolding granted
granted-among gs k out topic m = rw (among-any gs k out topic m) (or-true (out && core_topic topic))

-- `in` is by the grants alone
pub granted-in : (gs : List Right) (k : ℕ) (topic : List ℕ) → granted gs k false topic ≡ any_gives gs k false topic
unfolding granted
granted-in gs k topic = refl

-- 01: "Repeated grants do nothing."
pub repeated : (g : Right) (gs : List Right) (k : ℕ) (out : Bool) (topic : List ℕ) → Memᴰ g gs
    → granted (g ∷ gs) k out topic ≡ granted gs k out topic
unfolding granted any_gives
repeated g gs k out topic m = go (gives g k out topic) refl
  where
    go : (b : Bool) → gives g k out topic ≡ b
        → ((out && core_topic topic) || (b || any_gives gs k out topic)) ≡ ((out && core_topic topic) || any_gives gs k out topic)
    go true q = rw (among-any gs k out topic (subst (λ (x : Right). Memᴰ x gs) (sym (gives-exact g k out topic q)) m))
    go false q = refl
