-- Lists of checks: what the first that fails has, its code and its field, and what checks one behind the other come to.
-- Assumes nothing.
use mathlib.Core.Path.{◌≡◌, refl, sym, ap, ◌∙◌}
use mathlib.Core.Bool.{Bool, true, false, not, ◌&&◌, cond, true≢false}
use mathlib.Core.List.{List, [], ◌∷◌, ◌++◌}
use Prim.Native.Nat.{ℕ}
use borrow.Author.Tests.{not-true, eqb-true}
use lib.Dec.{eqb}
use Rattle.le.proofs.TestLaws.{and_left, and_right}
use Rattle.card.specs.Pick.{All}
use Rattle.weave.specs.declared.Code.{Code}
use Rattle.weave.specs.declared.Code.TheVariants.{Fine}
use Rattle.weave.specs.declared.Finding.{Finding}
use Rattle.weave.specs.Codes.{is_fine, need, first_by, first}
use Rattle.weave.specs.Findings.{plain, naming, need_at, is_clear, first_found}
use Rattle.promises.specs.Checks.{Check, Passed, check, check_at, of_first, failing, failing_field}

-- ---- the first that fails, of whatever the checks have

-- none of the codes is Fine
abbrev pub proper : List Check → Bool
proper [] = true
proper (c ∷ cs) = not (is_fine c.code) && proper cs

-- several checks, then the others
joined_by : {A : Type 0} (fine : A → Bool) (has : Check → A) (none : A) → fine none ≡ true → ((k : Check) → fine (has k) ≡ is_fine k.code)
    → (cs ds : List Check) → proper cs ≡ true → first_by fine (of_first has none cs) (of_first has none ds) ≡ of_first has none (cs ++ ds)
unfolding first_by
joined_by fine has none f h [] ds p = rw f
joined_by fine has none f h (k ∷ ks) ds p = go k.asks (joined_by fine has none f h ks ds (and_right (not (is_fine k.code)) _ p))
  where
    go : (t : Bool) → cond (fine (of_first has none ks)) (of_first has none ds) (of_first has none ks) ≡ of_first has none (ks ++ ds)
        → cond (fine (cond t (of_first has none ks) (has k))) (of_first has none ds) (cond t (of_first has none ks) (has k)) ≡ cond t (of_first has none (ks ++ ds)) (has k)
    go true ih = ih
    go false ih = rw (h k, not-true (is_fine k.code) (and_left (not (is_fine k.code)) _ p))

-- checks that are passed have no say
pub passed_on : {A : Type 0} (has : Check → A) (none : A) (cs ds : List Check) → All Passed cs → of_first has none (cs ++ ds) ≡ of_first has none ds
passed_on has none [] ds p = refl
passed_on has none (c ∷ cs) ds p = rw p.0 (passed_on has none cs ds p.1)

-- .. and where none fails there is nothing of a first
pub none_of : {A : Type 0} (has : Check → A) (none : A) (cs : List Check) → All Passed cs → of_first has none cs ≡ none
none_of has none [] a = refl
none_of has none (k ∷ ks) a = rw a.0 (none_of has none ks a.1)

pub all-passed : (cs : List Check) → proper cs ≡ true → is_fine (failing cs) ≡ true → All Passed cs
all-passed [] p e = tt
all-passed (k ∷ ks) p e = go k.asks refl e (all-passed ks (and_right (not (is_fine k.code)) _ p))
  where
    go : (t : Bool) → k.asks ≡ t → is_fine (cond t (failing ks) k.code) ≡ true → (is_fine (failing ks) ≡ true → All Passed ks) → All Passed (k ∷ ks)
    go true q e ih = (q, ih e)
    go false q e ih = absurd (true≢false (sym e ∙ not-true (is_fine k.code) (and_left (not (is_fine k.code)) _ p)))

-- ---- the code that a list of checks comes to

pub record Comes (c : Code) (cs : List Check) : Type 0 where
  pub is : c ≡ failing cs

pub joined : (cs ds : List Check) (c d : Code) → proper cs ≡ true → Comes c cs → Comes d ds → Comes (first c d) (cs ++ ds)
joined cs ds c d p e q = record { is = rw (e.is, q.is) (joined_by is_fine (λ (k : Check). k.code) Fine refl (λ k. refl) cs ds p) }

pub last : {n : ℕ} (t : Bool) (c : Code) → Comes (need t c) (record { asks = t; code = c; field = n } ∷ [])
unfolding need
last t c = record { is = refl }

-- one check, then the others
pub then : {n : ℕ} (t : Bool) (c d : Code) (ds : List Check) → is_fine c ≡ false → Comes d ds → Comes (first (need t c) d) (record { asks = t; code = c; field = n } ∷ ds)
then t c d ds f e = joined (_ ∷ []) ds (need t c) d (rw f) (last t c) e

-- ---- .. and what it finds

abbrev pub finds : Check → Finding
finds c = record { code = c.code; field = c.field }

abbrev pub decided : List Check → Finding
decided cs = of_first finds (plain Fine) cs

pub record Finds (f : Finding) (cs : List Check) : Type 0 where
  pub is : f ≡ decided cs

-- its two halves
pub halves : (cs : List Check) → decided cs ≡ record { code = failing cs; field = failing_field cs }
halves [] = refl
halves (k ∷ ks) = go k.asks (halves ks)
  where
    go : (t : Bool) → decided ks ≡ record { code = failing ks; field = failing_field ks }
        → cond t (decided ks) (finds k) ≡ record { code = cond t (failing ks) k.code; field = cond t (failing_field ks) k.field }
    go true ih = ih
    go false ih = refl

pub finds-code : (f : Finding) (cs : List Check) → Finds f cs → f.code ≡ failing cs
finds-code f cs e = ap (λ (x : Finding). x.code) (e.is ∙ halves cs)

pub finds-field : (f : Finding) (cs : List Check) → Finds f cs → f.field ≡ failing_field cs
finds-field f cs e = ap (λ (x : Finding). x.field) (e.is ∙ halves cs)

pub followed : (cs ds : List Check) (f g : Finding) → proper cs ≡ true → Finds f cs → Finds g ds → Finds (first_found f g) (cs ++ ds)
followed cs ds f g p e q = record { is = rw (e.is, q.is) (joined_by is_clear finds (plain Fine) refl (λ k. refl) cs ds p) }

-- a code whose field is by some rule finds what a list of checks finds that comes to it, where each of these has its field by that rule
abbrev ruled : (Code → ℕ) → List Check → Bool
ruled rule [] = true
ruled rule (c ∷ cs) = eqb c.field (rule c.code) && ruled rule cs

by-rule : (rule : Code → ℕ) → rule Fine ≡ 0 → (c : Code) (cs : List Check) → Comes c cs → ruled rule cs ≡ true → Finds (record { code = c; field = rule c }) cs
by-rule rule zero c cs e r = record { is = rw e.is (go cs r) }
  where
    at : (t : Bool) (k : Check) (ks : List Check) → record { code = failing ks; field = rule (failing ks) } ≡ decided ks → k.field ≡ rule k.code
        → ◌≡◌ {A = Finding} (record { code = cond t (failing ks) k.code; field = rule (cond t (failing ks) k.code) }) (cond t (decided ks) (finds k))
    at true k ks ih f = ih
    at false k ks ih f = rw f

    go : (cs : List Check) → ruled rule cs ≡ true → record { code = failing cs; field = rule (failing cs) } ≡ decided cs
    go [] r = rw zero
    go (k ∷ ks) r =
        at k.asks k ks (go ks (and_right (eqb k.field (rule k.code)) _ r)) (eqb-true k.field (rule k.code) (and_left (eqb k.field (rule k.code)) _ r))

pub plainly : (c : Code) (cs : List Check) → Comes c cs → ruled (λ (c : Code). (plain c).field) cs ≡ true → Finds (plain c) cs
plainly = by-rule (λ (c : Code). (plain c).field) refl

pub named : (n : ℕ) (c : Code) (cs : List Check) → Comes c cs → ruled (λ (c : Code). (naming c n).field) cs ≡ true → Finds (naming c n) cs
named n = by-rule (λ (c : Code). (naming c n).field) refl

-- one check of a field, then the others
pub field-then : (t : Bool) (n : ℕ) (g : Finding) (ds : List Check) → Finds g ds → Finds (first_found (need_at t n) g) (check_at t n ∷ ds)
unfolding need
field-then t n g ds e = followed (check_at t n ∷ []) ds (need_at t n) g refl (one t) e
  where
    one : (t : Bool) → Finds (need_at t n) (check_at t n ∷ [])
    one true = record { is = refl }
    one false = record { is = refl }

-- .. and one that names none
pub plain-last : (t : Bool) (c : Code) → Finds (plain (need t c)) (check t c ∷ [])
plain-last t c = plainly (need t c) (check t c ∷ []) (last t c) refl

pub plain_then : (t : Bool) (c : Code) (g : Finding) (ds : List Check) → is_fine c ≡ false → Finds g ds → Finds (first_found (plain (need t c)) g) (check t c ∷ ds)
plain_then t c g ds f e = followed (check t c ∷ []) ds (plain (need t c)) g (rw f) (plain-last t c) e
