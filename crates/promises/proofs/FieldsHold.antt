-- 02, A5: the field of an answer is that of the first check that fails; only a -5 of a module call names one, and only one of its own.
-- Assumes nothing.
use mathlib.Core.Path.{◌≡◌, refl, sym, ap, ◌∙◌}
use mathlib.Core.Bool.{Bool, true, false, ◌&&◌, ◌||◌, cond, true≢false}
use mathlib.Core.List.{List, [], ◌∷◌}
use mathlib.Core.Logic.{◌↔◌}
use Prim.Native.Nat.{ℕ}
use native.Mathlib.Omega.{arith}
use borrow.Author.Tests.{eqb-true}
use lib.Dec.{eqb}
use Rattle.le.proofs.TestLaws.{and_left, and_right}
use Rattle.weave.specs.declared.Code.TheVariants.{Fine, Bad}
use Rattle.weave.specs.declared.Finding.{Finding}
use Rattle.weave.specs.Codes.{is_bad}
use Rattle.weave.specs.Findings.{plain}
use Rattle.promises.specs.Box.{World, Op, Begin, Ingress, Write, Read, Open, Next, Close, Return, LookUp, step, code_of}
use Rattle.promises.specs.Checks.{Check, failing, failing_field, checks_of}
use Rattle.promises.specs.Fields.{FirstFailed, is_module_call, named_by, fields_of}
use Rattle.promises.proofs.CheckLaws.{finds, decided, halves, passed_on}
use Rattle.promises.proofs.ChecksHold.{code_is, field_is}

-- ---- exactly the first that failed

first-failed : (cs : List Check) (f : ℕ) → failing cs ≡ Bad → failing_field cs ≡ f → FirstFailed f cs
first-failed [] f c e = let z : ◌≡◌ {A = ℕ} 0 1 = cc in absurd (omega arith)
first-failed (k ∷ ks) f c e = go k.asks refl c e (first-failed ks f)
  where
    go : (t : Bool) → k.asks ≡ t → cond t (failing ks) k.code ≡ Bad → cond t (failing_field ks) k.field ≡ f
        → (failing ks ≡ Bad → failing_field ks ≡ f → FirstFailed f ks) → FirstFailed f (k ∷ ks)
    go true q c e ih =
        let r = ih c e in
        record {
          before = k ∷ r.before;
          check = r.check;
          behind = r.behind;
          list = ap (◌∷◌ k) r.list;
          passed = (q, r.passed);
          fails = r.fails;
          bad = r.bad;
          is = r.is;
        }
    go false q c e ih = record { before = []; check = k; behind = ks; list = refl; passed = tt; fails = q; bad = c; is = e }

failed-first : (cs : List Check) (f : ℕ) → FirstFailed f cs → (failing cs ≡ Bad) × (failing_field cs ≡ f)
failed-first cs f r = (
  rw (r.list, passed_on (λ (c : Check). c.code) Fine r.before (r.check ∷ r.behind) r.passed, r.fails) r.bad,
  rw (r.list, passed_on (λ (c : Check). c.field) 0 r.before (r.check ∷ r.behind) r.passed, r.fails) r.is,
)

pub named-exactly : (w : World) (o : Op) (f : ℕ) → ((code_of (step w o).said ≡ Bad) × ((step w o).field ≡ f)) ↔ FirstFailed f (checks_of w o)
named-exactly w o f = (
  λ e. first-failed (checks_of w o) f (sym (code_is w o) ∙ e.0) (sym (field_is w o) ∙ e.1),
  λ r. let e = failed-first (checks_of w o) f r in (code_is w o ∙ e.0, field_is w o ∙ e.1),
)

-- ---- what holds of whatever each check finds holds of what is found

abbrev each : (Finding → Bool) → List Check → Bool
each p [] = true
each p (c ∷ cs) = p (finds c) && each p cs

each_first : (p : Finding → Bool) → p (plain Fine) ≡ true → (cs : List Check) → each p cs ≡ true → p (decided cs) ≡ true
each_first p z [] e = z
each_first p z (k ∷ ks) e = go k.asks (each_first p z ks (and_right (p (finds k)) _ e))
  where
    go : (t : Bool) → p (decided ks) ≡ true → p (cond t (decided ks) (finds k)) ≡ true
    go true ih = ih
    go false ih = and_left (p (finds k)) _ e

answered-by : (w : World) (o : Op) (p : Finding → Bool) → p (plain Fine) ≡ true → each p (checks_of w o) ≡ true
    → p (record { code = code_of (step w o).said; field = (step w o).field }) ≡ true
answered-by w o p z e = rw (code_is w o, field_is w o, ← halves (checks_of w o)) (each_first p z (checks_of w o) e)

-- "Other codes give 0."
abbrev only_bad : Finding → Bool
only_bad f = is_bad f.code || eqb f.field 0

only-bad : (w : World) (o : Op) → each only_bad (checks_of w o) ≡ true
only-bad w (Begin args) = refl
only-bad w (Ingress topic payload) = refl
only-bad w (Write m a) = refl
only-bad w (Read m a) = refl
only-bad w (Open m a) = refl
only-bad w (Next m a) = refl
only-bad w (Close m a) = refl
only-bad w (Return code) = refl
only-bad w (LookUp id) = refl

pub others-0 : (w : World) (o : Op) → is_bad (code_of (step w o).said) ≡ false → (step w o).field ≡ 0
others-0 w o b = eqb-true (step w o).field 0 (rw b at (answered-by w o only_bad refl (only-bad w o)))

-- what is no module call has no check that names a field
abbrev unnamed : Finding → Bool
unnamed f = eqb f.field 0

pub module-only : (w : World) (o : Op) → is_module_call o ≡ false → (step w o).field ≡ 0
module-only w o n = eqb-true (step w o).field 0 (answered-by w o unnamed refl (none o n))
  where
    none : (o : Op) → is_module_call o ≡ false → each unnamed (checks_of w o) ≡ true
    none (Begin args) n = refl
    none (Ingress topic payload) n = refl
    none (Write m a) n = absurd (true≢false n)
    none (Read m a) n = absurd (true≢false n)
    none (Open m a) n = absurd (true≢false n)
    none (Next m a) n = absurd (true≢false n)
    none (Close m a) n = absurd (true≢false n)
    none (Return code) n = refl
    none (LookUp id) n = refl

-- the fields of each call
pub its_own : (w : World) (o : Op) → is_module_call o ≡ true → named_by (checks_of w o) ≡ fields_of o
its_own w (Begin args) e = absurd (true≢false (sym e))
its_own w (Ingress topic payload) e = absurd (true≢false (sym e))
its_own w (Write m a) e = refl
its_own w (Read m a) e = refl
its_own w (Open m a) e = refl
its_own w (Next m a) e = refl
its_own w (Close m a) e = refl
its_own w (Return code) e = absurd (true≢false (sym e))
its_own w (LookUp id) e = absurd (true≢false (sym e))
