-- The laws of `payload`: the steps of checking and of writing it, and its length.
-- Assumes nothing.
use mathlib.Core.Path.{◌≡◌, refl, sym, ap, ◌∙◌}
use mathlib.Core.Bool.{Bool, true, false, cond}
use mathlib.Core.List.{List, [], ◌∷◌}
use Prim.Native.Nat.{ℕ, ◌+◌, ◌≤◌, ◌<◌}
use native.Mathlib.Omega.{arith}
use borrow.Author.Tests.{le-leb, lt-leb}
use lib.Dec.{leb}
use lib.ListN.{length, length-append}
use Rattle.le.specs.Splice.{splice, wholly, part}
use Rattle.le.proofs.SpliceLaws.{splice-nil, splice-then}
use Rattle.text.specs.Span.{inside}
use Rattle.text.proofs.SpanLaws.{inside-end}
use Rattle.std.specs.Result.{result_unwrap_or}
use Rattle.value.specs.declared.cell.Cell.{Cell}
use Rattle.value.specs.declared.Span.{Span}
use Rattle.value.specs.declared.Value.{Value}
use Rattle.std.specs.Prelude.{Result, Ok, Err, is_ok, ⊤}
use Rattle.value.specs.declared.Fault.{Fault}
use Rattle.value.specs.declared.Fault.TheVariants.{Outside}
use Rattle.value.specs.Cells.{cell_at, cell_bytes}
use Rattle.value.specs.Values.{decoded, content_span, content_len, span_fault, fault_of, value_fault}
use Rattle.value.specs.Forms.{cell_of, form_of, payload, with_len, checked_value, checked_of}
use Rattle.value.proofs.CellLaws.{length-cell}
use Rattle.value.proofs.FaultLaws.{passed, content-end, content-long}

-- "data_len is 32 + n"
pub form-long : (m : List ℕ) (c : Cell) → fault_of m (decoded c) ≡ Ok tt → length (form_of m c) ≡ 32 + content_len (decoded c)
unfolding form_of
form-long m c e = simp (length-append, length-cell) (ap (λ (n : ℕ). 32 + n) (content-long m (decoded c) e))

-- what a value that has no fault is ready for
pub record Ready (m : List ℕ) (p : ℕ) : Type 0 where
  pub room : p + 32 ≤ length m
  pub fine : fault_of m (decoded (cell_at m p)) ≡ Ok tt
  pub same : payload m p ≡ form_of m (cell_at m p)
  pub long : length (payload m p) ≡ 32 + content_len (decoded (cell_at m p))

pub ready : (m : List ℕ) (p : ℕ) → value_fault m p ≡ Ok tt → Ready m p
unfolding value_fault payload
ready m p e =
    let t = passed (inside p 32 (length m)) (fault_of m (decoded (cell_at m p))) e in
    let q : payload m p ≡ form_of m (cell_at m p) = rw e in
    record {
      room = inside-end p 32 (length m) t.0;
      fine = t.1;
      same = q;
      long = ap length q ∙ form-long m (cell_at m p) t.1;
    }

-- ---- the check

module _ (m : List ℕ) (p : ℕ) where
  -- of a value whose 32 bytes are inside: what the check of the decoded value says
  pub checked-inside : inside p 32 (length m) ≡ true → checked_of m (decoded (cell_at m p)) ≡ checked_value m p
  unfolding checked_of checked_value value_fault payload
  checked-inside e = rw e (go (fault_of m (decoded (cell_at m p))) refl)
    where
      go : (f : Result ⊤ Fault) → fault_of m (decoded (cell_at m p)) ≡ f
          → with_len f (32 + content_len (decoded (cell_at m p))) ≡ with_len f (length (cond (is_ok f) (form_of m (cell_at m p)) []))
      go (Ok x) q = ap (λ (n : ℕ). Ok n) (sym (form-long m (cell_at m p) q))
      go (Err f) q = refl

  -- of another: what is wrong with the span
  pub checked-outside : (f : Fault) → span_fault m (record { ptr = p; len = 32 }) ≡ Err f → Err f ≡ checked_value m p
  unfolding checked_value value_fault span_fault
  checked-outside f e = go (inside p 32 (length m)) e
    where
      go : (b : Bool) → cond {A = Result ⊤ Fault} b (Ok tt) (Err Outside) ≡ Err f → Err f ≡ with_len (cond b (fault_of m (decoded (cell_at m p))) (Err Outside)) (length (payload m p))
      go true q = let z : ◌≡◌ {A = ℕ} 0 1 = cc in absurd (omega arith)
      go false q = ap (λ (r : Result ⊤ Fault). with_len r (length (payload m p))) (sym q)

  -- what its answer says
  pub checked-ok : (n : ℕ) → checked_value m p ≡ Ok n → (value_fault m p ≡ Ok tt) × (n ≡ length (payload m p))
  unfolding checked_value
  checked-ok n e = go (value_fault m p) e
    where
      go : (f : Result ⊤ Fault) → with_len f (length (payload m p)) ≡ Ok n → (f ≡ Ok tt) × (n ≡ length (payload m p))
      go (Ok x) q = (refl, sym (ap (λ (r : Result ℕ Fault). result_unwrap_or r 0) q))
      go (Err f) q = let z : ◌≡◌ {A = ℕ} 0 1 = cc in absurd (omega arith)

  -- the length that it gives, 0 where there is a fault
  pub checked-long : result_unwrap_or (checked_value m p) 0 ≡ length (payload m p)
  unfolding checked_value payload
  checked-long = go (value_fault m p)
    where
      go : (f : Result ⊤ Fault) → result_unwrap_or (with_len f (length (cond (is_ok f) (form_of m (cell_at m p)) []))) 0 ≡ length (cond (is_ok f) (form_of m (cell_at m p)) [])
      go (Ok x) = refl
      go (Err f) = refl

  pub checked-err : (f : Fault) → checked_value m p ≡ Err f → length (payload m p) ≡ 0
  unfolding checked_value payload
  checked-err f e = go (value_fault m p) e
    where
      go : (g : Result ⊤ Fault) → with_len g (length (cond (is_ok g) (form_of m (cell_at m p)) [])) ≡ Err f → length (cond (is_ok g) (form_of m (cell_at m p)) []) ≡ 0
      go (Ok x) q = let z : ◌≡◌ {A = ℕ} 0 1 = cc in absurd (omega arith)
      go (Err h) q = refl

-- ---- the writing: c and v are what was read at p

module _ (m : List ℕ) (p : ℕ) (f : value_fault m p ≡ Ok tt) (c : Cell) (v : Value) (ec : c ≡ cell_at m p) (ev : v ≡ decoded c) where
  same-value : v ≡ decoded (cell_at m p)
  same-value = ev ∙ ap decoded ec

  pub there-end : (s : Span) → s ≡ content_span v → s.ptr + s.len ≤ length m
  there-end s e = rw e (content-end m v (ap (fault_of m) same-value ∙ (ready m p f).fine))

  pub there-long : (s : Span) → s ≡ content_span v → length (payload m p) ≡ 32 + s.len
  there-long s e = rw e ((ready m p f).long ∙ ap (λ (u : Value). 32 + content_len u) (sym same-value))

  pub value_written : (d : Cell) (s : Span) (s₀ s₁ s₂ : List ℕ) (at : ℕ) → d ≡ cell_of c.flags 32 v → s₁ ≡ splice s₀ at (cell_bytes d) → s ≡ content_span v
      → s₂ ≡ splice s₁ (at + 32) (part s.ptr s.len m) → s₂ ≡ splice s₀ at (payload m p)
  unfolding form_of
  value_written d s s₀ s₁ s₂ at ed e₁ es e₂ =
      splice-then s₀ s₁ s₂ at (at + 32) (cell_bytes d) (part s.ptr s.len m) e₁ (ap (λ (n : ℕ). at + n) (sym (length-cell d))) e₂
      ∙ ap (splice s₀ at) (rw (ed, es, ev, ec) (sym (ready m p f).same))

-- ---- written whole or not at all

module _ (s : List ℕ) (at : ℕ) (ys : List ℕ) where
  pub wholly-fits : at + length ys ≤ length s → splice s at ys ≡ wholly s at ys
  unfolding wholly
  wholly-fits h = rw (le-leb (at + length ys) (length s) h)

  pub wholly-short : length s < at + length ys → s ≡ wholly s at ys
  unfolding wholly
  wholly-short h = rw (lt-leb (at + length ys) (length s) h)

pub wholly-none : (s : List ℕ) (at : ℕ) (ys : List ℕ) → length ys ≡ 0 → s ≡ wholly s at ys
unfolding wholly
wholly-none s at [] e = go (leb (at + 0) (length s))
  where
    go : (b : Bool) → s ≡ cond b (splice s at []) s
    go true = sym (splice-nil s at)
    go false = refl
wholly-none s at (y ∷ ys) e = absurd (omega arith)
