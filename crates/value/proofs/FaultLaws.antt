-- The laws of a value's fault: what it says that there is none.
-- Assumes nothing.
use mathlib.Core.Path.{◌≡◌, refl, sym}
use mathlib.Core.Bool.{Bool, true, false, cond, or-true}
use mathlib.Core.List.{List}
use Prim.Native.Nat.{ℕ, ◌+◌, ◌-◌, ◌≤◌, ◌<◌}
use native.Mathlib.Omega.{arith}
use borrow.Author.Tests.{le-leb, ne_eqb}
use lib.Dec.{eqb}
use lib.ListN.{length}
use Rattle.le.specs.Splice.{part}
use Rattle.le.proofs.SpliceLaws.{length_part}
use Rattle.text.specs.Span.{inside}
use Rattle.text.specs.Utf8.{utf8}
use Rattle.text.proofs.SpanLaws.{inside-end}
use Rattle.value.specs.declared.Span.{Span}
use Rattle.value.specs.declared.Value.{Value}
use Rattle.value.specs.declared.Value.TheVariants.{Plain, Text, Array, Wrong}
use Rattle.value.specs.declared.Fault.{Fault}
use Rattle.std.specs.Prelude.{Result, Ok, Err, is_ok, ⊤}
use Rattle.value.specs.declared.Fault.TheVariants.{Outside, Unfit}
use Rattle.value.specs.Values.{content_span, content_of, content_len, span_fault, text_fault, fault_of}

pub fine-is : (f : Result ⊤ Fault) → is_ok f ≡ true → f ≡ Ok tt
fine-is (Ok x) e = refl
fine-is (Err f) e = let z : ◌≡◌ {A = ℕ} 0 1 = cc in absurd (omega arith)

-- a check that is fine: its test passed, and so did what came behind it
pub passed : (b : Bool) (f : Result ⊤ Fault) → cond b f (Err Outside) ≡ Ok tt → (b ≡ true) × (f ≡ Ok tt)
passed true f e = (refl, e)
passed false f e = let z : ◌≡◌ {A = ℕ} 0 1 = cc in absurd (omega arith)

-- a span that has an address and ends inside memory is inside
pub inside_is : (p n k : ℕ) → 0 < p → p + n ≤ k → inside p n k ≡ true
unfolding inside
inside_is p n k z h = rw (le-leb p k (omega arith), le-leb n (k - p) (omega arith), ne_eqb p 0 (λ e. omega arith)) (or-true (eqb n 0))

-- ---- byte arrays and strings

module _ (m : List ℕ) (s : Span) where
  pub span-inside : span_fault m s ≡ Ok tt → inside s.ptr s.len (length m) ≡ true
  unfolding span_fault
  span-inside e = (passed (inside s.ptr s.len (length m)) (Ok tt) e).0

  text-both : text_fault m s ≡ Ok tt → (inside s.ptr s.len (length m) ≡ true) × (cond {A = Result ⊤ Fault} (utf8 (part s.ptr s.len m)) (Ok tt) (Err Unfit) ≡ Ok tt)
  unfolding text_fault
  text-both e = passed (inside s.ptr s.len (length m)) (cond (utf8 (part s.ptr s.len m)) (Ok tt) (Err Unfit)) e

  pub text-utf8 : text_fault m s ≡ Ok tt → utf8 (part s.ptr s.len m) ≡ true
  text-utf8 e = good (utf8 (part s.ptr s.len m)) (text-both e).1
    where
      good : (b : Bool) → cond {A = Result ⊤ Fault} b (Ok tt) (Err Unfit) ≡ Ok tt → b ≡ true
      good true q = refl
      good false q = let z : ◌≡◌ {A = ℕ} 0 1 = cc in absurd (omega arith)

  -- the text's check, from its span's
  pub text-outside : (f : Fault) → span_fault m s ≡ Err f → Err f ≡ text_fault m s
  unfolding span_fault text_fault
  text-outside f e = go (inside s.ptr s.len (length m)) e
    where
      go : (b : Bool) → cond {A = Result ⊤ Fault} b (Ok tt) (Err Outside) ≡ Err f → Err f ≡ cond {A = Result ⊤ Fault} b (cond (utf8 (part s.ptr s.len m)) (Ok tt) (Err Unfit)) (Err Outside)
      go true q = let z : ◌≡◌ {A = ℕ} 0 1 = cc in absurd (omega arith)
      go false q = sym q

  pub text-inside : (b : Bool) → utf8 (part s.ptr s.len m) ≡ b → span_fault m s ≡ Ok tt → cond {A = Result ⊤ Fault} b (Ok tt) (Err Unfit) ≡ text_fault m s
  unfolding text_fault
  text-inside b u e = rw (span-inside e, u)

  pub span-fine : inside s.ptr s.len (length m) ≡ true → span_fault m s ≡ Ok tt
  unfolding span_fault
  span-fine i = rw i

  pub text-fine : inside s.ptr s.len (length m) ≡ true → utf8 (part s.ptr s.len m) ≡ true → text_fault m s ≡ Ok tt
  unfolding text_fault
  text-fine i u = rw (i, u)

-- ---- a value with no fault: its bytes lie in memory, and are as many as it says

pub content-end : (m : List ℕ) (v : Value) → fault_of m v ≡ Ok tt → (content_span v).ptr + (content_span v).len ≤ length m
content-end m (Plain s) e = omega arith
content-end m (Text s) e = inside-end s.ptr s.len (length m) (text-both m s e).0
content-end m (Array s) e = inside-end s.ptr s.len (length m) (span-inside m s e)
content-end m Wrong e = omega arith

pub content-long : (m : List ℕ) (v : Value) → fault_of m v ≡ Ok tt → length (content_of m v) ≡ content_len v
content-long m v e = length_part (content_span v).ptr (content_span v).len m (content-end m v e)
