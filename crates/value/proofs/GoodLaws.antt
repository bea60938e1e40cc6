-- The laws of `good_stored`: what is stored is good, what is good is stored as it stands, and how the code finds out.
-- Assumes nothing.
use mathlib.Core.Path.{◌≡◌, refl, sym, ap, ap₂, ◌∙◌}
use mathlib.Core.Bool.{Bool, true, false, ◌&&◌, cond, true≢false}
use mathlib.Core.List.{List, ◌++◌}
use Prim.Native.Nat.{ℕ, ◌+◌, ◌≤◌, ◌<◌}
use native.Mathlib.Omega.{arith}
use borrow.Author.Tests.{le-leb, lt-leb, leb-true, eqb-true, eq-eqb}
use lib.Dec.{leb, eqb, lit<}
use lib.ListN.{length}
use Rattle.le.specs.Splice.{part, all_zero}
use Rattle.le.proofs.SpliceLaws.{part_none, part-add, part-whole, part-behind}
use Rattle.le.specs.Le.{Bytes}
use Rattle.le.proofs.TestLaws.{and_left, and_right, bool_same}
use Rattle.text.specs.Compare.{same_bytes}
use Rattle.text.proofs.CompareLaws.{same_true, same_refl}
use Rattle.std.specs.Result.{result_unwrap_or}
use Rattle.value.specs.declared.cell.Cell.{Cell}
use Rattle.std.specs.Prelude.{Result, Ok, Err, is_ok, ⊤}
use Rattle.value.specs.declared.Value.{Value}
use Rattle.value.specs.declared.Fault.{Fault}
use Rattle.value.specs.Cells.{cell_at, cell_bytes, same_cell}
use Rattle.value.specs.Values.{decoded, content_of, content_len, fault_of, value_fault}
use Rattle.value.specs.Forms.{cell_of, form_of, payload, with_len, checked_of, good_stored}
use Rattle.value.proofs.CellLaws.{of, length-cell, Fitting, read_fits, cell-back, cell-exact, cell-zeros}
use Rattle.value.proofs.DecodeLaws.{Read, plain, text, array, wrong, reads}
use Rattle.value.proofs.ScalarLaws.{kind-lt, bits-lt}
use Rattle.value.proofs.FaultLaws.{fine-is, inside_is, content-long}
use Rattle.value.proofs.FormLaws.{form-long, ready}
use Rattle.value.proofs.MovedLaws.{moved}

-- ---- what is good is stored as it stands

pub record Good (b : List ℕ) : Type 0 where
  pub long : 32 ≤ length b
  pub fine : fault_of b (decoded (cell_at b 0)) ≡ Ok tt
  pub same : form_of b (cell_at b 0) ≡ b

pub good-is : (b : List ℕ) → good_stored b ≡ true → Good b
unfolding good_stored
good-is b e =
    let f = fault_of b (decoded (cell_at b 0)) in
    let r = and_right (leb 32 (length b)) (is_ok f && same_bytes (form_of b (cell_at b 0)) b) e in
    record {
      long = leb-true 32 (length b) (and_left (leb 32 (length b)) _ e);
      fine = fine-is f (and_left (is_ok f) (same_bytes (form_of b (cell_at b 0)) b) r);
      same = same_true (form_of b (cell_at b 0)) b (and_right (is_ok f) (same_bytes (form_of b (cell_at b 0)) b) r);
    }

is-good : (b : List ℕ) → Good b → good_stored b ≡ true
unfolding good_stored
is-good b g = rw (le-leb 32 (length b) g.long, g.fine, g.same) (same_refl b)

-- a stored payload has its 32 bytes
pub stored-long : (b : List ℕ) → good_stored b ≡ true → 32 ≤ length b
stored-long b e = (good-is b e).long

-- ---- what is stored is good

-- the stored numbers fit their 32 bytes
kept-fits : {c : Cell} {v : Value} → Fitting c → Read c v → Fitting (cell_of c.flags 32 v)
kept-fits h (plain s q) = record { kind = omega (arith, kind-lt s); flags = h.flags; first = bits-lt s q; second = lit< tt }
kept-fits h text = record { kind = lit< tt; flags = h.flags; first = lit< tt; second = h.second }
kept-fits h array = record { kind = lit< tt; flags = h.flags; first = lit< tt; second = h.second }
kept-fits h wrong = record { kind = lit< tt; flags = h.flags; first = lit< tt; second = lit< tt }

-- m is memory: every element is a byte
pub payload-good : (m : List ℕ) (p : ℕ) → Bytes m → value_fault m p ≡ Ok tt → good_stored (payload m p) ≡ true
unfolding form_of
payload-good m p h f =
    let b = payload m p in
    let c = cell_at m p in
    let v = decoded c in
    let n = content_len v in
    let d = cell_of c.flags 32 v in
    let g = ready m p f in
    let r = reads c (read_fits m p h) in
    let e : b ≡ cell_bytes d ++ content_of m v = g.same in
    let size : length b ≡ 32 + n = g.long in
    let k : cell_at b 0 ≡ d = ap (λ (s : List ℕ). cell_at s 0) e ∙ cell-back d (content_of m v) (kept-fits (read_fits m p h) r) in
    let x : part 32 n b ≡ content_of m v = ap (part 32 n) e ∙ part-behind 32 n (cell_bytes d) (content_of m v) (length-cell d) (content-long m v g.fine) in
    let t = moved m c b 0 32 v r g.fine k (inside_is 32 n (length b) (lit< tt) (omega arith)) x in
    is-good b (record { long = omega arith; fine = t.fine; same = t.same ∙ sym e })

-- ---- how the code finds out

-- a test that cannot pass
never : (x : Bool) → (x ≡ true → ⊥) → false ≡ x
never true h = absurd (h refl)
never false h = refl

same-cell : (a : Cell) → same_cell a a ≡ true
unfolding same_cell
same-cell a = rw (eq-eqb a.kind a.kind refl, eq-eqb a.flags a.flags refl, eq-eqb a.first a.first refl, eq-eqb a.second a.second refl)

cell-is : (a b : Cell) → same_cell a b ≡ true → a ≡ b
unfolding same_cell
cell-is a b e =
    let t = and_right (eqb a.kind b.kind) (eqb a.flags b.flags && (eqb a.first b.first && eqb a.second b.second)) e in
    let u = and_right (eqb a.flags b.flags) (eqb a.first b.first && eqb a.second b.second) t in
    let k = eqb-true a.kind b.kind (and_left (eqb a.kind b.kind) _ e) in
    let f = eqb-true a.flags b.flags (and_left (eqb a.flags b.flags) _ t) in
    let x = eqb-true a.first b.first (and_left (eqb a.first b.first) _ u) in
    let y = eqb-true a.second b.second (and_right (eqb a.first b.first) _ u) in
    ap₂ (λ (i j : ℕ). of i j a.first a.second) k f ∙ ap₂ (of b.kind b.flags) x y

module _ (b : List ℕ) (h : Bytes b) (g : Good b) where
  kept-cell : Cell
  kept-cell = cell_of (cell_at b 0).flags 32 (decoded (cell_at b 0))

  good-form : b ≡ cell_bytes kept-cell ++ content_of b (decoded (cell_at b 0))
  unfolding form_of kept-cell
  good-form = sym g.same

  pub good-kept : cell_at b 0 ≡ cell_of (cell_at b 0).flags 32 (decoded (cell_at b 0))
  unfolding kept-cell
  good-kept =
      let fits = kept-fits (read_fits b 0 h) (reads (cell_at b 0) (read_fits b 0 h)) in
      ap (λ (s : List ℕ). cell_at s 0) good-form ∙ cell-back kept-cell (content_of b (decoded (cell_at b 0))) fits

  good-cell : same_cell (cell_at b 0) (cell_of (cell_at b 0).flags 32 (decoded (cell_at b 0))) ≡ true
  unfolding kept-cell
  good-cell = ap (λ (x : Cell). same_cell x kept-cell) good-kept ∙ same-cell kept-cell

  good-zeros : all_zero (part 24 8 b) ≡ true
  good-zeros = ap (λ (s : List ℕ). all_zero (part 24 8 s)) good-form ∙ cell-zeros kept-cell (content_of b (decoded (cell_at b 0)))

  good-long : checked_of b (decoded (cell_at b 0)) ≡ Ok (length b)
  unfolding checked_of
  good-long = rw g.fine (ap (λ (n : ℕ). Ok n) (sym (form-long b (cell_at b 0) g.fine) ∙ ap length g.same))

-- a check that gives a length finds no fault
found : (f : Result ⊤ Fault) (n k : ℕ) → with_len f n ≡ Ok k → (f ≡ Ok tt) × (n ≡ k)
found (Ok x) n k e = (refl, ap (λ (r : Result ℕ Fault). result_unwrap_or r 0) e)
found (Err f) n k e = let z : ◌≡◌ {A = ℕ} 0 1 = cc in absurd (omega arith)

-- a cell that is stored as it is has its bytes right behind it
pub content-there : (b : List ℕ) (c : Cell) (v : Value) → Read c v → c ≡ cell_of c.flags 32 v → content_of b v ≡ part 32 (content_len v) b
content-there b c v (plain s q) e = part_none b 0 0 refl ∙ sym (part_none b 32 0 refl)
content-there b c v text e = ap (λ (n : ℕ). part n c.second b) (ap (λ (x : Cell). x.first) e)
content-there b c v array e = ap (λ (n : ℕ). part n c.second b) (ap (λ (x : Cell). x.first) e)
content-there b c v wrong e = part_none b 0 0 refl ∙ sym (part_none b 32 0 refl)

pub good-short : (b : List ℕ) → length b < 32 → false ≡ good_stored b
unfolding good_stored
good-short b h = rw (lt-leb 32 (length b) h)

module _ (b : List ℕ) (h : Bytes b) (l : 32 ≤ length b) (c : Cell) (v : Value) (k : Result ℕ Fault) (ec : c ≡ cell_at b 0) (ev : v ≡ decoded c)
    (ek : k ≡ checked_of b v) where
  is-checked : k ≡ checked_of b (decoded (cell_at b 0))
  is-checked = ek ∙ ap (checked_of b) (ev ∙ ap decoded ec)

  pub good-other : (k ≡ Ok (length b) → ⊥) → false ≡ good_stored b
  good-other n = never (good_stored b) (λ e. n (is-checked ∙ good-long b h (good-is b e)))

  module _ (d : Cell) (s : Bool) (ed : d ≡ cell_of c.flags 32 v) (es : s ≡ same_cell c d) where
    is_same : s ≡ same_cell (cell_at b 0) (cell_of (cell_at b 0).flags 32 (decoded (cell_at b 0)))
    is_same = es ∙ rw (ed, ev, ec)

    pub good-differs : s ≡ false → false ≡ good_stored b
    good-differs q = never (good_stored b) (λ e. true≢false (sym (is_same ∙ good-cell b h (good-is b e)) ∙ q))

    pub good-rest : k ≡ Ok (length b) → s ≡ true → (z : Bool) → z ≡ all_zero (part 24 8 b) → z ≡ good_stored b
    unfolding form_of checked_of
    good-rest n q z ez =
        bool_same z (good_stored b)
        (λ t.
        let c₀ = cell_at b 0 in
        let v₀ = decoded c₀ in
        let f = found (fault_of b v₀) (32 + content_len v₀) (length b) (sym is-checked ∙ n) in
        let e : c₀ ≡ cell_of c₀.flags 32 v₀ = cell-is c₀ (cell_of c₀.flags 32 v₀) (sym is_same ∙ q) in
        let head : cell_bytes (cell_of c₀.flags 32 v₀) ≡ part 0 32 b = ap cell_bytes (sym e) ∙ cell-exact b h l (sym ez ∙ t) in
        let tail : content_of b v₀ ≡ part 32 (content_len v₀) b = content-there b c₀ v₀ (reads c₀ (read_fits b 0 h)) e in
        let whole : part 0 (32 + content_len v₀) b ≡ b = part-whole (32 + content_len v₀) b (omega (arith, f.1)) in
        let all : form_of b c₀ ≡ b = ap₂ (λ (x y : List ℕ). x ++ y) head tail ∙ part-add 0 32 (content_len v₀) 32 b refl ∙ whole in
        is-good b (record { long = l; fine = f.0; same = all }))
        (λ e. ez ∙ good-zeros b h (good-is b e))
