-- A value whose bytes now lie elsewhere, its pointer moved with them, has no fault there and is stored as before. Both `payload-good` and `handed` are instances:
-- the stored payload taken for a memory of its own, and the payload that stands in a module's memory.
-- Assumes nothing.
use mathlib.Core.Path.{◌≡◌, refl, sym, ap, ◌∙◌}
use mathlib.Core.Bool.{true}
use mathlib.Core.List.{List, ◌++◌}
use Prim.Native.Nat.{ℕ}
use native.Mathlib.Omega.{arith}
use lib.ListN.{length}
use Rattle.le.specs.Splice.{part}
use Rattle.le.proofs.SpliceLaws.{part_none}
use Rattle.text.specs.Span.{inside}
use Rattle.text.specs.Utf8.{utf8}
use Rattle.value.specs.declared.cell.Cell.{Cell}
use Rattle.value.specs.declared.Span.{Span}
use Rattle.value.specs.declared.Value.{Value}
use Rattle.value.specs.declared.Value.TheVariants.{Plain, Text, Array}
use Rattle.std.specs.Prelude.{Ok}
use Rattle.value.specs.Cells.{cell_at, cell_bytes}
use Rattle.value.specs.Scalars.{scalar_cell}
use Rattle.value.specs.Values.{decoded, content_of, content_len, fault_of}
use Rattle.value.specs.Forms.{cell_of, form_of}
use Rattle.value.proofs.DecodeLaws.{of-text, of_array, Read, plain, text, array, wrong}
use Rattle.value.proofs.ScalarLaws.{scalar-back}
use Rattle.value.proofs.FaultLaws.{text-utf8, text-fine, span-fine}

-- the value at p of M is as good as v of memory m, whose flags are given
pub record Moved (m : List ℕ) (flags : ℕ) (v : Value) (M : List ℕ) (p : ℕ) : Type 0 where
  pub fine : fault_of M (decoded (cell_at M p)) ≡ Ok tt
  pub same : form_of M (cell_at M p) ≡ cell_bytes (cell_of flags 32 v) ++ content_of m v

-- d is read at p, and says w
read_as : (m : List ℕ) (v : Value) (M : List ℕ) (p : ℕ) (d : Cell) (w : Value) → cell_at M p ≡ d → decoded d ≡ w → fault_of M w ≡ Ok tt → content_of M w ≡ content_of m v
    → cell_of d.flags 32 w ≡ cell_of d.flags 32 v → Moved m d.flags v M p
unfolding form_of
read_as m v M p d w e k f x s = record { fine = rw (e, k) f; same = rw (e, k, x, s) }

module _ (m : List ℕ) (c : Cell) (M : List ℕ) (p q : ℕ) where
  pub moved : (v : Value) → Read c v → fault_of m v ≡ Ok tt → cell_at M p ≡ cell_of c.flags q v → inside q (content_len v) (length M) ≡ true
      → part q (content_len v) M ≡ content_of m v → Moved m c.flags v M p
  moved v (plain s h) f e i x =
      read_as m v M p (scalar_cell c.flags s) (Plain s) e (scalar-back c.flags s h) refl (part_none M 0 0 refl ∙ sym (part_none m 0 0 refl)) refl
  moved v text f e i x =
      let s : Span = record { ptr = q; len = c.second } in
      let d = cell_of c.flags q v in
      read_as m v M p d (Text s) e (sym (of-text d refl)) (text-fine M s i (ap utf8 x ∙ text-utf8 m (record { ptr = c.first; len = c.second }) f)) x refl
  moved v array f e i x =
      let s : Span = record { ptr = q; len = c.second } in
      let d = cell_of c.flags q v in
      read_as m v M p d (Array s) e (sym (of_array d refl)) (span-fine M s i) x refl
  moved v wrong f e i x = let z : ◌≡◌ {A = ℕ} 0 1 = cc in absurd (omega arith)
