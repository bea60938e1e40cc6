-- What 32 bytes say, and whether it may be stored. 01, "Value payload".
-- Assumes nothing.
use Rattle.std.specs.Prelude.{Bool, true, false, cond, List, ℕ, ◌%◌, eqb, ℤ, pos, negsuc, length, Result, Ok, Err, ⊤}
use Rattle.std.specs.Float.{binary64}
use Rattle.std.specs.Float.Ieee.{of_bits}
use Rattle.std.specs.Int.{w64}
use Rattle.std.proofs.Common.{to_z}
use Rattle.le.specs.Splice.{part}
use Rattle.text.specs.Span.{inside}
use Rattle.text.specs.Utf8.{utf8}
use Rattle.value.specs.declared.scalar.Scalar.TheVariants.{Unit as Nothing, Bool as Boolean, Signed, Unsigned, Float}
use Rattle.value.specs.declared.cell.Cell.{Cell}
use Rattle.value.specs.declared.Span.{Span}
use Rattle.value.specs.declared.Value.{Value}
use Rattle.value.specs.declared.Value.TheVariants.{Plain, Text, Array, Wrong}
use Rattle.value.specs.declared.Fault.{Fault}
use Rattle.value.specs.declared.Fault.TheVariants.{Outside, Unfit}
use Rattle.value.specs.Cells.{cell_at}

-- ---- what 32 bytes say

-- "Boolean bytes other than 0 and 1: -7"
unfoldable pub boolean : ℕ → Value
boolean b = cond (eqb b 0) (Plain (Boolean false)) (cond (eqb b 1) (Plain (Boolean true)) Wrong)

-- "A decoded scalar is one of unit, boolean, signed, unsigned or float", types 0 to 4, a boolean being the union's first byte; "A string (5) or byte array (9)";
-- "6, 7, 8 and above 9 give -7"
unfoldable pub decoded : Cell → Value
decoded c =
    cond (eqb c.kind 0) (Plain Nothing)
    (cond (eqb c.kind 1) (boolean (c.first % 256))
    (cond (eqb c.kind 2) (Plain (Signed (to_z w64 c.first)))
    (cond (eqb c.kind 3) (Plain (Unsigned c.first))
    (cond (eqb c.kind 4) (Plain (Float (of_bits binary64 c.first)))
    (cond (eqb c.kind 5) (Text (record { ptr = c.first; len = c.second }))
    (cond (eqb c.kind 9) (Array (record { ptr = c.first; len = c.second })) Wrong))))))

-- where the n bytes of a string or byte array lie; an empty span for the others
abbrev pub content_span : Value → Span
content_span (Plain s) = record { ptr = 0; len = 0 }
content_span (Text s) = s
content_span (Array s) = s
content_span Wrong = record { ptr = 0; len = 0 }

-- these bytes, and n
abbrev pub content_of : List ℕ → Value → List ℕ
content_of m v = part (content_span v).ptr (content_span v).len m

abbrev pub content_len : Value → ℕ
content_len v = (content_span v).len

-- ---- "The checks: type (6, 7, 8 and above 9 give -7), span (-5), UTF-8 of a string (-7)."

-- the paper's number for each case
abbrev pub fault_number : {A : Type 0} → Result A Fault → ℤ
fault_number (Ok x) = pos 0
fault_number (Err Outside) = negsuc 4
fault_number (Err Unfit) = negsuc 6

-- "span (-5)"
unfoldable pub span_fault : List ℕ → Span → Result ⊤ Fault
span_fault m s = cond (inside s.ptr s.len (length m)) (Ok tt) (Err Outside)

-- "span (-5), UTF-8 of a string (-7)"
unfoldable pub text_fault : List ℕ → Span → Result ⊤ Fault
text_fault m s = cond (inside s.ptr s.len (length m)) (cond (utf8 (part s.ptr s.len m)) (Ok tt) (Err Unfit)) (Err Outside)

-- the type, and what the type asks for
abbrev pub fault_of : List ℕ → Value → Result ⊤ Fault
fault_of m (Plain s) = Ok tt
fault_of m (Text s) = text_fault m s
fault_of m (Array s) = span_fault m s
fault_of m Wrong = Err Unfit

-- the value at address p of a memory: its own 32 bytes have to be inside, too
unfoldable pub value_fault : List ℕ → ℕ → Result ⊤ Fault
value_fault m p = cond (inside p 32 (length m)) (fault_of m (decoded (cell_at m p))) (Err Outside)
