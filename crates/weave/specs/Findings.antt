-- What a check of a module call finds: a code and, with -5, the field that failed. 02, A5: "Each -5 from a module call also gives the byte offset, in its argument
-- record, of the first field that failed, in the order of the checks".
-- Assumes nothing.
use Rattle.std.specs.Prelude.{Bool, cond, List, ℕ}
use Rattle.weave.specs.declared.Code.{Code}
use Rattle.weave.specs.declared.Code.TheVariants.{Fine, Bad}
use Rattle.weave.specs.declared.Finding.{Finding}
use Rattle.weave.specs.Codes.{is_fine, is_bad, need, first_by, first_of_by}

-- a code that names no field
abbrev pub plain : Code → Finding
plain c = record { code = c; field = 0 }

-- a code that names this field with -5. "Other codes give 0."
abbrev pub naming : Code → ℕ → Finding
naming c f = record { code = c; field = cond (is_bad c) f 0 }

-- a check of a field: -5, and the field, where the test fails
abbrev pub need_at : Bool → ℕ → Finding
need_at t f = naming (need t Bad) f

-- "255 for the record's own address"
abbrev pub own_address : ℕ
own_address = 255

-- "254 for anything before check 4"
abbrev pub before_record : ℕ
before_record = 254

-- no fault is found
abbrev pub is_clear : Finding → Bool
is_clear f = is_fine f.code

-- the first of two checks that finds fault decides, its code and its field; and the checks in their order
abbrev pub first_found : Finding → Finding → Finding
first_found f g = first_by is_clear f g

abbrev pub found : List Finding → Finding
found fs = first_of_by is_clear (plain Fine) fs
