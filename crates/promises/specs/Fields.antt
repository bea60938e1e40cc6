-- 02, A5, "Which field was it?": what the field of an answer says. (Which number each check names is in Checks.)
-- Assumes nothing.
use Rattle.std.specs.Prelude.{◌≡◌, Bool, true, false, cond, List, [], ◌∷◌, ◌++◌, ◌⊎◌, ℕ, ◌+◌, ◌%◌, ◌≤◌}
use Rattle.card.specs.Pick.{All}
use Rattle.weave.specs.declared.Code.TheVariants.{Bad}
use Rattle.weave.specs.Codes.{is_bad}
use Rattle.promises.specs.Box.{Op, Begin, Ingress, Write, Read, Open, Next, Close, Return, LookUp}
use Rattle.promises.specs.Checks.{Check, Passed}

-- "of the first field that failed, in the order of the checks": all checks before it are passed, and it is asked and fails, with -5
pub record FirstFailed (field : ℕ) (cs : List Check) : Type 0 where
  pub before : List Check
  pub check : Check
  pub behind : List Check
  pub list : cs ≡ before ++ (check ∷ behind)
  pub passed : All Passed before
  pub fails : check.asks ≡ false
  pub bad : check.code ≡ Bad
  pub is : check.field ≡ field

abbrev pub is_module_call : Op → Bool
is_module_call (Begin args) = false
is_module_call (Ingress topic payload) = false
is_module_call (Write m a) = true
is_module_call (Read m a) = true
is_module_call (Open m a) = true
is_module_call (Next m a) = true
is_module_call (Close m a) = true
is_module_call (Return code) = false
is_module_call (LookUp id) = false

-- the fields that the checks of a list name with -5, one after the other
abbrev pub named_by : List Check → List ℕ
named_by [] = []
named_by (c ∷ cs) = cond (is_bad c.code) (c.field ∷ named_by cs) (named_by cs)

-- .. of each module call: twice 254, as check 1 has the memory and the rest, and once more of a next, for the table; of a write twice the data, as it lies there and as its value says
abbrev pub fields_of : Op → List ℕ
fields_of (Write m a) = 254 ∷ 254 ∷ 255 ∷ 0 ∷ 32 ∷ 16 ∷ 24 ∷ 16 ∷ []
fields_of (Read m a) = 254 ∷ 254 ∷ 255 ∷ 0 ∷ 24 ∷ []
fields_of (Open m a) = 254 ∷ 254 ∷ 255 ∷ 0 ∷ 40 ∷ []
fields_of (Next m a) = 254 ∷ 254 ∷ 254 ∷ 255 ∷ 8 ∷ []
fields_of (Close m a) = 254 ∷ 254 ∷ 255 ∷ []
fields_of (Begin args) = []
fields_of (Ingress topic payload) = []
fields_of (Return code) = []
fields_of (LookUp id) = []

-- ---- what the fields are held against, in numbers

-- 01: "A span (ptr, len) is inside memory of size m when ptr ≤ m, len ≤ m − ptr, and len = 0 or ptr ≠ 0."
pub record Inside (ptr len size : ℕ) : Type 0 where
  pub ends : ptr + len ≤ size
  pub placed : (len ≡ 0) ⊎ (ptr ≡ 0 → ⊥)

-- "multiples of 8"
pub record Aligned (ptr len size : ℕ) : Type 0 where
  pub eighth : ptr % 8 ≡ 0
  pub inside : Inside ptr len size

-- a write's payload: "the address of a value" is a multiple of 8; the span is taken with len as it stands
pub record Payload (value : Bool) (ptr len size : ℕ) : Type 0 where
  pub eighth : value ≡ true → ptr % 8 ≡ 0
  pub inside : Inside ptr len size
