-- Codes, and the order of checks.
-- Assumes nothing.
use Rattle.std.specs.Prelude.{Bool, true, false, cond, List, [], ◌∷◌, leb, ℤ, pos, negsuc, get_or}
use Rattle.weave.specs.declared.Code.{Code}
use Rattle.weave.specs.declared.Code.TheVariants.{Fine, Denied, NotNow, Unsound, NoRoom, Bad, Budget, BadValue}
use Rattle.weave.specs.declared.Mark.{Mark}
use Rattle.weave.specs.declared.Spoiled.{Spoiled}
use Rattle.weave.specs.declared.Spoiled.TheVariants.{Not, Overspent, Panicked}

-- 01, "Codes": this paper's number for each case
abbrev pub number : Code → ℤ
number Fine = pos 0
number Denied = negsuc 0
number NotNow = negsuc 1
number Unsound = negsuc 2
number NoRoom = negsuc 3
number Bad = negsuc 4
number Budget = negsuc 5
number BadValue = negsuc 6

abbrev pub is_fine : Code → Bool
is_fine Fine = true
is_fine Denied = false
is_fine NotNow = false
is_fine Unsound = false
is_fine NoRoom = false
is_fine Bad = false
is_fine Budget = false
is_fine BadValue = false

-- the one refusal that marks the weave
abbrev pub is_budget : Code → Bool
is_budget Fine = false
is_budget Denied = false
is_budget NotNow = false
is_budget Unsound = false
is_budget NoRoom = false
is_budget Bad = false
is_budget Budget = true
is_budget BadValue = false

-- the one code that comes with a field (Findings)
abbrev pub is_bad : Code → Bool
is_bad Fine = false
is_bad Denied = false
is_bad NotNow = false
is_bad Unsound = false
is_bad NoRoom = false
is_bad Bad = true
is_bad Budget = false
is_bad BadValue = false

-- a check: the code where the test fails
unfoldable pub need : Bool → Code → Code
need t c = cond t Fine c

-- the first of two checks that finds fault. What a check finds is a code, or more than that; `fine` says whether it is no fault
unfoldable pub first_by : {A : Type 0} → (A → Bool) → A → A → A
first_by fine c d = cond (fine c) d c

-- the checks in their order: the first that finds fault decides
abbrev pub first_of_by : {A : Type 0} → (A → Bool) → A → List A → A
first_of_by fine none [] = none
first_of_by fine none (c ∷ []) = c
first_of_by fine none (c ∷ d ∷ ds) = first_by fine c (first_of_by fine none (d ∷ ds))

-- where checks find codes
abbrev pub first : Code → Code → Code
first c d = first_by is_fine c d

abbrev pub first_of : List Code → Code
first_of cs = first_of_by is_fine Fine cs

-- check 3: "module call in a spoiled weave: its reason, -6 or -1"
abbrev pub reason_for : Spoiled → Code
reason_for Not = Fine
reason_for Overspent = Budget
reason_for Panicked = Denied

abbrev pub spoiled_code : Mark → Code
spoiled_code m = reason_for m.0

-- "a code from -7 to -1 gives discard with it; other codes except 0 and 1 give discard with -5"
unfoldable pub reason_of : ℤ → Code
reason_of (pos n) = cond (leb n 1) Fine Bad
reason_of (negsuc n) = get_or (Denied ∷ NotNow ∷ Unsound ∷ NoRoom ∷ Bad ∷ Budget ∷ BadValue ∷ []) n Bad
