-- Buffers that are made all 0.
-- Assumes nothing.
use mathlib.Core.Path.{◌≡◌, refl, ap, ◌∙◌}
use mathlib.Core.List.{List, [], ◌∷◌}
use Prim.Native.Nat.{ℕ, ◌-◌}
use native.Mathlib.Nat.{sub-zero}
use lib.ListN.{length}
use Rattle.le.specs.Splice.{splice, zeros}

all-zero : (s : List ℕ) → splice s 0 (zeros (length s)) ≡ zeros (length s)
unfolding splice
all-zero [] = refl
all-zero (x ∷ s) = ap (λ (r : List ℕ). 0 ∷ r) (all-zero s)

pub zeroed : (s r : List ℕ) → r ≡ splice s 0 (zeros (length s - 0)) → r ≡ zeros (length s)
zeroed s r e = (rw sub-zero at e) ∙ all-zero s
