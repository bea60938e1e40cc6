-- Arguments laid over a memory.
-- Assumes nothing.
use mathlib.Core.Path.{◌≡◌, ap, ◌∙◌}
use mathlib.Core.List.{List, [], ◌∷◌, ◌++◌, append_assoc, append-nil}
use Prim.Native.Nat.{ℕ, ◌+◌}
use native.Mathlib.Omega.{arith}
use lib.ListN.{length, length-append}
use Rattle.le.specs.Le.{le_bytes}
use Rattle.le.specs.Splice.{splice}
use Rattle.le.proofs.LeLaws.{length-le_bytes}
use Rattle.le.proofs.SpliceLaws.{splice-then}
use Rattle.script.specs.Laying.{words, write_laid, open_laid}
use Rattle.script.specs.declared.forms.Window.{Window}

-- ---- numbers of 8 bytes

length-words : (a b d : ℕ) → length (words (a ∷ b ∷ d ∷ [])) ≡ 24
unfolding words
length-words a b d = simp (length-append, length-le_bytes)

pub three-laid : (s₀ s₁ s₂ s₃ : List ℕ) (at a b d : ℕ) → s₁ ≡ splice s₀ at (le_bytes 8 a) → s₂ ≡ splice s₁ (at + 8) (le_bytes 8 b)
    → s₃ ≡ splice s₂ (at + 16) (le_bytes 8 d) → s₃ ≡ splice s₀ at (words (a ∷ b ∷ d ∷ []))
unfolding words
three-laid s₀ s₁ s₂ s₃ at a b d e f g =
    splice-then s₀ s₂ s₃ at (at + 16) (le_bytes 8 a ++ le_bytes 8 b) (le_bytes 8 d)
    (splice-then s₀ s₁ s₂ at (at + 8) (le_bytes 8 a) (le_bytes 8 b) e (omega (arith, length-le_bytes 8 a)) f)
    (rw length-append (omega (arith, length-le_bytes 8 a, length-le_bytes 8 b)))
    g
    ∙ ap (splice s₀ at) (append_assoc (le_bytes 8 a) (le_bytes 8 b) (le_bytes 8 d) ∙ simp append-nil)

six : (a b d e f g : ℕ) → words (a ∷ b ∷ d ∷ []) ++ words (e ∷ f ∷ g ∷ []) ≡ words (a ∷ b ∷ d ∷ e ∷ f ∷ g ∷ [])
unfolding words
six a b d e f g = simp (append-nil, append_assoc)

pub six-laid : (m s₁ s₂ : List ℕ) (a b d e f g : ℕ) → s₁ ≡ splice m 8 (words (a ∷ b ∷ d ∷ [])) → s₂ ≡ splice s₁ 32 (words (e ∷ f ∷ g ∷ []))
    → s₂ ≡ splice m 8 (words (a ∷ b ∷ d ∷ e ∷ f ∷ g ∷ []))
six-laid m s₁ s₂ a b d e f g p q =
    splice-then m s₁ s₂ 8 32 (words (a ∷ b ∷ d ∷ [])) (words (e ∷ f ∷ g ∷ [])) p (omega (arith, length-words a b d)) q
    ∙ ap (splice m 8) (six a b d e f g)

-- ---- the calls

pub write-laid : (m s₁ s₂ s₃ s₄ topic payload : List ℕ) (k : ℕ) → k ≡ 56 + length topic
    → s₁ ≡ splice m 8 (words (56 ∷ length topic ∷ k ∷ [])) → s₂ ≡ splice s₁ 32 (words (length payload ∷ 1 ∷ 0 ∷ []))
    → s₃ ≡ splice s₂ 56 topic → s₄ ≡ splice s₃ k payload → s₄ ≡ write_laid m topic payload
unfolding write_laid
write-laid m s₁ s₂ s₃ s₄ topic payload k ek p q u v =
    v ∙ rw (u, six-laid m s₁ s₂ 56 (length topic) k (length payload) 1 0 p q, ek)

pub open-laid : (m s₁ s₂ s₃ filter : List ℕ) (w : Window)
    → s₁ ≡ splice m 8 (words (56 ∷ length filter ∷ w.from.0 ∷ [])) → s₂ ≡ splice s₁ 32 (words (w.to.0 ∷ w.limit ∷ w.desc ∷ [])) → s₃ ≡ splice s₂ 56 filter
    → s₃ ≡ open_laid m filter w
unfolding open_laid
open-laid m s₁ s₂ s₃ filter w p q u = u ∙ rw (six-laid m s₁ s₂ 56 (length filter) w.from.0 w.to.0 w.limit w.desc p q)
