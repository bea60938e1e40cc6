-- A line's answer, put together: the next session, the buffers and what is printed.
-- Assumes nothing.
use mathlib.Core.Path.{◌≡◌, refl, ap, sym, ◌∙◌}
use mathlib.Core.Bool.{Bool, true, false}
use mathlib.Core.List.{List, [], ◌∷◌, ◌++◌}
use Prim.Native.Nat.{ℕ, ◌+◌}
use native.Mathlib.Omega.{arith}
use lib.Dec.{leb}
use lib.ListN.{length, set}
use Rattle.le.specs.Splice.{splice}
use Rattle.le.proofs.SpliceLaws.{splice-then, set-splice}
use Rattle.weave.specs.Codes.{is_fine}
use Rattle.host.specs.declared.Mounted.{Mounted}
use Rattle.script.specs.Saying.{Put, said_bad, said_mount}
use Rattle.session.specs.Sessions.{Answers, counted, became, bad_answer, mount_answer, with_index, manifest_line}
use Rattle.session.specs.declared.Buffers.{Buffers}
use Rattle.session.specs.declared.Phase.TheVariants.{Listing, Overfull, Playing, Over}
use Rattle.session.specs.declared.Session.{Session}
use Rattle.script.proofs.SayLaws.{put-none}

pub bad-answers : (s next' : Session) (b : Buffers) (o o' : List ℕ) (n : ℕ) → next' ≡ became s Over s.size s.host → Put o o' 0 (said_bad (counted s)) n
    → Answers (bad_answer s b) next' b o o' n
unfolding bad_answer
bad-answers s next' b o o' n e p = record { next = e; buffers = refl; said = p }

-- mount, with the table x' that it left
module _ (s next' : Session) (b : Buffers) (x x' : List ℕ) (ex : x' ≡ x) (m m' : Mounted) (e : m ≡ m') where
  entered : record b { index = x' } ≡ with_index b x
  unfolding with_index
  entered = ap (λ (i : List ℕ). record b { index = i }) ex

  pub mount-fine : (o : List ℕ) (t : Bool) → t ≡ is_fine m.code → t ≡ true → next' ≡ became s Playing s.size m.host
      → Answers (mount_answer s (with_index b x) m') next' (record b { index = x' }) o o 0
  unfolding mount_answer
  mount-fine o t f g en =
      rw (sym (ap (λ (y : Mounted). is_fine y.code) e) ∙ sym f ∙ g)
      (record { next = en ∙ ap (λ (y : Mounted). became s Playing s.size y.host) e; buffers = entered; said = put-none o 0 (omega arith) })

  pub mount-refused : (o o' : List ℕ) (n : ℕ) (t : Bool) → t ≡ is_fine m.code → t ≡ false → next' ≡ became s Over s.size s.host → Put o o' 0 (said_mount m.code) n
      → Answers (mount_answer s (with_index b x) m') next' (record b { index = x' }) o o' n
  unfolding mount_answer
  mount-refused o o' n t f g en p =
      rw (sym (ap (λ (y : Mounted). is_fine y.code) e) ∙ sym f ∙ g) (record { next = en; buffers = entered; said = rw e at p })

pub line_on : (s next' : Session) (b : Buffers) (line text₁ o : List ℕ) (t : Bool) (i : ℕ) → t ≡ leb (s.size + length line) 65535 → t ≡ true
    → text₁ ≡ splice b.text s.size line → i ≡ s.size + length line → next' ≡ became s Listing (i + 1) s.host
    → Answers (manifest_line s b line) next' (record b { text = set text₁ i 10 }) o o 0
unfolding manifest_line
line_on s next' b line text₁ o t i f g e ei en =
    rw (sym f ∙ g)
    (record {
      next = rw ei at en;
      buffers = ap (λ (t' : List ℕ). record b { text = t' }) closed;
      said = put-none o 0 (omega arith);
    })
  where
    closed : set text₁ i 10 ≡ splice b.text s.size (line ++ (10 ∷ []))
    closed = splice-then b.text text₁ (set text₁ i 10) s.size i line (10 ∷ []) e ei (set-splice text₁ i 10)

pub line-over : (s next' : Session) (b : Buffers) (line o : List ℕ) (t : Bool) → t ≡ leb (s.size + length line) 65535 → t ≡ false
    → next' ≡ became s Overfull s.size s.host → Answers (manifest_line s b line) next' b o o 0
unfolding manifest_line
line-over s next' b line o t f g en = rw (sym f ∙ g) (record { next = en; buffers = refl; said = put-none o 0 (omega arith) })
