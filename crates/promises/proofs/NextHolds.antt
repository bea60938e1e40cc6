-- What a next answers, by what it looks at.
-- Assumes nothing.
use mathlib.Core.Path.{◌≡◌, refl, ap, ◌∙◌}
use mathlib.Core.Bool.{Bool, true, false, not, cond}
use mathlib.Core.List.{List, [], ◌∷◌, ◌++◌}
use Prim.Native.Nat.{ℕ, zero, suc, ◌+◌, ◌-◌, ◌/◌, ◌≤◌}
use native.Mathlib.Nat.{zero-add}
use native.Mathlib.Omega.{arith}
use borrow.Author.Tests.{le-leb, ne_eqb}
use lib.Dec.{leb, eqb}
use lib.IntN.{ℤ, pos}
use lib.ListN.{length}
use Rattle.card.specs.Records.{size}
use Rattle.card.specs.Look.{Stop, AtEnd, Full, AtFault, Look, stopped, with, look, walked, end_of, short_of, page_at, page_after, page_by, is_fault}
use Rattle.card.proofs.LookLaws.{look-nothing, window-empty}
use Rattle.weave.specs.declared.Code.{Code}
use Rattle.weave.specs.declared.Code.TheVariants.{Fine, Unsound, NoRoom}
use Rattle.weave.specs.Codes.{is_fine, number}
use Rattle.weave.specs.Args.{next_args}
use Rattle.host.specs.Hosts.{first_id}
use Rattle.reads.specs.Paging.{look_in, next_look, answer_by, next_answer, walk_look}
use Rattle.reads.proofs.IndexedLaws.{look-walks}
use Rattle.promises.specs.Box.{World, Indexed, Next, step, code_of, said_number}
use Rattle.promises.specs.Checks.{Check, check, check_at, failing, index_asks, gate, paged, next_first, next_looks}
use Rattle.promises.specs.Diary.{answer_of}
use Rattle.promises.specs.Turn.{list_left}
use Rattle.promises.specs.Edges.{Ready, cursor_at}
use Rattle.promises.proofs.CheckLaws.{passed_on}
use Rattle.promises.proofs.ChecksHold.{code_is}
use Rattle.promises.proofs.AnswersHold.{answers-are}

-- what a look that ended well makes of a next: 0 at the end, -4 where its first record does not fit, else its bytes
abbrev pub look_says : Stop → ℕ → ℤ
look_says AtEnd n = pos n
look_says Full n = cond (eqb n 0) (number NoRoom) (pos n)
look_says AtFault n = number Unsound

module _ (w : World) (m : List ℕ) (a : ℕ) where
  abbrev seen : Look
  seen = next_looks w m a

  said-by : (c : Code) → code_of (step w (Next m a)).said ≡ c → said_number (step w (Next m a)).said ≡ cond (is_fine c) (pos (size seen.part)) (number c)
  unfolding step next_answer answer_by
  said-by c e = rw e (go (is_fine c) refl)
    where
      go : (t : Bool) → is_fine c ≡ t → cond t (pos (answer_of (step w (Next m a)).said)) (number c) ≡ cond t (pos (size seen.part)) (number c)
      go true q = ap pos (answers-are w (Next m a) (rw (e, q)))
      go false q = refl

  pub next-says : (n : ℕ) → Ready w m a n → size seen.part ≤ n → said_number (step w (Next m a)).said ≡ look_says seen.stop (size seen.part)
  unfolding page_after end_of short_of
  next-says n r h =
      said-by _
      (code_is w (Next m a)
      ∙ passed_on (λ (c : Check). c.code) Fine (check_at (index_asks w) 254 ∷ (gate w m ++ next_first w m a)) (check (not (is_fault seen.stop)) Unsound ∷ paged w (page_by seen)) r.passed)
      ∙ go seen.stop (size seen.part) h
    where
      room : (k : ℕ) → k ≤ n → leb (w.host.weave.units + (1 + k / 8)) w.host.weave.resmax ≡ true
      room k h = le-leb (w.host.weave.units + (1 + k / 8)) w.host.weave.resmax (omega (arith, r.budget))

      go : (e : Stop) (k : ℕ) → k ≤ n
          → cond (is_fine (failing (check (not (is_fault e)) Unsound ∷ paged w (page_at e (0 + k))))) (pos k) (number (failing (check (not (is_fault e)) Unsound ∷ paged w (page_at e (0 + k))))) ≡ look_says e k
      go AtFault k h = refl
      go AtEnd zero h = rw (room 0 h)
      go AtEnd (suc k) h = rw (zero-add (suc k), ne_eqb (suc k) 0 (λ q. omega arith), room (suc k) h)
      go Full zero h = refl
      go Full (suc k) h = rw (zero-add (suc k), ne_eqb (suc k) 0 (λ q. omega arith), room (suc k) h)

  -- two records of 152 are left, on a sound card
  pub two-left : Indexed w → (r s : List ℕ) (k : ℕ) → (next_args m a).out.len ≡ k → list_left w (next_args m a).handle ≡ r ∷ s ∷ [] → length r ≡ 152 → length s ≡ 152
      → seen ≡ cond (leb 152 k) (with r (cond (leb 152 (k - 152)) (with s (stopped AtEnd)) (stopped Full))) (stopped Full)
  unfolding walk_look walked
  two-left x r s k c e p q = look-walks w.lent w.index w.host x.sound x.fits m a ∙ rw (x.sound, c, e, p, q)

-- ---- a window or a limit that takes nothing, on any card

pub window-none : (w : World) (m : List ℕ) (a : ℕ) → (cursor_at w m a).to.0 ≤ (cursor_at w m a).from.0 → next_looks w m a ≡ stopped AtEnd
unfolding next_look look_in look
window-none w m a h = rw (window-empty (cursor_at w m a) (first_id w.host) w.host.next.0 h)

pub limit-none : (w : World) (m : List ℕ) (a : ℕ) → (cursor_at w m a).limit ≡ 0 → next_looks w m a ≡ stopped AtEnd
unfolding next_look look_in
limit-none w m a e = rw e (look-nothing _ _ _ _)
