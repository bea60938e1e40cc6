-- What a good manifest is made of, line by line; the charge rule over a life; and its two editions.
-- Assumes nothing.
use mathlib.Core.Path.{◌≡◌, refl, ap, ◌∙◌}
use mathlib.Core.Bool.{true, cond}
use mathlib.Core.List.{List, [], ◌∷◌, ◌++◌}
use mathlib.Core.Logic.{◌↔◌}
use Prim.Native.Nat.{ℕ, zero, suc, ◌+◌, ◌*◌, ◌≤◌, ◌<◌}
use native.Mathlib.Omega.{arith}
use borrow.Author.Tests.{le-leb, lt-ltb}
use lib.Dec.{ltb, eqb}
use lib.ListN.{length, get_or, drop}
use Rattle.le.proofs.TestLaws.{and_left}
use Rattle.text.specs.Compare.{same_bytes}
use Rattle.text.specs.Decimal.{number_of, no_leading_zero, number_from, digits, value_from}
use Rattle.text.specs.Lines.{lines, line_at, fields, field}
use Rattle.text.proofs.LinesLaws.{line-next, closed_some}
use Rattle.manifest.specs.declared.charge.Charge.TheVariants.{First, Second}
use Rattle.manifest.specs.Words.{charge_word}
use Rattle.manifest.specs.Line.{one_to, number_in, modules_in, charge_in, holder_in}
use Rattle.manifest.specs.Charge.{charge_named, charge_by}
use Rattle.manifest.specs.Head.{optional, beyond, modules_of, head_of, grant_lines}
use Rattle.manifest.specs.Saying.{Said, is_good, charge_said, all_grants, good_grants, good_head, grants_said, manifest_of, charge_of}
use Rattle.manifest.proofs.LineLaws.{charge-most, number-spelt, grant-unnumbered}
use Rattle.manifest.proofs.SayingLaws.{head_small, head-closed, head-some, good-parts, grants-all}
use Rattle.host.specs.Hosts.{Lent}
use Rattle.promises.specs.Box.{World, Op, step, mounted_as, run}
use Rattle.promises.specs.Charging.{Choice, absent, one, two, charge_lines, edition, Made, said_by}
use Rattle.promises.proofs.MoveLaws.{Move, Rests, Begins, GoesOn, Commits, Discards, after}
use Rattle.promises.proofs.MovesHold.{moved}

-- ---- a good manifest is made so

module _ (text : List ℕ) where
  abbrev behind : List (List ℕ)
  behind = drop 1 (lines text)

  -- the line behind line one that names k, and the lines behind it
  named : (k : ℕ) → charge_in (get_or behind 0 []) ≡ k → 0 < k → k < 10 → behind ≡ (charge_word ++ (9 ∷ (48 + k) ∷ [])) ∷ drop 1 behind
  unfolding charge_in number_in fields
  named k q low high = there behind q ∙ ap (λ (l : List ℕ). l ∷ drop 1 behind) (number-spelt charge_word _ (get_or behind 0 []) k q low high)
    where
      there : (ls : List (List ℕ)) → charge_in (get_or ls 0 []) ≡ k → ls ≡ get_or ls 0 [] ∷ drop 1 ls
      there [] e = absurd (omega (arith, e))
      there (l ∷ ls) e = refl

  first : 0 < length text → lines text ≡ line_at 0 text ∷ behind
  first h = rw (line-next text 0 h)

  made : good_head text ≡ true → (c : Choice) (gs : List (List ℕ)) → behind ≡ charge_lines c ++ gs → good_grants (modules_of text) gs ≡ true → Made text
  unfolding modules_of
  made h c gs e g = record {
    choice = c;
    grants = gs;
    small = head_small text h;
    whole = head-closed text h;
    are = first (closed_some text (head-closed text h)) ∙ ap (λ (ls : List (List ℕ)). line_at 0 text ∷ ls) e;
    some = head-some text h;
    granting = g;
  }

  pub made_so : is_good (manifest_of text) ≡ true → Made text
  unfolding grant_lines beyond optional charge_word
  made_so e = go (charge_in (get_or behind 0 [])) refl (charge-most (get_or behind 0 [])) (good-parts text e).1
    where
      go : (k : ℕ) → charge_in (get_or behind 0 []) ≡ k → k ≤ 2 → good_grants (modules_of text) (cond (eqb k 0) behind (drop 1 behind)) ≡ true → Made text
      go zero q h g = made (good-parts text e).0 absent behind refl g
      go (suc zero) q h g = made (good-parts text e).0 one (drop 1 behind) (named 1 q (omega arith) (omega arith)) g
      go (suc (suc zero)) q h g = made (good-parts text e).0 two (drop 1 behind) (named 2 q (omega arith) (omega arith)) g
      go (suc (suc (suc k))) q h g = absurd (omega arith)

-- ---- and what is made so is good, and says just that

-- a grant is no line `charge`
unnamed : (modules : ℕ) (gs : List (List ℕ)) → good_grants modules gs ≡ true → charge_in (get_or gs 0 []) ≡ 0
unfolding all_grants charge_in number_in fields
unnamed modules gs g = go gs (grants-all modules gs g)
  where
    go : (ls : List (List ℕ)) → all_grants modules ls ≡ true → charge_in (get_or ls 0 []) ≡ 0
    go [] e = refl
    go (l ∷ ls) e = grant-unnumbered charge_word _ modules l (and_left (ltb 0 (holder_in modules l)) _ e)

head-is : (c : Choice) (modules : ℕ) (gs : List (List ℕ)) → good_grants modules gs ≡ true → charge_named (optional charge_in (charge_lines c ++ gs)) ≡ edition c
unfolding optional charge_named charge_in number_in fields field same_bytes charge_word one_to number_of no_leading_zero number_from digits value_from
head-is absent modules gs g = rw (unnamed modules gs g)
head-is one modules gs g = refl
head-is two modules gs g = refl

grants-are : (c : Choice) (modules : ℕ) (gs : List (List ℕ)) → good_grants modules gs ≡ true → beyond charge_in (charge_lines c ++ gs) ≡ gs
unfolding beyond optional charge_in number_in fields field same_bytes charge_word one_to number_of no_leading_zero number_from digits value_from
grants-are absent modules gs g = rw (unnamed modules gs g)
grants-are one modules gs g = refl
grants-are two modules gs g = refl

pub says_so : (text : List ℕ) (m : Made text) → manifest_of text ≡ said_by text m
unfolding manifest_of good_head grants_said head_of grant_lines modules_of
says_so text m =
    let n = modules_in (line_at 0 text) in
    rw (le-leb (length text) 65536 m.small, m.whole, lt-ltb 0 n m.some, m.are, grants-are m.choice n m.grants m.granting, head-is m.choice n m.grants m.granting, m.granting)

pub made-exactly : (text : List ℕ) → (is_good (manifest_of text) ≡ true) ↔ Made text
made-exactly text = (made_so text, λ m. ap is_good (says_so text m))

-- ---- over a life

-- no move changes the rule
rule-kept : (w : World) (o : Op) (m : Move w o) → (after w o m).charge ≡ w.charge
rule-kept w o Rests = refl
rule-kept w o (Begins args i b) = refl
rule-kept w o (GoesOn r c) = refl
rule-kept w o (Commits i s code c) = refl
rule-kept w o (Discards i) = refl

run-rule : (w : World) (os : List Op) → (run w os).charge ≡ w.charge
run-rule w [] = refl
run-rule w (o ∷ os) = run-rule (step w o).world os ∙ rw (moved w o).world (rule-kept w o (moved w o).move)

pub life-rule : (l : Lent) (table : List ℕ) (used : ℕ) (os : List Op) (m : Made l.text) → (run (mounted_as l table used) os).charge ≡ charge_by (edition m.choice)
unfolding charge_of
life-rule l table used os m = run-rule (mounted_as l table used) os ∙ ap (λ (s : Said). charge_by (charge_said s)) (says_so l.text m)

-- ---- the two editions

pub by-edition : (total q : ℕ)
    → (total ≡ 8 * q → charge_by First total ≡ 1 + q) × (total ≤ 64 * q → 64 * q < total + 64 → charge_by Second total ≡ 4 + q)
unfolding charge_by
by-edition total q = (λ e. omega arith, λ l h. omega arith)
