-- `text::compare::same_halves` meets its contract, from the law of texts that are compared by two parts. Assumes nothing.
use mathlib.Core.Path.{◌≡◌, refl, sym, ap, ap₂, ◌∙◌}
use mathlib.Core.Bool.{Bool, true, false, ◌&&◌}
use Prim.Native.Nat.{◌-◌}
use native.Mathlib.Omega.{arith}
use lib.ListN.{length, take, drop, length-take}
use Rattle.text.specs.Compare.{same_bytes}
use Rattle.text.proofs.CompareLaws.{by-halves}
use Rattle.text.proofs.compare.same_halves.Goals as goal

pub same_ends-requires-clause-lengths : goal.same_ends-requires-clause-lengths
same_ends-requires-clause-lengths c = rw (c.front.ensures, c.front-2.ensures, length-take 16 c.args.a.now, length-take 16 c.args.b.now, c.requires.lengths) refl

pub returns-then-same_ends : goal.returns-then-same_ends
returns-then-same_ends c =
    let a = c.args.a.now in
    let b = c.args.b.now in
    let e = length a - 16 in
    let lower : same_bytes (take 16 a) (take 16 b) ≡ true = sym (c.same_ends.ensures ∙ ap₂ same_bytes c.front.ensures c.front-2.ensures) ∙ c.if-same_ends.true in
    c.same_ends-then-same_ends.ensures
    ∙ ap₂ same_bytes c.tail.ensures c.tail-then-same_ends.ensures
    ∙ ap (λ (r : Bool). r && same_bytes (drop e a) (drop e b)) (sym lower)
    ∙ by-halves a b 16 e c.requires.lengths (omega arith)

pub returns-else-same_ends : goal.returns-else-same_ends
returns-else-same_ends c =
    let a = c.args.a.now in
    let b = c.args.b.now in
    let lower : same_bytes (take 16 a) (take 16 b) ≡ false = sym (c.same_ends.ensures ∙ ap₂ same_bytes c.front.ensures c.front-2.ensures) ∙ c.if-same_ends.false in
    c.if-same_ends.false ∙ ap (λ (r : Bool). r && same_bytes (drop 16 a) (drop 16 b)) (sym lower) ∙ by-halves a b 16 16 c.requires.lengths (omega arith)
