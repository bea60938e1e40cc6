-- `text::compare::same_ends` meets its contract, from the laws of texts that are compared by their ends. Assumes nothing.
use mathlib.Core.Path.{◌≡◌, refl, sym, ap, ap₂, ◌∙◌}
use Prim.Native.Nat.{ℕ, ◌-◌}
use borrow.Author.Tests.{ne_eqb}
use lib.Dec.{eqb}
use lib.ListN.{length}
use Rattle.le.specs.Le.{le_at}
use Rattle.text.proofs.CompareLaws.{front_same, front-differs}
use Rattle.text.proofs.compare.same_ends.Goals as goal

pub returns-then-front : goal.returns-then-front
returns-then-front g c =
    let a = c.args.a.now in
    let b = c.args.b.now in
    let w = g.N.Number.WIDTH in
    let x : c.widened.result ≡ le_at w a 0 = c.widened.ensures ∙ c.get.ensures in
    let y : c.widened-2.result ≡ le_at w b 0 = c.widened-2.ensures ∙ c.get-2.ensures in
    ap₂ eqb (c.widened-then-front.ensures ∙ c.get-then-front.ensures) (c.widened-then-front-2.ensures ∙ c.get-then-front-2.ensures)
    ∙ front_same w a b c.type_inv.a c.type_inv.b c.requires.lengths c.requires.least c.requires.most _ (ap (λ (n : ℕ). length a - n) c.WIDTH.ensures)
    (sym x ∙ c.if-front.true ∙ y)

pub returns-else-front : goal.returns-else-front
returns-else-front g c =
    let a = c.args.a.now in
    let b = c.args.b.now in
    let w = g.N.Number.WIDTH in
    let x : c.widened.result ≡ le_at w a 0 = c.widened.ensures ∙ c.get.ensures in
    let y : c.widened-2.result ≡ le_at w b 0 = c.widened-2.ensures ∙ c.get-2.ensures in
    ne_eqb _ _ c.if-front.false
    ∙ front-differs w a b c.type_inv.a c.type_inv.b c.requires.lengths c.requires.least c.requires.most _ refl (λ e. c.if-front.false (x ∙ e ∙ sym y))
