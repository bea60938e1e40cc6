-- `text::lines::field` meets its contract: field k is the first of those behind the k-th tab. Assumes nothing.
use mathlib.Core.Path.{refl, sym, ◌∙◌}
use native.Mathlib.Nat.{sub-zero}
use native.Mathlib.Omega.{arith}
use lib.ListN.{length-take}
use Rattle.text.proofs.LinesLaws.{field-here, field-there}
use Rattle.text.proofs.lines.field.Goals as goal

pub returns : goal.returns
returns c =
    let f = c.find-end in
    let b = c.behind-rest in
    let a = c.args in
    let here = rw sub-zero at (field-here b.result.now 0 f.result (omega arith) f.ensures.0 0 f.ensures.1 refl) in
    (field-there a.k a.line.now _ b.ensures.0 _ (c.front.ensures ∙ sym here), rw (c.front.ensures, length-take) (omega (arith, b.ensures.1)))
