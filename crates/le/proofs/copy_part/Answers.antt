-- `le::copy_part` meets its contract. Assumes nothing.
use mathlib.Core.Path.{ap, ◌∙◌}
use borrow.Author.Rules.{rules}
use Rattle.le.specs.Splice.{splice}
use Rattle.le.proofs.SpliceLaws.{length_part}
use Rattle.le.proofs.copy_part.Goals as goal

pub copy_at-requires : goal.copy_at-requires
copy_at-requires c =
    let a = c.args in
    rw (c.cut.ensures, length_part a.a a.n a.src.now (search rules)) (search rules)

pub returns : goal.returns
returns c = c.copy_at.ensures ∙ ap (splice _ _) c.cut.ensures
