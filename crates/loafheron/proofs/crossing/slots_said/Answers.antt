-- `loafheron::crossing::slots_said` meets its contract: each of the table by itself. Assumes nothing.
use mathlib.Core.Path.{◌≡◌, sym, ◌∙◌}
use lib.ListN.{length}
use native.Mathlib.Omega.{arith}
use borrow.Author.Rules.{rules}
use Rattle.loafheron.specs.Crossing.{slots_said, slot_said}
use Rattle.loafheron.proofs.CrossingLaws.{mapped}
use Rattle.loafheron.proofs.crossing.slots_said.Goals as goal

pub returns : goal.returns
unfolding slots_said
returns c =
    let n : length c.args.r ≡ 4 = search rules in
    mapped slot_said c.args.r c.map.result (c.map.ensures.items.long ∙ sym n) (λ i d e l.
    let there = c.map.ensures.items.at i d e (omega (arith, l, n)) in search rules)
