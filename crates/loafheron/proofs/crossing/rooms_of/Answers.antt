-- `loafheron::crossing::rooms_of` meets its contract: each of the table by itself. Assumes nothing.
use mathlib.Core.Path.{◌≡◌, sym, ◌∙◌}
use lib.ListN.{length}
use native.Mathlib.Omega.{arith}
use borrow.Author.Rules.{rules}
use Rattle.loafheron.specs.Crossing.{rooms_of, room_of}
use Rattle.loafheron.proofs.CrossingLaws.{mapped}
use Rattle.loafheron.proofs.crossing.rooms_of.Goals as goal

pub returns : goal.returns
unfolding rooms_of
returns c =
    let n : length c.args.s ≡ 4 = search rules in
    mapped room_of c.args.s c.map.result (c.map.ensures.items.long ∙ sym n) (λ i d e l.
    let there = c.map.ensures.items.at i d e (omega (arith, l, n)) in search rules)
