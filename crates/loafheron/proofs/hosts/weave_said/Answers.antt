-- `loafheron::hosts::weave_said` meets its contract. Assumes nothing.
use mathlib.Core.Path.{◌≡◌}
use mir.Syntax.{w64}
use mir.Val.{to_z, of_z, SFits}
use borrow.Author.Rules.{rules}
use mir.Facts.{to_z-of_z}
use Rattle.loafheron.specs.Crossing.{weave_said}
use Rattle.loafheron.proofs.hosts.weave_said.Goals as goal

pub returns : goal.returns
unfolding weave_said
returns c =
    let fits : SFits w64 c.args.s.spoiled = search rules in
    let back : to_z w64 (of_z w64 c.args.s.spoiled) ≡ c.args.s.spoiled = to_z-of_z fits in
    simp (c.flag_said-running.ensures, c.mark_said-spoiled.ensures, c.flag_said-late.ensures, c.slots_said-slots.ensures, back)
