-- The answers for `manifest::Manifest::granted`.
use mathlib.Core.Path.{◌≡◌, sym, ap, ◌∙◌}
use Prim.Native.Nat.{◌<◌, ◌≤◌}
use native.Mathlib.Omega.{arith}
use borrow.Author.Rules.{rules}
use lib.ListN.{length, take}
use Rattle.manifest.specs.Places.{rights_of}
use Rattle.manifest.proofs.AskingLaws.{asking-core, asking-start, asking-end, asking-yes, asking-no}
use Rattle.manifest.proofs.Manifest.granted.Goals as goal

pub returns-then-out-is_core : goal.returns-then-out-is_core
unfolding rights_of
returns-then-out-is_core c = search (rules, asking-core)

pub loop-g-init : goal.loop-g-init
loop-g-init c = asking-start _ _ _ _ _ _ c.is_core.ensures c.if-out-is_core.false

pub returns-then-gives : goal.returns-then-gives
unfolding rights_of
returns-then-gives c =
    let own = c.front-g-items.ensures in
    asking-yes _ _ _ _ _ _ c.loop-g.invariant (rw own at c.loop-g-test.true) _ _ (rw own at c.gives.ensures) c.if-gives.true

pub loop-g-preserved : goal.loop-g-preserved
loop-g-preserved c =
    let own = c.front-g-items.ensures in
    asking-no _ _ _ _ _ _ c.loop-g.invariant (rw own at c.loop-g-test.true) _ _ (rw own at c.gives.ensures) c.if-gives.false

pub returns : goal.returns
unfolding rights_of
returns c =
    let past : length c.front-g-items.result.now ≤ c.loop-g.g-index = omega (arith, c.loop-g-test.false) in
    asking-end _ _ _ _ _ _ c.loop-g.invariant (rw c.front-g-items.ensures at past)
