-- `text::topic::plain_front` meets its contract: what is left is as good as the whole. Assumes nothing.
use mathlib.Core.Path.{◌≡◌}
use Prim.Native.Nat.{◌*◌}
use lib.ListN.{drop}
use Rattle.text.specs.Utf8.{utf8}
use Rattle.text.specs.declared.topic.Rule.{Rule}
use Rattle.text.specs.Topic.{no_control}
use Rattle.text.proofs.topic.plain_front.Given as goal

abbrev pub invariant-loop-k : goal.invariant-loop-k
invariant-loop-k l = (utf8 (drop (8 * l.k) l.s) ≡ utf8 l.s) × ((rule : Rule) → no_control rule (drop (8 * l.k) l.s) ≡ no_control rule l.s)
