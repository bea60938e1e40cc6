-- `text::topic::plain_bytes` meets its contract: what is left is as good as the text from `from` on. Assumes nothing.
use mathlib.Core.Path.{◌≡◌}
use Prim.Native.Nat.{◌≤◌}
use lib.ListN.{length, drop}
use Rattle.text.specs.Utf8.{utf8}
use Rattle.text.specs.declared.topic.Rule.{Rule}
use Rattle.text.specs.Topic.{no_control}
use Rattle.text.proofs.topic.plain_bytes.Given as goal

abbrev pub invariant-loop-k : goal.invariant-loop-k
invariant-loop-k l = (l.k ≤ length l.s) × (utf8 (drop l.k l.s) ≡ utf8 (drop l.from l.s)) × ((rule : Rule) → no_control rule (drop l.k l.s) ≡ no_control rule (drop l.from l.s))
