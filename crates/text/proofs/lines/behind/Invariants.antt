-- `text::lines::behind` meets its contract: the fields behind `at`, but for as many as there are turns left, are those of the line from field k on.
-- Assumes nothing.
use mathlib.Core.Path.{◌≡◌}
use Prim.Native.Nat.{◌≤◌, ◌-◌}
use lib.ListN.{length, drop}
use Rattle.text.specs.Lines.{fields}
use Rattle.text.proofs.lines.behind.Given as goal

abbrev pub invariant-loop : goal.invariant-loop
invariant-loop l = (l.at ≤ length l.line) × (drop (l.k - l.counter) (fields (drop l.at l.line)) ≡ drop l.k (fields l.line))
