-- `cases::run` meets its contract: the calls that are still to come, behind those that were, are a run over all lines. Assumes nothing.
use Rattle.std.proofs.Common.{length}
use Rattle.std.specs.List.{FoldsTo}
use Rattle.text.specs.Lines.{lines}
use Rattle.cases.specs.Run.{Called}
use Rattle.cases.proofs.run.Given as goal

abbrev pub invariant-loop-rest : goal.invariant-loop-rest
invariant-loop-rest g l =
    goal.F-IsAlwaysCallable g l.case
    × ((last : _) → FoldsTo (Called g.F.FnMut) (l.case, l.streams) (lines l.rest) last
    → FoldsTo (Called g.F.FnMut) (l.initial.case, l.initial.streams) (lines l.initial.rest) last)

abbrev pub decreases-loop-rest : goal.decreases-loop-rest
decreases-loop-rest g l = length l.rest
