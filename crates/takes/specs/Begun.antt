-- What begin makes of its arguments: "128 bytes of FilamentWeaveArgs .. Used are res_max at 24, virt_time at 48, trace at 56."
-- Assumes nothing.
use Rattle.std.specs.Prelude.{cond, List, ℕ, eqb, length}
use Rattle.le.specs.Le.{le_at}
use Rattle.le.specs.Splice.{part, splice, zeros}
use Rattle.weave.specs.declared.Weave.{Weave}
use Rattle.weave.specs.States.{begun_weave}

-- a number of the arguments, 0 where they are not 128 bytes
unfoldable pub arg_at : List ℕ → ℕ → ℕ
arg_at args off = cond (eqb (length args) 128) (le_at 8 args off) 0

unfoldable pub trace_of : List ℕ → List ℕ
trace_of args = splice (zeros 32) 0 (part 56 32 args)

unfoldable pub begun : List ℕ → Weave
begun args = begun_weave (arg_at args 24) (record { 0 = arg_at args 48 }) (trace_of args)
