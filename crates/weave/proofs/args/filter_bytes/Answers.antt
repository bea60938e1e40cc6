-- `weave::args::filter_bytes` meets its contract. Assumes nothing.
use native.Mathlib.Omega.{arith}
use lib.ListN.{length-take}
use Rattle.weave.specs.Args.{filter_bytes}
use Rattle.weave.proofs.args.filter_bytes.Goals as goal

pub copy_at-requires : goal.copy_at-requires
copy_at-requires c = rw (c.front.ensures, length-take) (omega arith)

pub returns : goal.returns
unfolding filter_bytes
returns c =
    rw (c.front.ensures, c.bytes_at.ensures) at c.copy_at.ensures
