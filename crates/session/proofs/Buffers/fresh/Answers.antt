-- `session::Buffers::fresh` meets its contract. Assumes nothing.
use mathlib.Core.Path.{refl}
use Rattle.session.specs.Sessions.{no_bytes}
use Rattle.session.proofs.Buffers.fresh.Goals as goal

pub returns : goal.returns
unfolding no_bytes
returns c = refl
