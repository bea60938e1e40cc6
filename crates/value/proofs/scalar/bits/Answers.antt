-- `value::scalar::bits` meets its contract: each arm's callee. Assumes nothing.
use mir.Syntax.{w64}
use mir.Val.{of_z}
use mir.Facts.{to_z-of_z}
use mathlib.Core.Path.{sym, ap, ◌∙◌}
use Rattle.value.specs.Scalars.{bits_of}
use Rattle.value.proofs.scalar.bits.Goals as goal

pub returns-in-Signed : goal.returns-in-Signed
returns-in-Signed c =
    c.signed_bits.ensures ∙ ap (of_z w64) (to_z-of_z {w = w64} {z = c.in-Signed.z} (record { sfits = c.in-Signed.known_told-in-Signed-1-own.given.0.1 }))
    ∙ ap bits_of (sym c.in-Signed.is)

pub returns-in-Float : goal.returns-in-Float
returns-in-Float c = c.float_bits.ensures ∙ ap bits_of (sym c.in-Float.is)
