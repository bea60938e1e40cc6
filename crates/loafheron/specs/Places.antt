-- A place in numbers, as a C program has it.
-- Assumes nothing.
use Rattle.std.specs.Prelude.{cond, List, [], ℕ, eqb, Option, Some, None}
use Rattle.le.specs.Splice.{part}
use Rattle.host.specs.Hosts.{Lent}
use Rattle.mounts.specs.declared.Side.{Side}
use Rattle.mounts.specs.declared.Side.TheVariants.{Card, Staging}
use Rattle.mounts.specs.declared.Place.{Place as Lying}
use Rattle.loafheron.specs.declared.Place.{Place}

-- 1 is the card, 2 the staging
abbrev pub side_number : Side → ℕ
side_number Card = 1
side_number Staging = 2

-- 0 is neither
unfoldable pub place_said : Option Lying → Place
place_said (Some p) = record { buffer = side_number p.side; at = p.at; len = p.len }
place_said None = record { buffer = 0; at = 0; len = 0 }

-- what a caller finds there: "that part of the card or of the staging buffer which is the record"
unfoldable pub buffer_of : ℕ → Lent → List ℕ
buffer_of b l = cond (eqb b 1) l.card (cond (eqb b 2) l.staging [])

unfoldable pub found_at : Lent → Place → List ℕ
found_at l p = part p.at p.len (buffer_of p.buffer l)
