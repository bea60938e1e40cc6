-- A return's answer: document 01's number for each of its cases, and its values.
-- Assumes nothing.
use Rattle.std.specs.Prelude.{Bool, true, false, ℕ, ℤ, pos}
use Rattle.weave.specs.Codes.{number}
use Rattle.host.specs.declared.Fate.{Fate}
use Rattle.host.specs.declared.Fate.TheVariants.{Refused, Discarded, Running, Committed}

-- the code of a refusal, "discard with its reason"; 0 where the next module has its turn, and where all is committed
abbrev pub fate_number : Fate → ℤ
fate_number (Refused c) = number c
fate_number (Discarded c) = number c
fate_number Running = pos 0
fate_number (Committed events bytes) = pos 0

-- "The outcome gives events and bytes": none where nothing is put onto the card
abbrev pub fate_events : Fate → ℕ
fate_events (Refused c) = 0
fate_events (Discarded c) = 0
fate_events Running = 0
fate_events (Committed events bytes) = events

abbrev pub fate_bytes : Fate → ℕ
fate_bytes (Refused c) = 0
fate_bytes (Discarded c) = 0
fate_bytes Running = 0
fate_bytes (Committed events bytes) = bytes

-- the weave is over: "Both leave staging all 0."
abbrev pub ends : Fate → Bool
ends (Refused c) = false
ends (Discarded c) = true
ends Running = false
ends (Committed events bytes) = true
