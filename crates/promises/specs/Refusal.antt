-- Promise 1: "a refusal changes no lent byte and, but for the spoiled mark, no state".
-- Assumes nothing.
use Rattle.std.specs.Prelude.{◌≡◌, cond, List, ℕ, ◌+◌, length, take, drop}
use Rattle.weave.specs.declared.Code.{Code}
use Rattle.weave.specs.declared.Spoiled.TheVariants.{Overspent}
use Rattle.weave.specs.Codes.{is_budget}
use Rattle.weave.specs.States.{spoilt}
use Rattle.host.specs.declared.Host.{Host}
use Rattle.host.specs.Hosts.{with_weave}
use Rattle.promises.specs.Box.{World, Op, Step, memory_of, code_of}

-- the state that a refusal leaves: "the first -6 marks the weave spoiled"
abbrev pub marked : Code → Host → Host
marked c h = cond (is_budget c) (with_weave h (spoilt h.weave Overspent)) h

-- every lent byte and the state are as before, but for the mark
pub record Unchanged (w : World) (o : Op) (s : Step) : Type 0 where
  pub lent : s.world.lent ≡ w.lent
  pub index : s.world.index ≡ w.index
  pub memory : s.memory ≡ memory_of o
  pub host : s.world.host ≡ marked (code_of s.said) w.host

-- m is as it was but for n bytes from `at` on: "Read and tl_next change no memory byte but those"
pub record OnlyThere (was is : List ℕ) (at n : ℕ) : Type 0 where
  pub before : take at is ≡ take at was
  pub behind : drop (at + n) is ≡ drop (at + n) was
  pub long : length is ≡ length was
