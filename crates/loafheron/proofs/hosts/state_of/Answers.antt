-- `loafheron::hosts::state_of` meets its contract. Assumes nothing.
use Rattle.loafheron.proofs.CrossingLaws.{flag-byte, mark-crosses}
use Rattle.loafheron.specs.Crossing.{state_of}
use Rattle.loafheron.proofs.hosts.state_of.Goals as goal

pub returns : goal.returns
unfolding state_of
returns c =
    simp (c.from-faulted.ensures, c.from-running.ensures, mark-crosses _ _ c.mark_of-spoiled.ensures, c.from-late.ensures, flag-byte, c.rooms_of-rooms.ensures)
