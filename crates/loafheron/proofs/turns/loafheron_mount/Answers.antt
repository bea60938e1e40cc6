-- `loafheron::turns::loafheron_mount` meets its contract. Assumes nothing.
use Rattle.loafheron.proofs.turns.loafheron_mount.Goals as goal

pub returns : goal.returns
returns c = record { answer = simp (c.mount_reply.ensures, c.mount-m.ensures.answer); entries = c.mount-m.ensures.entries }
