-- The contracts of the operations themselves, as the check has them of the code (`Learnt`: what a caller learns of the result and of the parameters at
-- exit): what meets one is its case of `step`. So the promises are about the code. (That two results that meet one are equal: Determined.antt.)
-- Assumes nothing.
use mathlib.Core.Path.{◌≡◌, sym, ap}
use mathlib.Core.List.{List, []}
use Prim.Native.Nat.{ℕ}
use borrow.Fn.Kinds.{Dens, res_t, ended_of}
use denote.Triple.Clauses.{AtExit}
use contract.Lifetimes.{Lfts}
use Rattle.host.proofs as host
use Rattle.mounts.proofs as mounts
use Rattle.writes.proofs as writes
use Rattle.reads.proofs as reads
use Rattle.host.specs.Hosts.{lent_as}
use Rattle.mounts.specs.Mount.{mounted}
use Rattle.promises.specs.Box.{Begin, Ingress, Write, Read, Open, Next, Close, Return, LookUp, Answered, Ended, Part, box_of, step, mounted_as}

-- ---- mount

module _ (κs : Lfts 4) (a : Dens κs mounts.mount.mount.Kinds.ps) where
  pub mount-says : (r : (res_t mounts.mount.mount.Kinds.r κs).Denot) (s : AtExit (ended_of 4 mounts.mount.mount.Kinds.ps mounts.mount.mount.Kinds.r) κs) → mounts.mount.mount.Reads.Learnt κs a r s
      → mounted (lent_as a.0.now a.1.0.now a.1.1.0.now) a.1.1.1.0.now a.1.1.1.1.0 ≡ r
  mount-says r s p = sym p.0

  pub mount-starts : (r : (res_t mounts.mount.mount.Kinds.r κs).Denot) (s : AtExit (ended_of 4 mounts.mount.mount.Kinds.ps mounts.mount.mount.Kinds.r) κs) → mounts.mount.mount.Reads.Learnt κs a r s
      → mounted_as (lent_as a.0.now a.1.0.now a.1.1.0.now) a.1.1.1.0.now a.1.1.1.1.0
      ≡ box_of r.host (lent_as a.0.now a.1.0.now a.1.1.0.now) s.1.1.1.0.now
  mount-starts r s p = rw (p.0, p.1)

-- (A table that is not lent is any table, and stays.)

-- ---- begin

module _ (κs : Lfts 4) (a : Dens κs host.Host.begin.Kinds.ps) (table : List ℕ) where
  pub begin-steps : (r : (res_t host.Host.begin.Kinds.r κs).Denot) (s : AtExit (ended_of 4 host.Host.begin.Kinds.ps host.Host.begin.Kinds.r) κs) → host.Host.begin.Reads.Learnt κs a r s
      → step (box_of a.0 (lent_as a.1.0.now a.1.1.0.now a.1.1.1.0.now) table) (Begin a.1.1.1.1.0.now)
      ≡ record {
        said = Answered r.code r.value;
        field = r.field;
        world = box_of r.host (lent_as s.1.0.now a.1.1.0.now a.1.1.1.0.now) table;
        memory = [];
      }
  unfolding step
  begin-steps r s p = rw (p.0, p.1)

-- ---- ingress

module _ (κs : Lfts 5) (a : Dens κs writes.stage.ingress.Kinds.ps) (table : List ℕ) where
  pub ingress-steps : (r : (res_t writes.stage.ingress.Kinds.r κs).Denot) (s : AtExit (ended_of 5 writes.stage.ingress.Kinds.ps writes.stage.ingress.Kinds.r) κs) → writes.stage.ingress.Reads.Learnt κs a r s
      → step (box_of a.0 (lent_as a.1.0.now a.1.1.0.now a.1.1.1.0.now) table) (Ingress a.1.1.1.1.0.now a.1.1.1.1.1.0.now)
      ≡ record {
        said = Answered r.code r.value;
        field = r.field;
        world = box_of r.host (lent_as s.1.0.now a.1.1.0.now a.1.1.1.0.now) table;
        memory = [];
      }
  unfolding step
  ingress-steps r s p = rw (p.0, p.1)

-- ---- write

module _ (κs : Lfts 4) (a : Dens κs writes.write.write.Kinds.ps) (table : List ℕ) where
  pub write-steps : (r : (res_t writes.write.write.Kinds.r κs).Denot) (s : AtExit (ended_of 4 writes.write.write.Kinds.ps writes.write.write.Kinds.r) κs) → writes.write.write.Reads.Learnt κs a r s
      → step (box_of a.0 (lent_as a.1.1.0.now a.1.1.1.0.now a.1.1.1.1.0.now) table) (Write a.1.0.now a.1.1.1.1.1.0)
      ≡ record {
        said = Answered r.code r.value;
        field = r.field;
        world = box_of r.host (lent_as s.1.1.0.now a.1.1.1.0.now a.1.1.1.1.0.now) table;
        memory = a.1.0.now;
      }
  unfolding step
  write-steps r s p = rw (p.0, p.1)

-- ---- read

module _ (κs : Lfts 4) (a : Dens κs reads.read.read.Kinds.ps) (table : List ℕ) where
  pub read-steps : (r : (res_t reads.read.read.Kinds.r κs).Denot) (s : AtExit (ended_of 4 reads.read.read.Kinds.ps reads.read.read.Kinds.r) κs) → reads.read.read.Reads.Learnt κs a r s
      → step (box_of a.0 (lent_as a.1.1.0.now a.1.1.1.0.now a.1.1.1.1.0.now) table) (Read a.1.0.now a.1.1.1.1.1.0)
      ≡ record {
        said = Answered r.code r.value;
        field = r.field;
        world = box_of r.host (lent_as a.1.1.0.now a.1.1.1.0.now a.1.1.1.1.0.now) table;
        memory = s.1.0.now;
      }
  unfolding step
  read-steps r s p = rw (p.0, p.1)

-- ---- tl_open

module _ (κs : Lfts 4) (a : Dens κs host.Host.open.Kinds.ps) (table : List ℕ) where
  pub open-steps : (r : (res_t host.Host.open.Kinds.r κs).Denot) (s : AtExit (ended_of 4 host.Host.open.Kinds.ps host.Host.open.Kinds.r) κs) → host.Host.open.Reads.Learnt κs a r s
      → step (box_of a.0 (lent_as a.1.1.0.now a.1.1.1.0.now a.1.1.1.1.0.now) table) (Open a.1.0.now a.1.1.1.1.1.0)
      ≡ record {
        said = Answered r.code r.value;
        field = r.field;
        world = box_of r.host (lent_as a.1.1.0.now a.1.1.1.0.now a.1.1.1.1.0.now) table;
        memory = a.1.0.now;
      }
  unfolding step
  open-steps r s p = rw p

-- ---- tl_next

module _ (κs : Lfts 5) (a : Dens κs reads.next.next.Kinds.ps) where
  pub next-steps : (r : (res_t reads.next.next.Kinds.r κs).Denot) (s : AtExit (ended_of 5 reads.next.next.Kinds.ps reads.next.next.Kinds.r) κs) → reads.next.next.Reads.Learnt κs a r s
      → step (box_of a.0 (lent_as a.1.1.0.now a.1.1.1.0.now a.1.1.1.1.0.now) a.1.1.1.1.1.0.now) (Next a.1.0.now a.1.1.1.1.1.1.0)
      ≡ record {
        said = Answered r.code r.value;
        field = r.field;
        world = box_of r.host (lent_as a.1.1.0.now a.1.1.1.0.now a.1.1.1.1.0.now) a.1.1.1.1.1.0.now;
        memory = s.1.0.now;
      }
  unfolding step
  next-steps r s p = rw (p.0, p.1)

-- ---- tl_close

module _ (κs : Lfts 4) (a : Dens κs host.Host.close.Kinds.ps) (table : List ℕ) where
  pub close-steps : (r : (res_t host.Host.close.Kinds.r κs).Denot) (s : AtExit (ended_of 4 host.Host.close.Kinds.ps host.Host.close.Kinds.r) κs) → host.Host.close.Reads.Learnt κs a r s
      → step (box_of a.0 (lent_as a.1.1.0.now a.1.1.1.0.now a.1.1.1.1.0.now) table) (Close a.1.0.now a.1.1.1.1.1.0)
      ≡ record {
        said = Answered r.code r.value;
        field = r.field;
        world = box_of r.host (lent_as a.1.1.0.now a.1.1.1.0.now a.1.1.1.1.0.now) table;
        memory = a.1.0.now;
      }
  unfolding step
  close-steps r s p = rw p

-- ---- module return

module _ (κs : Lfts 4) (a : Dens κs host.Host.module_return.Kinds.ps) where
  pub return-steps : (r : (res_t host.Host.module_return.Kinds.r κs).Denot) (s : AtExit (ended_of 4 host.Host.module_return.Kinds.ps host.Host.module_return.Kinds.r) κs) → host.Host.module_return.Reads.Learnt κs a r s
      → step (box_of a.0 (lent_as a.1.0.now a.1.1.0.now a.1.1.1.0.now) a.1.1.1.1.0.now) (Return a.1.1.1.1.1.0)
      ≡ record {
        said = Ended r.fate;
        field = 0;
        world = box_of r.host (lent_as s.1.0.now s.1.1.0.now a.1.1.1.0.now) s.1.1.1.1.0.now;
        memory = [];
      }
  unfolding step
  return-steps r s p = rw (p.0, p.1.0, p.1.1.0, p.1.1.1)

-- ---- look-up: of the part that it shows, the bytes

module _ (κs : Lfts 3) (a : Dens κs mounts.look.look_up.Kinds.ps) where
  pub look-up-steps : (r : (res_t mounts.look.look_up.Kinds.r κs).Denot) (s : AtExit (ended_of 3 mounts.look.look_up.Kinds.ps mounts.look.look_up.Kinds.r) κs) → mounts.look.look_up.Reads.Learnt κs a r s
      → (step (box_of a.0 (lent_as a.1.0.now a.1.1.0.now a.1.1.1.0.now) a.1.1.1.1.0.now) (LookUp a.1.1.1.1.1.0.0)).said ≡ Part r.now
  unfolding step
  look-up-steps r s p = ap Part (sym p)
