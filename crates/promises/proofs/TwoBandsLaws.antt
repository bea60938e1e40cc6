-- One call in two boxes that differ in their cards' bytes alone. Every call but a next and a look-up asks for no more than the card's length; a next does the same in both where the cards
-- are alike for the module whose turn it is.
-- Assumes nothing.
use mathlib.Core.Path.{◌≡◌, sym, ◌∙◌}
use mathlib.Core.List.{List}
use Prim.Native.Nat.{ℕ}
use lib.IntN.{ℤ}
use lib.ListN.{length}
use Rattle.manifest.specs.Saying.{may_read}
use Rattle.card.proofs.RecordsLaws.{records-rise}
use Rattle.card.proofs.SeenLaws.{lists-same}
use Rattle.weave.specs.Args.{next_args}
use Rattle.host.specs.declared.Host.{Host}
use Rattle.host.specs.Hosts.{Lent, lent_as, lengths_of, index_fine, lent_check, indexed_check, gate_check}
use Rattle.host.specs.Begin.{begin_check, begin_answer, begin_staging}
use Rattle.host.specs.Cursors.{open_check, open_answer, close_check, close_answer}
use Rattle.host.specs.Ending.{return_check, last_check, fate_of, return_answer, return_staging}
use Rattle.writes.specs.Stage.{ingress_checks, ingress_answer, ingress_staging, write_checks, write_check, write_answer, write_staging}
use Rattle.reads.specs.Reading.{read_checks, read_sound, read_list, read_page, read_check, read_answer, read_memory}
use Rattle.reads.specs.Paging.{next_checks, next_found, next_look, next_list, next_answer, next_memory, walk_look}
use Rattle.reads.proofs.IndexedLaws.{look-walks}
use Rattle.promises.specs.Box.{World, Op, Begin, Ingress, Write, Read, Open, Next, Close, Return, LookUp, Step, step}
use Rattle.promises.specs.TwoBands.{Beside, CardsAlike}
use Rattle.promises.specs.SideBySide.{KeepsTo}

-- the box with another card and its table, and so after a call
abbrev pub with_card : World → List ℕ → List ℕ → World
with_card w card' table' = record { host = w.host; lent = lent_as w.lent.staging card' w.lent.text; index = table'; charge = w.charge }

abbrev pub step_with : Step → List ℕ → List ℕ → Step
step_with s card' table' = record { said = s.said; field = s.field; world = with_card s.world card' table'; memory = s.memory }

module _ (w : World) (card' table' : List ℕ) (long : length w.lent.card ≡ length card') (entries : length w.index ≡ length table') where
  abbrev w' : World
  w' = with_card w card' table'

  abbrev table : List ℕ
  table = w.index

  abbrev l : Lent
  l = w.lent

  abbrev l' : Lent
  l' = w'.lent

  abbrev h : Host
  h = w.host

  -- ---- check 1 asks for the card's length
  lent_same : lent_check l' h ≡ lent_check l h
  unfolding lent_check lengths_of
  lent_same = rw long

  gate_same : (n : ℕ) → gate_check l' h n ≡ gate_check l h n
  unfolding gate_check
  gate_same n = rw lent_same

  begin-same : (args : List ℕ) → begin_check l' h args ≡ begin_check l h args
  unfolding begin_check
  begin-same args = rw lent_same

  ingress-same : (topic payload : List ℕ) → ingress_checks l' h topic payload ≡ ingress_checks l h topic payload
  unfolding ingress_checks
  ingress-same topic payload = rw lent_same

  -- .. and for its table's
  index_same : index_fine table' h ≡ index_fine table h
  unfolding index_fine
  index_same = rw entries

  -- and so does the room for a commit
  fate-same : (code : ℤ) → fate_of l' table' h code ≡ fate_of l table h code
  unfolding fate_of return_check indexed_check last_check
  fate-same code = rw (lent_same, index_same, long, entries)

  module _ (m : List ℕ) (a : ℕ) where
    write_same : write_check w.charge l' h m a ≡ write_check w.charge l h m a
    unfolding write_checks
    write_same = rw (gate_same (length m))

    read-sound : read_sound l' h m a ≡ read_sound l h m a
    unfolding read_checks
    read-sound = rw (gate_same (length m))

    read-page : read_page l' h m a ≡ read_page l h m a
    unfolding read_page read_list
    read-page = rw read-sound

    read_same : read_check l' h m a ≡ read_check l h m a
    unfolding read_check
    read_same = rw (read-sound, read-page)

    open-same : open_check l' h m a ≡ open_check l h m a
    unfolding open_check
    open-same = rw (gate_same (length m))

    close-same : close_check l' h m a ≡ close_check l h m a
    unfolding close_check
    close-same = rw (gate_same (length m))

    next-found : next_found l' table' h m a ≡ next_found l table h m a
    unfolding next_checks
    next-found = rw (gate_same (length m), index_same)

    -- ---- a next: both cards are sound, and both give it the same list; by either table it finds what the walk finds
    module _ (c : CardsAlike h.weave.turn w w') where
      list_same : next_list l' h (next_args m a).handle ≡ next_list l h (next_args m a).handle
      unfolding next_list
      list_same =
          sym (lists-same (may_read l.text h.weave.turn) _ _ (records-rise _ _) (records-rise _ _) c.agree _)

      next-look-same : next_look l' table' h m a ≡ next_look l table h m a
      unfolding walk_look
      next-look-same =
          look-walks l' table' h c.sound₂.sound c.sound₂.fits m a ∙ (rw (c.sound₁.sound, c.sound₂.sound, list_same))
          ∙ sym (look-walks l table h c.sound₁.sound c.sound₁.fits m a)

  -- THE LAW: a call says the same in both, and leaves the same but for the card
  pub step_same : (listeners : ℕ → Type 0) → ((k : ℕ) → listeners k → CardsAlike k w w') → (o : Op) → KeepsTo listeners w o → step w' o ≡ step_with (step w o) (step w' o).world.lent.card (step w' o).world.index
  unfolding step begin_answer begin_staging ingress_answer ingress_staging write_answer write_staging read_answer read_memory read_list open_answer close_answer next_answer next_memory return_answer return_staging
  step_same listeners cards (Begin args) k = rw (begin-same args)
  step_same listeners cards (Ingress topic payload) k = rw (ingress-same topic payload)
  step_same listeners cards (Write m a) k = rw (write_same m a)
  step_same listeners cards (Read m a) k = rw (read_same m a, read-page m a)
  step_same listeners cards (Open m a) k = rw (open-same m a)
  step_same listeners cards (Next m a) k = rw (next-found m a, next-look-same m a (cards h.weave.turn k))
  step_same listeners cards (Close m a) k = rw (close-same m a)
  step_same listeners cards (Return code) k = rw (fate-same code)
  step_same listeners cards (LookUp id) k = absurd k

-- ---- the second of two boxes is the first, with a card and a table of its own
pub is-with : (w₁ w₂ : World) → Beside w₁ w₂ → with_card w₁ w₂.lent.card w₂.index ≡ w₂
is-with w₁ w₂ b = λ i. record { host = b.state i; lent = lent_as (b.staging i) w₂.lent.card (b.text i); index = w₂.index; charge = b.charge i }
