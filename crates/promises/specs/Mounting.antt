-- Mount: "takes staging, card, manifest and the used length, and refuses, its state all 0 (..) or gives a fresh state".
-- Assumes nothing.
use Rattle.std.specs.Prelude.{◌≡◌, false, ◌&&◌, List, [], ◌∷◌, ℕ, leb, eqb, length}
use Rattle.manifest.specs.Saying.{is_good, manifest_of}
use Rattle.card.specs.Records.{size}
use Rattle.weave.specs.declared.Code.TheVariants.{Unsound, Bad}
use Rattle.weave.specs.declared.Lengths.{Lengths}
use Rattle.weave.specs.States.{fresh_weave}
use Rattle.host.specs.declared.Host.{Host}
use Rattle.host.specs.Hosts.{Lent}
use Rattle.promises.specs.Box.{records_on}
use Rattle.promises.specs.Checks.{Check, check}

-- what is asked, and the code where it fails
abbrev pub mount_checks : Lent → List ℕ → ℕ → List Check
mount_checks l table used =
    -- "-5: sizes, used length or manifest": "staging 65,536 to 1,048,576; card 0 to 16,777,216"
    check (leb 65536 (length l.staging) && (leb (length l.staging) 1048576 && leb (length l.card) 16777216)) Bad
    ∷ check (leb used (length l.card)) Bad
    ∷ check (is_good (manifest_of l.text)) Bad
    -- "-3": the used bytes are sound records numbered from 1 on, and nothing else
    ∷ check (eqb (size (records_on l.card used)) used) Unsound
    -- 02, A9: "a table shorter than the records needed -5 at mount, after -3"
    ∷ check (leb (length (records_on l.card used)) (length table)) Bad
    ∷ []

-- a state outside a weave, with these lengths, the table's too, used length and next number; "its state all 0" is that of none
pub record StateOf (h : Host) (lengths' : Lengths) (index' used' next' : ℕ) : Type 0 where
  pub lengths : h.lengths ≡ lengths'
  pub index : h.index ≡ index'
  pub used : h.used ≡ used'
  pub next : h.next.0 ≡ next'
  pub healthy : h.faulted ≡ false
  pub weave : h.weave ≡ fresh_weave

abbrev pub no_lengths : Lengths
no_lengths = record { staging = 0; card = 0; «manifest» = 0 }
