-- Promises 1 and 2: "No code is given in any other case." What each call asks, and nothing else.
-- Assumes nothing.
use Rattle.std.specs.Prelude.{◌≡◌, true, false, List, ℕ, ◌+◌, ◌^◌, ◌≤◌, length, is_ok}
use Rattle.text.specs.Topic.{good_topic}
use Rattle.text.specs.Flags.{good_flags}
use Rattle.manifest.specs.Saying.{is_good, modules_said, manifest_of, may_read, may_write}
use Rattle.card.specs.Listing.{page_of}
use Rattle.card.specs.Walk.{chain_to}
use Rattle.card.specs.Look.{is_fault, page_by}
use Rattle.weave.specs.declared.Spoiled.TheVariants.{Not}
use Rattle.weave.specs.Codes.{is_fine}
use Rattle.weave.specs.Sums.{added}
use Rattle.weave.specs.Args.{record_fine, write_args, read_args, open_args, next_args, close_handle, topic_fine, filter_fine, out_fine, data_fine, len_fine}
use Rattle.weave.specs.Checks.{handle_fine, slot_fine}
use Rattle.takes.specs.Payloads.{payload_checked}
use Rattle.takes.specs.Pages.{page_code, page_charge}
use Rattle.host.specs.declared.Host.{Host}
use Rattle.host.specs.Hosts.{Lent, index_fine, lent_check}
use Rattle.writes.specs.Stage.{room_fine, is_panic, written_topic, data_len, write_charge}
use Rattle.reads.specs.Reading.{read_topic, read_list}
use Rattle.reads.specs.Paging.{next_look}
use Rattle.promises.specs.Box.{staged_part}

-- check 1, but for the memory
pub record Lawful (l : Lent) (h : Host) : Type 0 where
  -- "other lent lengths that differ from those at mount"
  pub staging-long : length l.staging ≡ h.lengths.staging
  pub card-long : length l.card ≡ h.lengths.card
  pub text-long : length l.text ≡ h.lengths.«manifest»
  -- "a bad manifest"
  pub good : is_good (manifest_of l.text) ≡ true
  -- "a used length above the card's, staged bytes above the staging's"
  pub used : h.used ≤ length l.card
  pub staged : h.weave.staged ≤ length l.staging
  -- "a next number .. outside 1 to 2^63, alone or with the staged events added"
  pub least : 1 ≤ h.next.0
  pub numbers : h.next.0 + h.weave.count ≤ 2 ^ 63
  -- "in a weave, a turn outside 1 to the module count"
  pub turn-least : h.weave.running ≡ true → 1 ≤ h.weave.turn
  pub turn-most : h.weave.running ≡ true → h.weave.turn ≤ modules_said (manifest_of l.text)

pub record BeginMay (l : Lent) (h : Host) (args : List ℕ) : Type 0 where
  pub check-1 : is_fine (lent_check l h) ≡ true
  -- "no weave running (begin: one is running)"
  pub idle : h.weave.running ≡ false
  -- "begin on a faulted process"
  pub healthy : h.faulted ≡ false
  -- "128 bytes of FilamentWeaveArgs (any other length -5)"
  pub long : length args ≡ 128

pub record IngressMay (l : Lent) (h : Host) (topic payload : List ℕ) : Type 0 where
  pub check-1 : is_fine (lent_check l h) ≡ true
  pub running : h.weave.running ≡ true
  -- "only before the first accepted module call or return of the weave"
  pub early : h.weave.late ≡ false
  pub topic-good : good_topic topic ≡ true
  pub room : room_fine h (length topic) (length payload) (length l.staging) ≡ true

-- checks 1 to 3 of a module call, whose memory has so many bytes
pub record Gated (l : Lent) (h : Host) (size : ℕ) : Type 0 where
  pub memory : size ≤ 1048576
  pub check-1 : is_fine (lent_check l h) ≡ true
  pub running : h.weave.running ≡ true
  pub unspoiled : h.weave.spoiled.0 ≡ Not

-- by a charge rule
pub record WriteMay (charge : ℕ → ℕ) (l : Lent) (h : Host) (m : List ℕ) (a : ℕ) : Type 0 where
  pub gated : Gated l h (length m)
  pub args : record_fine m a 40 ≡ true
  pub topic : topic_fine m (write_args m a).topic ≡ true
  pub flags : good_flags (write_args m a).flags ≡ true
  pub payload : data_fine m (write_args m a) ≡ true
  pub value_len : len_fine (write_args m a) ≡ true
  -- "topic not granted"
  pub granted : may_write l.text h.weave.turn (written_topic m a) ≡ true
  pub value : is_ok (payload_checked m (write_args m a)) ≡ true
  -- a panic counts "once through check 8"
  pub room : is_panic m a ≡ false → room_fine h (write_args m a).topic.len (data_len m a) (length l.staging) ≡ true
  -- "If units + charge > res_max the call is -6"
  pub budget : is_panic m a ≡ false → h.weave.units + write_charge charge m a ≤ h.weave.resmax

pub record ReadMay (l : Lent) (h : Host) (m : List ℕ) (a : ℕ) : Type 0 where
  pub gated : Gated l h (length m)
  pub args : record_fine m a 40 ≡ true
  pub topic : topic_fine m (read_args m a).topic ≡ true
  pub out : out_fine m (read_args m a).out ≡ true
  pub granted : may_read l.text h.weave.turn (read_topic m a) ≡ true
  pub sound : chain_to (staged_part l h) h.next.0 (added h.next.0 h.weave.count (2 ^ 63)) ≡ true
  -- "out buffer shorter than the next record"
  pub room : is_fine (page_code (page_of (read_args m a).out.len (read_list l h m a))) ≡ true
  pub budget : h.weave.units + page_charge (page_of (read_args m a).out.len (read_list l h m a)) ≤ h.weave.resmax

pub record OpenMay (l : Lent) (h : Host) (m : List ℕ) (a : ℕ) : Type 0 where
  pub gated : Gated l h (length m)
  pub args : record_fine m a 48 ≡ true
  pub filter : filter_fine m (open_args m a).topic ≡ true
  -- "desc .. above 1: -5"
  pub desc : (open_args m a).desc ≤ 1
  -- "-4 exactly when 4 are open or 65,535 have been opened"
  pub room : slot_fine h.weave ≡ true
  pub budget : h.weave.units + 1 ≤ h.weave.resmax

-- with the table that is lent beside the card
pub record NextMay (l : Lent) (table : List ℕ) (h : Host) (m : List ℕ) (a : ℕ) : Type 0 where
  -- check 1: as long as at mount
  pub table-long : index_fine table h ≡ true
  pub gated : Gated l h (length m)
  pub args : record_fine m a 24 ≡ true
  pub out : out_fine m (next_args m a).out ≡ true
  pub handle : handle_fine h.weave (next_args m a).handle ≡ true
  -- each record that is looked at is sound and has its number
  pub sound : is_fault (next_look l table h m a).stop ≡ false
  pub room : is_fine (page_code (page_by (next_look l table h m a))) ≡ true
  pub budget : h.weave.units + page_charge (page_by (next_look l table h m a)) ≤ h.weave.resmax

pub record CloseMay (l : Lent) (h : Host) (m : List ℕ) (a : ℕ) : Type 0 where
  pub gated : Gated l h (length m)
  pub args : record_fine m a 8 ≡ true
  pub handle : handle_fine h.weave (close_handle m a) ≡ true
  pub budget : h.weave.units + 1 ≤ h.weave.resmax
