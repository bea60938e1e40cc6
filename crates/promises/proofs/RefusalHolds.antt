-- Promise 1: what a mark does, and the bytes that read and next change. (That a refusal changes nothing else is `refused` of MovesHold.)
-- Assumes nothing.
use mathlib.Core.Path.{◌≡◌, refl, ◌∙◌}
use mathlib.Core.Bool.{Bool, true, false, cond}
use mathlib.Core.List.{List, [], ◌∷◌}
use Prim.Native.Nat.{ℕ, ◌+◌}
use native.Mathlib.Omega.{arith}
use lib.Dec.{leb}
use lib.ListN.{length}
use Rattle.le.specs.Splice.{splice}
use Rattle.le.proofs.SpliceLaws.{length-splice, take-splice-before, drop-splice-after}
use Rattle.record.specs.Shown.{shown_from}
use Rattle.card.specs.Records.{size}
use Rattle.card.specs.Listing.{fit, page_of}
use Rattle.card.specs.declared.Page.TheVariants.{Short, Bytes}
use Rattle.card.proofs.PageLaws.{length-shown_from}
use Rattle.weave.specs.declared.Code.{Code}
use Rattle.weave.specs.declared.Spoiled.TheVariants.{Overspent}
use Rattle.weave.specs.Codes.{is_budget}
use Rattle.weave.specs.Findings.{is_clear}
use Rattle.weave.specs.States.{spoilt}
use Rattle.weave.specs.Args.{next_args, read_args}
use Rattle.weave.proofs.CodeLaws.{found_left}
use Rattle.takes.specs.Pages.{page_bytes}
use Rattle.takes.proofs.NotedLaws.{page-size}
use Rattle.host.specs.declared.Host.{Host}
use Rattle.host.specs.Hosts.{Lent, with_weave, settle}
use Rattle.reads.specs.Reading.{read_sound, read_page, read_check, read_answer, read_memory}
use Rattle.reads.specs.Paging.{next_found, next_look, next_part, page_found, next_page, next_check, answer_by, memory_by, next_answer, next_memory}
use Rattle.reads.proofs.PagingLaws.{check-before, check_sound}
use Rattle.promises.specs.Refusal.{marked, OnlyThere}

-- "the first -6": a further one finds the mark there, and changes nothing
pub marked-once : (c : Code) (h : Host) → h.weave.spoiled.0 ≡ Overspent → marked c h ≡ h
unfolding spoilt with_weave
marked-once c h e = go (is_budget c)
  where
    go : (b : Bool) → cond b (with_weave h (spoilt h.weave Overspent)) h ≡ h
    go true = rw (← e)
    go false = refl

-- ---- "Read and tl_next change no memory byte but those"

pub laid-there : (m : List ℕ) (at : ℕ) (bytes : List ℕ) (n : ℕ) → length bytes ≡ n → OnlyThere m (splice m at bytes) at n
laid-there m at bytes n e = record {
  before = take-splice-before at m at bytes (omega arith);
  behind = drop-splice-after (at + n) m at bytes (omega (arith, e));
  long = length-splice m at bytes;
}

-- a page's bytes in memory are as many as its page_bytes says
pub page-long : (at cap : ℕ) (l : List (List ℕ)) → length (shown_from at (fit cap l)) ≡ page_bytes (page_of cap l)
unfolding page_of fit
page-long at cap [] = length-shown_from at []
page-long at cap (r ∷ t) = length-shown_from at (fit cap (r ∷ t)) ∙ go (leb (length r) cap) refl
  where
    go : (b : Bool) → leb (length r) cap ≡ b → size (fit cap (r ∷ t)) ≡ page_bytes (cond b (Bytes (size (fit cap (r ∷ t)))) Short)
    go true e = refl
    go false e = rw e

-- .. and so of a look whose records are sound
module _ (l : Lent) (table : List ℕ) (h : Host) (m : List ℕ) (a : ℕ) where
  pub look_bytes : is_clear (next_check l table h m a) ≡ true → page_bytes (next_page l table h m a) ≡ size (next_part l table h m a)
  unfolding page_found
  look_bytes f =
      let k = next_look l table h m a in
      rw (check-before h (next_found l table h m a) k f) (page-size k (check_sound h (next_found l table h m a) k f))

  -- next, not refused: the bytes that it answers, from out_ptr on
  pub next-there : is_clear (next_check l table h m a) ≡ true → OnlyThere m (next_memory l table h m a) (next_args m a).out.ptr (next_answer l table h m a).value
  unfolding next_memory memory_by next_answer answer_by settle
  next-there f =
      rw (f, look_bytes f) (laid-there m (next_args m a).out.ptr _ _ (length-shown_from (next_args m a).out.ptr (next_part l table h m a)))

module _ (l : Lent) (h : Host) (m : List ℕ) (a : ℕ) where
  pub read-there : is_clear (read_check l h m a) ≡ true → OnlyThere m (read_memory l h m a) (read_args m a).out.ptr (read_answer l h m a).value
  unfolding read_memory read_answer settle read_page read_check
  read-there f = rw (f, found_left (read_sound l h m a) _ f) (laid-there m (read_args m a).out.ptr _ _ (page-long (read_args m a).out.ptr (read_args m a).out.len _))
