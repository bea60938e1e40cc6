-- A call's answer, the buffers and what is printed, put together.
-- Assumes nothing.
use mathlib.Core.Path.{◌≡◌, ap, ◌∙◌}
use mathlib.Core.List.{List, ◌++◌}
use Prim.Native.Nat.{ℕ}
use lib.IntN.{ℤ}
use lib.ListN.{take}
use Rattle.le.specs.Splice.{part}
use Rattle.manifest.specs.Saying.{charge_of}
use Rattle.host.specs.declared.Answer.{Answer}
use Rattle.host.specs.declared.Returned.{Returned}
use Rattle.host.specs.Hosts.{lent_as}
use Rattle.host.specs.Begin.{begin_answer, begin_staging}
use Rattle.writes.specs.Stage.{write_answer, write_staging}
use Rattle.host.specs.Cursors.{open_answer}
use Rattle.reads.specs.Paging.{next_answer, next_memory}
use Rattle.host.specs.Ending.{return_answer, return_card, return_staging, return_index}
use Rattle.script.specs.Words.{begin_word, write_word, open_word, next_word}
use Rattle.script.specs.Laying.{begin_laid}
use Rattle.script.specs.Saying.{Put, said_answer}
use Rattle.session.specs.Fates.{said_fate}
use Rattle.script.specs.Events.{event_lines}
use Rattle.session.specs.Calls.{begin_after, write_after, open_after, next_after, return_after}
use Rattle.session.specs.Sessions.{Answers, became, called, lent_of}
use Rattle.session.specs.declared.Buffers.{Buffers}
use Rattle.session.specs.declared.Phase.TheVariants.{Playing}
use Rattle.session.specs.declared.Session.{Session}
use Rattle.script.proofs.SayLaws.{put_then}

-- what is lent for a call: the buffers of b, and the manifest at the front of its text
module _ (s s' : Session) (b : Buffers) (text : List ℕ) (et : text ≡ take s.size b.text) (o o' : List ℕ) (n : ℕ) where
  pub begin-answers : (args st : List ℕ) (a : Answer) (units time : ℕ) → args ≡ begin_laid units time → a ≡ begin_answer (lent_as b.staging b.card text) s.host args
      → st ≡ begin_staging (lent_as b.staging b.card text) s.host args → s' ≡ became s Playing s.size a.host → Put o o' 0 (said_answer begin_word a.code a.value) n
      → Answers (called s b (begin_after (lent_of s b) s.host b.memory units time) b.index) s' (record b { staging = st }) o o' n
  unfolding called begin_after
  begin-answers args st a units time ea e es en p =
      rw (← et) (record { next = rw is at en; buffers = rw (es, ea); said = rw is at p })
    where
      is : a ≡ begin_answer (lent_as b.staging b.card text) s.host (begin_laid units time)
      is = e ∙ ap (begin_answer (lent_as b.staging b.card text) s.host) ea

  pub write-answers : (m m' st : List ℕ) (a : Answer) → m' ≡ m → a ≡ write_answer (charge_of text) (lent_as b.staging b.card text) s.host m' 8
      → st ≡ write_staging (charge_of text) (lent_as b.staging b.card text) s.host m' 8 → s' ≡ became s Playing s.size a.host → Put o o' 0 (said_answer write_word a.code a.value) n
      → Answers (called s b (write_after (lent_of s b) s.host m) b.index) s' (record b { memory = m'; staging = st }) o o' n
  unfolding called write_after
  write-answers m m' st a em e es en p =
      rw (← et) (record { next = rw is at en; buffers = rw (es, em); said = rw is at p })
    where
      is : a ≡ write_answer (charge_of text) (lent_as b.staging b.card text) s.host m 8
      is = e ∙ ap (λ (x : List ℕ). write_answer (charge_of text) (lent_as b.staging b.card text) s.host x 8) em

  pub open-answers : (m m' : List ℕ) (a : Answer) → m' ≡ m → a ≡ open_answer (lent_as b.staging b.card text) s.host m' 8 → s' ≡ became s Playing s.size a.host
      → Put o o' 0 (said_answer open_word a.code a.value) n
      → Answers (called s b (open_after (lent_of s b) s.host m) b.index) s' (record b { memory = m' }) o o' n
  unfolding called open_after
  open-answers m m' a em e en p =
      rw (← et) (record { next = rw is at en; buffers = rw em; said = rw is at p })
    where
      is : a ≡ open_answer (lent_as b.staging b.card text) s.host m 8
      is = e ∙ ap (λ (x : List ℕ). open_answer (lent_as b.staging b.card text) s.host x 8) em

  pub next-answers : (m m₁ m₂ page o₁ : List ℕ) (a : Answer) (k : ℕ) → m₁ ≡ m → a ≡ next_answer (lent_as b.staging b.card text) b.index s.host m₁ 8
      → m₂ ≡ next_memory (lent_as b.staging b.card text) b.index s.host m₁ 8 → s' ≡ became s Playing s.size a.host
      → Put o o₁ 0 (said_answer next_word a.code a.value) k → page ≡ part 8 a.value m₂ → Put o₁ o' k (event_lines page) n
      → Answers (called s b (next_after (lent_of s b) b.index s.host m) b.index) s' (record b { memory = m₂ }) o o' n
  unfolding called next_after
  next-answers m m₁ m₂ page o₁ a k em ea e₂ en p ep q =
      rw (← et) (record { next = rw is at en; buffers = rw kept; said = rw (is, kept) at both })
    where
      is : a ≡ next_answer (lent_as b.staging b.card text) b.index s.host m 8
      is = ea ∙ ap (λ (x : List ℕ). next_answer (lent_as b.staging b.card text) b.index s.host x 8) em

      kept : m₂ ≡ next_memory (lent_as b.staging b.card text) b.index s.host m 8
      kept = e₂ ∙ ap (λ (x : List ℕ). next_memory (lent_as b.staging b.card text) b.index s.host x 8) em

      both : Put o o' 0 (said_answer next_word a.code a.value ++ event_lines (part 8 a.value m₂)) n
      both = put_then o o₁ o' 0 k n _ _ p (rw ep at q)

  pub return-answers : (st card index : List ℕ) (a : Returned) (code : ℤ) → a ≡ return_answer (lent_as b.staging b.card text) b.index s.host code
      → card ≡ return_card (lent_as b.staging b.card text) b.index s.host code → st ≡ return_staging (lent_as b.staging b.card text) b.index s.host code
      → index ≡ return_index (lent_as b.staging b.card text) b.index s.host code → s' ≡ became s Playing s.size a.host → Put o o' 0 (said_fate a.fate) n
      → Answers (called s b (return_after (lent_of s b) b.index s.host b.memory code) (return_index (lent_of s b) b.index s.host code)) s'
      (record b { staging = st; card = card; index = index }) o o' n
  unfolding called return_after
  return-answers st card index a code e ek es ei en p =
      rw (← et) (record { next = rw e at en; buffers = rw (es, ek, ei); said = rw e at p })
