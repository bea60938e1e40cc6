-- A line's call: what is lent to the host for it, what it leaves behind, and what is printed.
-- Assumes nothing.
use Rattle.std.specs.Prelude.{List, ◌++◌, ℕ, ℤ}
use Rattle.le.specs.Splice.{part}
use Rattle.manifest.specs.Saying.{charge_of}
use Rattle.host.specs.declared.Host.{Host}
use Rattle.host.specs.Hosts.{Lent}
use Rattle.host.specs.Begin.{begin_answer, begin_staging}
use Rattle.writes.specs.Stage.{write_answer, write_staging}
use Rattle.host.specs.Cursors.{open_answer}
use Rattle.reads.specs.Paging.{next_answer, next_memory}
use Rattle.host.specs.Ending.{return_answer, return_card, return_staging}
use Rattle.script.specs.Words.{begin_word, write_word, open_word, next_word}
use Rattle.script.specs.Laying.{begin_laid}
use Rattle.script.specs.Saying.{said_answer}
use Rattle.session.specs.Fates.{said_fate}
use Rattle.script.specs.Events.{event_lines}

-- the host and the buffers after a call, and the bytes printed
pub record After : Type 0 where
  pub host : Host
  pub memory : List ℕ
  pub staging : List ℕ
  pub card : List ℕ
  pub said : List ℕ

unfoldable pub begin_after : Lent → Host → List ℕ → ℕ → ℕ → After
begin_after l h m units time =
    record {
      host = (begin_answer l h (begin_laid units time)).host;
      memory = m;
      staging = begin_staging l h (begin_laid units time);
      card = l.card;
      said = said_answer begin_word (begin_answer l h (begin_laid units time)).code (begin_answer l h (begin_laid units time)).value;
    }

-- write, with its arguments in the memory m
unfoldable pub write_after : Lent → Host → List ℕ → After
write_after l h m =
    record {
      host = (write_answer (charge_of l.text) l h m 8).host;
      memory = m;
      staging = write_staging (charge_of l.text) l h m 8;
      card = l.card;
      said = said_answer write_word (write_answer (charge_of l.text) l h m 8).code (write_answer (charge_of l.text) l h m 8).value;
    }

unfoldable pub open_after : Lent → Host → List ℕ → After
open_after l h m =
    record {
      host = (open_answer l h m 8).host;
      memory = m;
      staging = l.staging;
      card = l.card;
      said = said_answer open_word (open_answer l h m 8).code (open_answer l h m 8).value;
    }

-- the answer is the length of the page, which lies at 8: 0 where the call was refused, so that no event is printed
unfoldable pub next_after : Lent → List ℕ → Host → List ℕ → After
next_after l table h m =
    record {
      host = (next_answer l table h m 8).host;
      memory = next_memory l table h m 8;
      staging = l.staging;
      card = l.card;
      said =
          said_answer next_word (next_answer l table h m 8).code (next_answer l table h m 8).value
          ++ event_lines (part 8 (next_answer l table h m 8).value (next_memory l table h m 8));
    }

unfoldable pub return_after : Lent → List ℕ → Host → List ℕ → ℤ → After
return_after l table h m code =
    record {
      host = (return_answer l table h code).host;
      memory = m;
      staging = return_staging l table h code;
      card = return_card l table h code;
      said = said_fate (return_answer l table h code).fate;
    }
