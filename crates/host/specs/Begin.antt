-- begin: "128 bytes of FilamentWeaveArgs (any other length -5). Used are res_max at 24, virt_time at 48, trace at 56."
-- Assumes nothing.
use Rattle.std.specs.Prelude.{not, cond, List, [], ◌∷◌, ℕ, eqb, length}
use Rattle.le.specs.Splice.{zeros}
use Rattle.weave.specs.declared.Code.{Code}
use Rattle.weave.specs.declared.Code.TheVariants.{Denied, NotNow, Bad}
use Rattle.weave.specs.Codes.{is_fine, need, first_of}
use Rattle.weave.specs.Findings.{plain}
use Rattle.takes.specs.Begun.{begun}
use Rattle.host.specs.declared.Host.{Host}
use Rattle.host.specs.declared.Answer.{Answer}
use Rattle.host.specs.Hosts.{Lent, with_weave, lent_check, settle}

unfoldable pub begin_check : Lent → Host → List ℕ → Code
begin_check l h args =
    first_of
    (lent_check l h  -- 1
    ∷ need (not h.weave.running) NotNow  -- 2
    ∷ need (not h.faulted) Denied  -- 3
    ∷ need (eqb (length args) 128) Bad  -- 4
    ∷ [])

unfoldable pub begin_answer : Lent → Host → List ℕ → Answer
begin_answer l h args = settle h (plain (begin_check l h args)) 0 (with_weave h (begun args))

-- "Staging becomes all 0"
unfoldable pub begin_staging : Lent → Host → List ℕ → List ℕ
begin_staging l h args = cond (is_fine (begin_check l h args)) (zeros (length l.staging)) l.staging
