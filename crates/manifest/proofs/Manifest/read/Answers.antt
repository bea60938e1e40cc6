-- `manifest::Manifest::read` meets its contract. Assumes nothing.
use native.Mathlib.Omega.{arith}
use borrow.Author.Rules.{rules}
use Rattle.manifest.proofs.LineLaws.{modules-most}
use Rattle.manifest.proofs.ReadingLaws.{read-long, read-open, read-headless, read_whole}
use Rattle.manifest.proofs.Manifest.read.Goals as goal

pub returns-then-text-gt-MANIFEST : goal.returns-then-text-gt-MANIFEST
returns-then-text-gt-MANIFEST c = search (rules, read-long)

pub returns-then-modules-eq0 : goal.returns-then-modules-eq0
returns-then-modules-eq0 c = search (rules, read-headless)

pub read_rest-requires : goal.read_rest-requires
read_rest-requires c = record { at_nonzero = (omega arith, omega arith); text_len_bound = (omega arith, omega (arith, c.modules_in-modules.ensures, modules-most c.line-one.result.now)) }

pub returns-else-modules-eq0 : goal.returns-else-modules-eq0
returns-else-modules-eq0 c = search (rules, read_whole)

pub returns-else-closed : goal.returns-else-closed
returns-else-closed c = search (rules, read-open)
