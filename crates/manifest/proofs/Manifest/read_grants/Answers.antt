-- The answers for `manifest::Manifest::read_grants`.
use native.Mathlib.Omega.{arith}
use borrow.Author.Rules.{rules}
use Rattle.manifest.proofs.ReadingLaws.{reading-start, reading-full, reading-bad, reading-more, reading-done}
use Rattle.manifest.proofs.Manifest.read_grants.Goals as goal

pub loop-from-init : goal.loop-from-init
loop-from-init c = search (rules, reading-start)

pub returns-then-count-ge-GRANTS : goal.returns-then-count-ge-GRANTS
returns-then-count-ge-GRANTS c = search (rules, reading-full)

pub at-g-requires : goal.at-g-requires
at-g-requires c = record { line_len_bound = (omega arith, omega arith); modules_bound = omega arith }

pub returns-then-g-eq0 : goal.returns-then-g-eq0
returns-then-g-eq0 c = search (rules, reading-bad)

pub loop-from-preserved : goal.loop-from-preserved
loop-from-preserved c = search (rules, reading-more)

pub returns : goal.returns
returns c = search (rules, reading-done)
