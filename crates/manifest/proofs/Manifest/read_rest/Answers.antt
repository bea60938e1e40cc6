-- `manifest::Manifest::read_rest` meets its contract. Assumes nothing.
use native.Mathlib.Omega.{arith}
use borrow.Author.Rules.{rules}
use lib.ListN.{length}
use Rattle.text.specs.Lines.{line_at}
use Rattle.manifest.proofs.ReadingLaws.{passed-behind, rest-is}
use Rattle.manifest.proofs.Manifest.read_rest.Goals as goal

pub read_grants-requires : goal.read_grants-requires
read_grants-requires c = record { at_nonzero = (omega (arith, c.passed-from.ensures, passed-behind c.charge_at-said.result c.args.at (length (line_at c.args.at c.args.text.now))), omega arith); modules_bound = omega arith }

pub returns : goal.returns
returns c = search (rules, rest-is)
