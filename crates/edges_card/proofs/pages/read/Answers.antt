-- `edges_card::pages::read` is safe and ends: the chain was tested. Assumes nothing.
use Rattle.std.proofs.Common.{◌∙◌, refl, sym, ap}
use Rattle.card.specs.declared.Cursor.{Cursor}
use Rattle.card.specs.Listing.{reading}
use Rattle.edges_card.proofs.pages.read.Goals as goal

pub page-requires : goal.page-requires
unfolding reading
page-requires c _ =
    record {
      chained = sym c.chain_to.ensures ∙ c.if-chain_to.true;
      from_first = refl;
      upward = ap (λ (d : Cursor). d.desc) c.reading.ensures;
    }
