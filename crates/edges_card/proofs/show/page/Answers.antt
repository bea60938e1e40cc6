-- `edges_card::show::page` is safe and ends: a page is copied where it was found sound. Assumes nothing.
use Rattle.std.proofs.Common.{◌∙◌}
use Rattle.card.proofs.LookLaws.{no-fault}
use Rattle.edges_card.proofs.show.page.Goals as goal

pub copy_page-after-requires-clause-table_value : goal.copy_page-after-requires-clause-table_value
copy_page-after-requires-clause-table_value c =
    no-fault _ (λ e. c.sound.ensures c.if-sound.true (c.measure-p.ensures.page ∙ e))
