-- `edges_card::tables::table_of` is safe and ends: the chain that was found has as many records as it has numbers. Assumes nothing.
use Rattle.std.proofs.Common.{◌∙◌, sym, arith}
use Rattle.card.proofs.WalkLaws.{whole-size, whole-next}
use Rattle.edges_card.proofs.tables.table_of.Goals as goal

pub overflow_sub-next : goal.overflow_sub-next
overflow_sub-next c = omega (arith, whole-next _ _ _ (sym c.check_chain.ensures ∙ c.in-Ok.is))

pub enter-requires-clause-first_value : goal.enter-requires-clause-first_value
enter-requires-clause-first_value c = whole-size _ _ _ (sym c.check_chain.ensures ∙ c.in-Ok.is)

pub enter-requires-clause-first_in_bounds : goal.enter-requires-clause-first_in_bounds
enter-requires-clause-first_in_bounds c =
    omega (arith, whole-next _ _ _ (sym c.check_chain.ensures ∙ c.in-Ok.is), c.if-next-first.true)
