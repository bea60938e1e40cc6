-- `edges_card::look::by_walk` is safe and ends. Assumes nothing.
use Rattle.std.proofs.Common.{rules}
use Rattle.card.proofs.PlaceLaws.{fetch-room}
use Rattle.edges_card.proofs.look.by_walk.Goals as goal

pub get-requires : goal.get-requires
get-requires c = search (rules, fetch-room)
