-- `loafheron::lookup::loafheron_look_up` meets its contract. Assumes nothing.
use mathlib.Core.Path.{◌≡◌, ap, ◌∙◌}
use Rattle.host.specs.Hosts.{lent_as}
use Rattle.mounts.specs.Places.{place_of}
use Rattle.loafheron.specs.Crossing.{host_said}
use Rattle.loafheron.specs.Places.{place_said, found_at}
use Rattle.loafheron.proofs.PlaceLaws.{found-there}
use Rattle.loafheron.proofs.lookup.loafheron_look_up.Goals as goal

pub returns : goal.returns
returns c =
    let l = lent_as c.args.staging.now c.args.card.now c.args.manifest.now in let e : c.place_of-p.result ≡ place_of l c.args.index.now (host_said c.args.state) c.args.id = c.place_of-p.ensures ∙ simp c.host_said-h.ensures in let r = c.said.ensures ∙ ap place_said e in record { place = r; bytes = ap (found_at l) r ∙ found-there l c.args.index.now (host_said c.args.state) c.args.id }
