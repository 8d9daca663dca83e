use Rattle.std.proofs.Common.{◌-◌, rules}
use Rattle.firsts.proofs.Ranges.{first_by_find_map}
use Rattle.graphs.specs.Models.{meeting}
use Rattle.graphs.proofs.Meetings.{nearest}
use Rattle.graphs.proofs.traits.Graph.next_place.Goals as goal

pub returns : goal.returns
returns g c =
    let m = g.Self.Graph.model c.args.self.now in
    let value =
    first_by_find_map _ _ (meeting m c.args.row.0) _
    (λ x o q k. search rules)
    (λ i o low high called. search rules)
    c.args.from.0 (m.places - c.args.from.0) _ c.from.ensures (search rules) c.find_map.ensures.runs in
    record { value = value; nearest = nearest m c.args.row.0 c.args.from.0 _ value }
