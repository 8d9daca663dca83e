use Rattle.std.proofs.Common.{rules, arith}
use Rattle.firsts.proofs.Ranges.{first_by_find_map}
use Rattle.graphs.specs.Models.{weight_to}
use Rattle.graphs.proofs.Questions.{weighed}
use Rattle.graphs.proofs.traits.Graph.weight_between.Goals as goal

pub returns : goal.returns
returns g c =
    let m = g.Self.Graph.model c.args.self.now in
    first_by_find_map _ _ (weight_to m c.args.row.0 c.args.place.0) _
    (λ x o q k. search rules)
    (λ k o low high called. weighed m c.args.row.0 c.args.place.0 k o (omega (arith, high, c.degree.ensures)) (search rules))
    0 m.degree _ (omega arith) (omega (arith, c.degree.ensures)) c.find_map.ensures.runs
