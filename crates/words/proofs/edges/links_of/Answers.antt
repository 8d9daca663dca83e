use Rattle.std.proofs.Common.{rules, ◌*◌, arith}
use Rattle.std.proofs.lemmas.Iterator.{YieldsList-from_map, YieldsList-from_range, items_from_collect}
use Rattle.std.proofs.lemmas.Iterator.Consumers.{YieldsList-at}
use Rattle.std.proofs.lemmas.Result.{IfOk-weaker}
use Rattle.words.proofs.EdgesInTurn.{link_in_turn, linked}
use Rattle.words.proofs.edges.links_of.Goals as goal

pub returns : goal.returns
returns g c =
    let f = g.F.Field.field in
    let m = g.G.Graph.model c.args.graph.now in
    let n = m.places * m.degree in
    let range = YieldsList-at c.map.ensures.source (YieldsList-from_range 0 n n (cc) (omega arith)) in
    let items = items_from_collect c.collect.result c.collect.ensures.ran (YieldsList-from_map _ (link_in_turn f m) range c.map.ensures.closure (λ x r q k. search rules)) in
    IfOk-weaker c.collect.result _ _ (λ v e. linked f m v.items e) items
