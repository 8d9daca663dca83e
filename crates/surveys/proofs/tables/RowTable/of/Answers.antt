use Rattle.std.proofs.Common.{Ok, arith}
use Rattle.std.proofs.lemmas.Iterator.{YieldsList-from_any_map, YieldsList-from_range, length_from_collect}
use Rattle.std.proofs.lemmas.Iterator.Consumers.{YieldsList-at}
use Rattle.std.proofs.lemmas.List.FromFn.{length-map-range_with_len}
use Rattle.surveys.proofs.tables.RowTable.of.Goals as goal

-- the table is as long as the graph has places, and no graph has more than 512
pub invariant_of-result-clause-few : goal.invariant_of-result-clause-few
invariant_of-result-clause-few g c =
    let m = g.G.Graph.model c.args.graph.now in
    let chain = YieldsList-from_any_map _ (YieldsList-at c.map.ensures.source (YieldsList-from_range 0 m.places m.places (cc) (omega arith))) in
    let long = length_from_collect {E = Unit {0}} (Ok c.in_ok-rows.rows) m.places c.in_ok-rows.ensures.ran chain (length-map-range_with_len _ 0 m.places) in
    omega (arith, (g.G.Graph.valid c.args.graph.now).sizes.few_places)
