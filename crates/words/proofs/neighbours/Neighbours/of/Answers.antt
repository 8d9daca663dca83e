use Rattle.std.proofs.Common.{Ok, arith}
use Rattle.std.proofs.lemmas.Iterator.{YieldsList-from_any_map, YieldsList-from_range, length_from_collect}
use Rattle.std.proofs.lemmas.Iterator.Consumers.{YieldsList-at}
use Rattle.std.proofs.lemmas.List.FromFn.{length-map-range_with_len}
use Rattle.words.proofs.neighbours.Neighbours.of.Goals as goal

-- there is a set for each row, and no graph has more than 512 rows
pub invariant_of-result : goal.invariant_of-result
invariant_of-result g c =
    let m = g.G.Graph.model c.args.graph.now in
    let chain = YieldsList-from_any_map _ (YieldsList-at c.map.ensures.source (YieldsList-from_range 0 m.rows m.rows (cc) (omega arith))) in
    let long = length_from_collect {E = Unit {0}} (Ok c.in_ok-places.places) m.rows c.in_ok-places.ensures.ran chain (length-map-range_with_len _ 0 m.rows) in
    record { few = omega (arith, (g.G.Graph.valid c.args.graph.now).sizes.few_rows) }
