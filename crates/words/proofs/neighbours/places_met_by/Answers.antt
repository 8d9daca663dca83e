use Rattle.std.proofs.Common.{arith}
use Rattle.bitsets.specs.Sets.{has}
use Rattle.words.proofs.SharedRows.{met_all}
use Rattle.words.proofs.neighbours.places_met_by.Goals as goal

pub returns : goal.returns
returns g c i =
    let m = g.G.Graph.model c.args.graph.now in
    met_all m c.args.row.0 i (has c.loop-i.places i) c.loop-i.i (omega (arith, c.places-i-end.ensures)) (c.loop-i.invariant i)
