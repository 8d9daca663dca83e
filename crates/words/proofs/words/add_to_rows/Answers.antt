use Rattle.std.proofs.Common.{arith, ◌<◌}
use Rattle.graphs.specs.Models.{GraphModel}
use Rattle.words.proofs.Additions.{added_more}
use Rattle.words.proofs.words.add_to_rows.Goals as goal

pub loop-k-preserved : goal.loop-k-preserved
loop-k-preserved g c =
    let graph : GraphModel = g.G.Graph.model c.args.table.now.graph in
    let below : c.loop-k.k < graph.degree = omega (arith, c.degree-k-end.ensures, c.loop-k-test.true) in
    added_more g.F.Field.field graph (g.G.Graph.valid c.args.table.now.graph) c.args.place c.requires.place c.args.change c.loop-k.k c.args.sums.now c.loop-k.sums
    c.link-link.result.row c.index-sums-link.result c.plus.result c.times.result c.link-link.result.weight below c.loop-k.invariant c.link-link.ensures.row c.index-sums-link.is
    c.link-link.ensures.weight c.times.ensures c.plus.ensures
