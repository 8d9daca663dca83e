use Rattle.std.proofs.Common.{◌<◌, arith}
use Rattle.surveys.proofs.RowBits.{edge_more, no_edge_more}
use Rattle.surveys.proofs.tables.rows_met_by.Goals.{in-Some, in_default}
use Rattle.surveys.proofs.tables.rows_met_by.Goals as goal

pub loop-k-preserved : goal.loop-k-preserved
loop-k-preserved g c j =
    let m = g.G.Graph.model c.args.graph.now in
    let inside : c.loop-k.k < m.degree = omega (arith, c.degree-k-end.ensures) in
    let known = c.loop-k.invariant j in
    elim c.match-edge.branch [
      | in-Some w ↦ cc (w.insert.ensures j, edge_more m j c.args.place.0 c.loop-k.k (g.G.Graph.valid c.args.graph.now) inside _ w.in-Some.edge c.edge.ensures w.in-Some.is _ _ known w.from.ensures)
      | in_default w ↦ cc (no_edge_more m j c.args.place.0 c.loop-k.k inside _ c.edge.ensures w.in_default.is _ known)
    ]
