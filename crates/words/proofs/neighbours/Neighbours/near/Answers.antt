use Rattle.std.proofs.Common.{◌<◌, ap, ◌∙◌, arith}
use Rattle.bitsets.specs.Sets.{has}
use Rattle.words.specs.Neighbours.{any_below}
use Rattle.words.proofs.SharedRows.{some_set, set_more}
use Rattle.words.proofs.neighbours.Neighbours.near.Goals.{in-Some, in_default}
use Rattle.words.proofs.neighbours.Neighbours.near.Goals as goal

pub loop-k-init : goal.loop-k-init
unfolding any_below
loop-k-init g c = λ table i. c.empty-near.ensures i

pub loop-k-preserved : goal.loop-k-preserved
loop-k-preserved g c = λ table i.
    let m = g.G.Graph.model c.args.table.now.graph in
    let k = c.loop-k.k in
    let inside : c.from-place.result < m.places = omega (arith, c.places.ensures) in
    let low = (g.G.Graph.valid c.args.table.now.graph).row_below c.from-place.result k inside (omega (arith, c.degree-k-end.ensures)) in
    elim c.match-get.branch [
      | in-Some w ↦
          ap (λ s. has s i) w.near-is ∙ w.join-near.ensures i
          ∙ set_more m c.args.self.now table _ c.deref.ensures.value c.from-place.result k low c.link.result.row c.link.ensures.row i w.in-Some.places.now w.in-Some.ensures.lookup.1 _ (c.loop-k.invariant table i)
      | in_default w ↦ absurd (some_set m c.args.self.now table _ c.deref.ensures.value c.from-place.result k low c.link.result.row c.link.ensures.row w.in_default.ensures.lookup.3)
    ]
