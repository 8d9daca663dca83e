use Rattle.std.proofs.Common.{rules, ◌*◌, arith}
use Rattle.std.proofs.lemmas.Iterator.{YieldsList-from_range, cases_from_all}
use borrow.Author.Tests.{tests}
use Rattle.words.proofs.EdgesInTurn.{FitsAt, UnfitAt, fits_told}
use Rattle.words.proofs.edges.all_fit.Goals as goal

pub returns : goal.returns
returns g c =
    let f = g.F.Field.field in
    let m = g.G.Graph.model c.args.graph.now in
    let n = m.places * m.degree in
    let some = (g.G.Graph.valid c.args.graph.now).sizes.some_edge in
    fits_told f m c.all.result some
    (cases_from_all _ _ _ (FitsAt f m) (UnfitAt f m) c.all.ensures.ran (YieldsList-from_range 0 n n (cc) (omega arith)) (λ x q k. search (rules, tests)) (λ x q k. search (rules, tests)))
