-- The search over the edges finds the first vote, which tells the rank and the change.
use Rattle.std.proofs.Common.{◌≡◌, refl, rules, arith}
use Rattle.firsts.specs.First.{first}
use Rattle.firsts.proofs.Ranges.{first_by_find_map}
use Rattle.expander.specs.Words.{WeightsFit, symbols}
use Rattle.words.specs.Offers.{vote_of}
use Rattle.words.proofs.Offers.{first_vote_ranks, first_vote_changes}
use Rattle.words.proofs.words.Word.vote.Goals as goal

pub returns : goal.returns
returns g c =
    let f = g.F.Field.field in
    let m = g.G.Graph.model c.args.self.now.table.graph in
    let w = symbols f c.args.self.now.symbols.items in
    let ok = g.G.Graph.valid c.args.self.now.table.graph in
    let i = c.args.place.0 in
    let found : WeightsFit f m → c.find_map.result ≡ first (vote_of f m w i) 0 m.degree =
    λ fit.
    first_by_find_map _ _ (vote_of f m w i) _
    (λ x o q k. search rules)
    (λ k o low high called. search rules)
    0 m.degree _ refl (omega (arith, c.degree.ensures)) c.find_map.ensures.runs in
    record {
      past = λ far. absurd (omega (arith, far));
      rank = λ fit inside. first_vote_ranks f m w i ok inside c.find_map.result (found fit);
      change = λ fit. first_vote_changes f m w i ok (omega arith) c.find_map.result (found fit);
      above = search rules;
    }
