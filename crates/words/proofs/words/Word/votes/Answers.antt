-- The edges that propose the change are counted.
use Rattle.std.proofs.Common.{refl, rules}
use Rattle.expander.specs.Words.{symbols}
use Rattle.expander.specs.Votes.{offers}
use Rattle.words.proofs.Counts.{counted_by_filter}
use Rattle.words.proofs.words.Word.votes.Goals as goal

pub returns-clause-value : goal.returns-clause-value
returns-clause-value g c fit =
    let m = g.G.Graph.model c.args.self.now.table.graph in
    counted_by_filter (offers g.F.Field.field m (symbols g.F.Field.field c.args.self.now.symbols.items) c.args.place c.args.change) _ _ _ _
    (λ x b q called. (search rules, search rules))
    m.degree c.count.result refl c.degree.ensures c.filter.ensures.runs c.count.ensures.runs
