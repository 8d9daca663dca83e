use Rattle.words.proofs.Additions.{Added}
use Rattle.words.proofs.words.add_to_rows.Given as goal

abbrev pub invariant-loop-k : goal.invariant-loop-k
invariant-loop-k g l = Added g.F.Field.field (g.G.Graph.model l.table.graph) l.place l.change l.k l.fn.sums l.sums
