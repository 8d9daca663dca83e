use Rattle.std.proofs.Common.{◌≡◌, ℕ, is_some}
use Rattle.bitsets.specs.Sets.{has}
use Rattle.firsts.specs.First.{first}
use Rattle.graphs.specs.Models.{weight_to}
use Rattle.surveys.proofs.tables.rows_met_by.Given as goal

-- the members are the rows that the edges so far lead to
abbrev pub invariant-loop-k : goal.invariant-loop-k
invariant-loop-k g l = (j : ℕ) → has l.rows j ≡ is_some (first (weight_to (g.G.Graph.model l.graph) j l.place.0) 0 l.k)
