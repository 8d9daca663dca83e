use Rattle.std.proofs.Common.{◌≡◌, ℕ}
use Rattle.bitsets.specs.Sets.{has}
use Rattle.expander.specs.Words.{meets}
use Rattle.words.specs.Neighbours.{any_below, NeighboursOf}
use Rattle.words.proofs.neighbours.Neighbours.near.Given as goal

-- the members are the places that meet the rows of the edges before edge k
abbrev pub invariant-loop-k : goal.invariant-loop-k
invariant-loop-k g l =
    let m = g.G.Graph.model l.table.graph in
    NeighboursOf m l.self → (i : ℕ) → has l.near i ≡ any_below l.k (λ k. meets m (m.row l.place k) i)
