-- The places that share a row. Assumes nothing.
use Rattle.std.specs.Prelude.{◌≡◌, ℕ, zero, suc, ◌<◌, Bool, false, ◌&&◌, ◌||◌, length, slice_index_or, nat_lt}
use Rattle.bitsets.specs.declared.sets.BitSet.{BitSet}
use Rattle.bitsets.specs.Sets.{has}
use Rattle.graphs.specs.Models.{GraphModel}
use Rattle.expander.specs.Words.{meets}
use Rattle.words.specs.declared.neighbours.Neighbours.{Neighbours}

-- one of the numbers below n passes the test
unfoldable pub any_below : ℕ → (ℕ → Bool) → Bool
any_below zero p = false
any_below (suc n) p = any_below n p || p n

-- an edge of place p leads to a row that meets place i
abbrev pub shares_row : GraphModel → ℕ → ℕ → Bool
shares_row g p i = nat_lt p g.places && any_below g.degree (λ k. meets g (g.row p k) i)

-- There is a set for each row of the graph, and its members are the places that meet the row.
pub record NeighboursOf (g : GraphModel) (t : Neighbours) : Type 0 where
  pub long : length t.places.items ≡ g.rows
  pub places : (j i : ℕ) (d : BitSet) → j < g.rows → has (slice_index_or t.places.items j d) i ≡ meets g j i
