-- What a table of row bits says of a graph. Assumes nothing.
use Rattle.std.specs.Prelude.{◌≡◌, ℕ, ◌<◌, length, slice_index_or}
use Rattle.bitsets.specs.declared.sets.BitSet.{BitSet}
use Rattle.bitsets.specs.Sets.{has}
use Rattle.graphs.specs.Models.{GraphModel}
use Rattle.expander.specs.Words.{meets}
use Rattle.surveys.specs.declared.tables.RowTable.{RowTable}

-- The table has the places of the graph, its degree, and for each place the rows that meet it.
pub record TableOf (g : GraphModel) (t : RowTable) : Type 0 where
  pub places : length t.rows.items ≡ g.places
  pub degree : t.degree ≡ g.degree
  pub rows : (i j : ℕ) (d : BitSet) → i < g.places → has (slice_index_or t.rows.items i d) j ≡ meets g j i
