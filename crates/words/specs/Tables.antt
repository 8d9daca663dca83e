-- What a table of edges says of a graph, and what sums say of a word. Assumes nothing.
use Rattle.std.specs.Prelude.{◌≡◌, ℕ, ◌+◌, ◌*◌, ◌<◌, List, length, slice_index_or}
use Rattle.fields.specs.Models.{FieldModel}
use Rattle.graphs.specs.Models.{GraphModel}
use Rattle.words.specs.declared.links.Link.{Link}
use Rattle.expander.specs.Words.{symbols, row_sum, WeightsFit}

-- The links are the edges of the places, one place after another: each has the edge's row and, where every weight is a code of the field, the
-- weight as an element.
pub record Linked {F : Type 0} (f : FieldModel F) (g : GraphModel) (links : List (Link F)) : Type 0 where
  pub long : length links ≡ g.places * g.degree
  pub rows : (i k : ℕ) (d : Link F) → i < g.places → k < g.degree → (slice_index_or links (i * g.degree + k) d).row ≡ g.row i k
  pub weights : WeightsFit f g → (i k : ℕ) (d : Link F) → i < g.places → k < g.degree → (slice_index_or links (i * g.degree + k) d).weight ≡ f.element (g.weight i k)

-- Where every weight is a code of the field, the sums are those of the rows over the word.
pub record Summed {F : Type 0} (f : FieldModel F) (g : GraphModel) (word totals : List F) : Type 0 where
  pub word_long : length word ≡ g.places
  pub long : length totals ≡ g.rows
  pub sums : WeightsFit f g → (j : ℕ) (d : F) → j < g.rows → slice_index_or totals j d ≡ row_sum f g (symbols f word) j
