-- Words over a graph: row sums, open rows, distance and codewords. Assumes nothing.
use Rattle.std.specs.Prelude.{◌≡◌, ℕ, zero, suc, ◌<◌, Bool, not, List, length, is_some, Some, None, Option, ◌==◌, slice_index_or}
use Rattle.bitsets.specs.Bits.{count}
use Rattle.fields.specs.Models.{FieldModel}
use Rattle.graphs.specs.Models.{GraphModel, weight_between}

-- row j meets place i: there is an edge between them
abbrev pub meets : GraphModel → ℕ → ℕ → Bool
meets g j i = is_some (weight_between g j i)

module _ {F : Type 0} (f : FieldModel F) where
  -- the sum of h 0, h 1, .. over n numbers
  unfoldable pub total : ℕ → (ℕ → F) → F
  total zero h = f.element 0
  total (suc n) h = f.plus (total n h) (h n)

  abbrev pub is_zero : F → Bool
  is_zero x = f.code x == 0

  abbrev pub same : F → F → Bool
  same x y = f.code x == f.code y

  -- a weight as the element of that code, and zero where there is none
  abbrev pub weight_element : Option ℕ → F
  weight_element None = f.element 0
  weight_element (Some w) = f.element w

  -- the symbols of a word by their places; zero is read past its end
  abbrev pub symbols : List F → ℕ → F
  symbols w i = slice_index_or w i (f.element 0)

  -- the number of places below n where two words differ
  abbrev pub distance : ℕ → (ℕ → F) → (ℕ → F) → ℕ
  distance n w x = count n (λ i. not (same (w i) (x i)))

module _ {F : Type 0} (f : FieldModel F) (g : GraphModel) where
  -- the weight between row j and place i, as an element
  abbrev pub coefficient : ℕ → ℕ → F
  coefficient j i = weight_element f (weight_between g j i)

  -- the sum of weight times symbol over the edges of row j
  abbrev pub row_sum : (ℕ → F) → ℕ → F
  row_sum w j = total f g.places (λ i. f.times (coefficient j i) (w i))

  -- row j is open: its sum is not zero
  abbrev pub is_open : (ℕ → F) → ℕ → Bool
  is_open w j = not (is_zero f (row_sum w j))

  abbrev pub open_row_count : (ℕ → F) → ℕ
  open_row_count w = count g.rows (is_open w)

  -- A codeword has one symbol for each place and no open row.
  pub record Codeword (x : List F) : Type 0 where
    pub long : length x ≡ g.places
    pub closed : open_row_count (symbols f x) ≡ 0

  -- every weight is a code of the field
  abbrev pub WeightsFit : Type 0
  WeightsFit = (i k : ℕ) → i < g.places → k < g.degree → g.weight i k < f.size
