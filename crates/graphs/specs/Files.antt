-- The two graph files: their records, and which faults are found in them. Assumes nothing.
use Rattle.std.specs.Prelude.{◌≡◌, ℕ, ◌+◌, ◌-◌, ◌*◌, ◌/◌, ◌%◌, ◌<◌, ◌≤◌, Bool, cond, ◌&&◌, ◌||◌, ◌⊎◌, List, length, Some, None, Option, ◌==◌, nat_le, nat_lt, slice_index}
use Rattle.refusals.specs.Faults.{fault_by}
use Rattle.refusals.specs.Numbers.{u16_at}
use Rattle.refusals.specs.declared.faults.Fault.{Fault}
use Rattle.refusals.specs.declared.faults.Refusal.TheVariants.{SizeOutOfRange, FileLength, RecordOrder, RowOutOfRange, ZeroWeight}
use Rattle.refusals.specs.declared.faults.Layer.TheVariants.{Shelf}
use Rattle.graphs.specs.declared.records.Entry.{Entry}
use Rattle.graphs.specs.declared.records.Form.{Form}
use Rattle.graphs.specs.declared.records.Form.TheVariants.{Listed, Lift}
use Rattle.graphs.specs.declared.records.Shape.{Shape}
use Rattle.firsts.specs.First.{first}
use Rattle.graphs.specs.Models.{GraphModel, Sizes}

-- the bytes of a record
abbrev pub width : Form → ℕ
width Listed = 6
width Lift = 8

-- Record k. A listed record is that of a lift of size 1, so it has the shift 0.
abbrev pub entry_of : Form → List ℕ → ℕ → Entry
entry_of Listed bytes k = record { column = u16_at bytes (6 * k); base = u16_at bytes (6 * k + 2); shift = 0; weight = u16_at bytes (6 * k + 4) }
entry_of Lift bytes k = record { column = u16_at bytes (8 * k); base = u16_at bytes (8 * k + 2); shift = u16_at bytes (8 * k + 4); weight = u16_at bytes (8 * k + 6) }

abbrev pub places_of : Shape → ℕ
places_of s = s.columns * s.lift

abbrev pub rows_of : Shape → ℕ
rows_of s = s.bases * s.lift

abbrev pub records_of : Shape → ℕ
records_of s = s.columns * s.degree

abbrev pub within : ℕ → ℕ → ℕ → Bool
within low high x = nat_le low x && nat_le x high

-- the sizes are in their ranges; a lift size of 0 has no place
abbrev pub sizes_fit : Shape → Bool
sizes_fit s = within 1 512 (places_of s) && within 1 512 (rows_of s) && within 1 16 s.degree && nat_le s.degree (rows_of s)

-- the same as `Below`, as a test
abbrev pub ascends : Entry → Entry → Bool
ascends d e = nat_lt d.base e.base || (d.base == e.base && nat_lt d.shift e.shift)

-- record k stands under its column, and above the record before it in that column
abbrev pub in_order : Shape → ℕ → Entry → Entry → Bool
in_order s k before e = e.column == k / s.degree && (k % s.degree == 0 || ascends before e)

abbrev pub in_range : Shape → Entry → Bool
in_range s e = nat_lt e.base s.bases && nat_lt e.shift s.lift

-- what is wrong with record k, in the order of the refusals' numbers
abbrev pub entry_fault : Shape → ℕ → Entry → Entry → Option Fault
entry_fault s k before e =
    cond (in_order s k before e) (cond (in_range s e) (cond (e.weight == 0) (Some (fault_by Shelf ZeroWeight k)) None) (Some (fault_by Shelf RowOutOfRange k))) (Some (fault_by Shelf RecordOrder k))

abbrev pub record_fault : List ℕ → Shape → ℕ → Option Fault
record_fault bytes s k = entry_fault s k (entry_of s.form bytes (k - 1)) (entry_of s.form bytes k)

abbrev pub first_fault : List ℕ → Shape → Option Fault
first_fault bytes s = first (record_fault bytes s) 0 (records_of s)

-- what is wrong with a file: the sizes first, then its length, then the first record that has a fault
abbrev pub file_fault : List ℕ → Shape → Option Fault
file_fault bytes s =
    cond (sizes_fit s) (cond (length bytes == width s.form * records_of s) (first_fault bytes s) (Some (fault_by Shelf FileLength 0))) (Some (fault_by Shelf SizeOutOfRange 0))

-- what every slice of bytes holds
abbrev pub Octets : List ℕ → Type 0
Octets bytes = (i : ℕ) → slice_index bytes i < 256

-- the pairs of base row and shift strictly ascend from d to e
abbrev pub Below : Entry → Entry → Type 0
Below d e = (d.base < e.base) ⊎ ((d.base ≡ e.base) × (d.shift < e.shift))

-- A file describes a graph: each column has `degree` records, ascending, with base rows, shifts and weights in their ranges.
pub record Describes (bytes : List ℕ) (s : Shape) : Type 0 where
  pub sizes : Sizes (places_of s) (rows_of s) s.degree
  pub long : length bytes ≡ width s.form * records_of s
  pub column : (k : ℕ) → k < records_of s → (entry_of s.form bytes k).column ≡ k / s.degree
  pub ascend : (i j k : ℕ) → i < s.columns → j < k → k < s.degree → Below (entry_of s.form bytes (i * s.degree + j)) (entry_of s.form bytes (i * s.degree + k))
  pub base : (k : ℕ) → k < records_of s → (entry_of s.form bytes k).base < s.bases
  pub shift : (k : ℕ) → k < records_of s → (entry_of s.form bytes k).shift < s.lift
  pub weight : (k : ℕ) → k < records_of s → 1 ≤ (entry_of s.form bytes k).weight

-- the row that record e gives the place t of its column
abbrev pub row_of : Shape → Entry → ℕ → ℕ
row_of s e t = e.base * s.lift + (t + e.shift) % s.lift

-- the record that edge k of place i follows
abbrev pub record_of : Shape → ℕ → ℕ → ℕ
record_of s i k = i / s.lift * s.degree + k

-- The graph of a file.
abbrev pub file_model : List ℕ → Shape → GraphModel
file_model bytes s = record {
  places = places_of s;
  rows = rows_of s;
  degree = s.degree;
  row = λ i k. row_of s (entry_of s.form bytes (record_of s i k)) (i % s.lift);
  weight = λ i k. (entry_of s.form bytes (record_of s i k)).weight;
}

-- among the edges that some record means, one for each t below the lift size, one of weight w leads from place i to row j
abbrev pub FileEdge : List ℕ → Shape → ℕ → ℕ → ℕ → Type 0
FileEdge bytes s i j w =
    (r : ℕ) × (t : ℕ) × (r < records_of s) × (t < s.lift) × ((entry_of s.form bytes r).column * s.lift + t ≡ i)
    × (row_of s (entry_of s.form bytes r) t ≡ j) × ((entry_of s.form bytes r).weight ≡ w)
