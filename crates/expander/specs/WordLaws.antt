-- What overwrites, changes and errors do to the open rows of a word. Assumes nothing.
use Rattle.std.specs.Prelude.{◌≡◌, ℕ, ◌+◌, ◌*◌, ◌<◌, ◌≤◌, true, not, List, length, nat_eq, slice_set}
use Rattle.bitsets.specs.Bits.{count}
use Rattle.fields.specs.Models.{FieldModel}
use Rattle.graphs.specs.Models.{GraphModel, Valid}
use Rattle.expander.specs.Words.{same, symbols, distance, row_sum, open_row_count, Codeword, WeightsFit}
use Rattle.expander.specs.Votes.{rank, Ranked}
use Rattle.expander.specs.Sets.{Rising}
use Rattle.expander.specs.Expansion.{meetings, expands, AllExpand}

-- the number of rows whose sums two words make different
abbrev pub rows_changed : {F : Type 0} → FieldModel F → GraphModel → List F → List F → ℕ
rows_changed f g w x = count g.rows (λ j. not (same f (row_sum f g (symbols f w) j) (row_sum f g (symbols f x) j)))

-- the number of rows that meet exactly one place of the set
abbrev pub rows_met_once : GraphModel → List ℕ → ℕ
rows_met_once g V = count g.rows (λ j. nat_eq (meetings g V j) 1)

-- a symbol that is put at a place changes the sums of at most c rows, so it opens at most c
abbrev pub OverwritesTouchFewRows : Type 0 → Type 0
OverwritesTouchFewRows F =
    (f : FieldModel F) (g : GraphModel) → Valid g → (w : List F) (i : ℕ) (s : F) → i < g.places
    → (rows_changed f g w (slice_set w i s) ≤ g.degree) × (open_row_count f g (symbols f (slice_set w i s)) ≤ open_row_count f g (symbols f w) + g.degree)

-- a change of a place of rank v lowers the number of open rows by at least 2v - c, and so by at least one
abbrev pub ChangesCloseRows : Type 0 → Type 0
ChangesCloseRows F =
    (f : FieldModel F) (g : GraphModel) → Valid g → WeightsFit f g → (w : List F) (i v : ℕ) (d : F) → length w ≡ g.places → i < g.places → Ranked f g (symbols f w) i v d
    → let x = slice_set w i (f.plus (symbols f w i) d) in
    (open_row_count f g (symbols f x) + 2 * v ≤ open_row_count f g (symbols f w) + g.degree) × (open_row_count f g (symbols f x) < open_row_count f g (symbols f w))

-- at most c rows are open for each place where a word differs from a codeword
abbrev pub OpenRowsCountErrors : Type 0 → Type 0
OpenRowsCountErrors F =
    (f : FieldModel F) (g : GraphModel) → Valid g → (w x : List F) → Codeword f g x
    → open_row_count f g (symbols f w) ≤ g.degree * distance f g.places (symbols f w) (symbols f x)

-- in a set of k places that expands, more than half of c × k rows are met exactly once
abbrev pub UniqueRowsAbound : Type 0
UniqueRowsAbound = (g : GraphModel) → Valid g → (V : List ℕ) → Rising 0 g.places V → expands g V ≡ true → g.degree * length V < 2 * rows_met_once g V

-- few errors show: some place has a rank above 0, and more than half of c rows are open for each error
abbrev pub ErrorsShow : Type 0 → Type 0
ErrorsShow F =
    (f : FieldModel F) (g : GraphModel) → Valid g → WeightsFit f g → (w x : List F) (t : ℕ) → Codeword f g x → AllExpand g t
    → let errors = distance f g.places (symbols f w) (symbols f x) in
    1 ≤ errors → errors ≤ t
    → ((i : ℕ) × (i < g.places) × (0 < rank f g (symbols f w) i)) × (g.degree * errors < 2 * open_row_count f g (symbols f w))
