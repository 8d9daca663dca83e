-- A row of Pascal's triangle up to the sets of eight. Assumes nothing.
use Rattle.std.specs.Prelude.{◌≡◌, ℕ, ◌-◌, ◌^◌, ◌≤◌, min, List, slice_index}
use Rattle.expander.specs.Sets.{choose}

-- number k of the row of n places is the number of sets of k of them, or the largest number of 64 bits if there are more
abbrev pub PascalRow : ℕ → List ℕ → Type 0
PascalRow n row = (k : ℕ) → k ≤ 8 → slice_index row k ≡ min (choose n k) (2 ^ 64 - 1)
