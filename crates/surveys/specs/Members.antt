-- The members of a set of places. Assumes nothing.
use Rattle.std.specs.Prelude.{ℕ, List, map, take}
use Rattle.surveys.specs.declared.sets.PlaceSet.{PlaceSet}

-- the members in ascending order
abbrev pub members : PlaceSet → List ℕ
members s = take s.count (map (λ p. p.0) s.places)
