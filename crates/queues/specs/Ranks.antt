-- The ranks that a queue holds, one for each place, and what its calls do with them. Assumes nothing.
use Rattle.std.specs.Prelude.{◌≡◌, ℕ, ◌<◌, ◌≤◌, Bool, ◌&&◌, List, length, Option, MatchOption, nat_le, nat_lt, slice_index}
use Rattle.std.specs.Option.{option_map}
use Rattle.firsts.specs.First.{first_where}
use Rattle.refusals.specs.declared.numbers.Place.{Place}

-- At most 512 places, each with a rank of at most 16.
pub record Ranked (ranks : List ℕ) : Type 0 where
  pub few : length ranks ≤ 512
  pub low : (i : ℕ) → slice_index ranks i ≤ 16

-- a queue is begun with 1 to 512 places
abbrev pub may_begin : ℕ → Bool
may_begin places = nat_le 1 places && nat_le places 512

-- a rank of at most 16 is set, and only at one of the queue's places
abbrev pub may_set : List ℕ → ℕ → ℕ → Bool
may_set ranks place rank = nat_lt place (length ranks) && nat_le rank 16

-- every rank is 0
abbrev pub AllZero : List ℕ → Type 0
AllZero ranks = (i : ℕ) → slice_index ranks i ≡ 0

-- a place with a rank above 0 is picked, and none exactly when every rank is 0
abbrev pub Picks : List ℕ → Option Place → Type 0
Picks ranks r = MatchOption r (AllZero ranks) (λ place. 0 < slice_index ranks place.0)

-- the first place with a rank above 0
abbrev pub lowest : List ℕ → Option Place
lowest ranks = option_map (λ i. record { 0 = i }) (first_where (λ i. nat_lt 0 (slice_index ranks i)) 0 (length ranks))

-- The place has a rank above 0, and every lower one has rank 0.
pub record IsLowest (ranks : List ℕ) (place : Place) : Type 0 where
  pub positive : 0 < slice_index ranks place.0
  pub zero_below : (i : ℕ) → i < place.0 → slice_index ranks i ≡ 0

-- the lowest place with a rank above 0, and none exactly when every rank is 0
abbrev pub LowestOrNone : List ℕ → Option Place → Type 0
LowestOrNone ranks r = MatchOption r (AllZero ranks) (IsLowest ranks)
