-- What a graph means, and what its questions answer. Assumes nothing.
use Rattle.std.specs.Prelude.{◌≡◌, ℕ, ◌-◌, ◌<◌, ◌≤◌, Bool, cond, ◌&&◌, Some, None, Option, MatchOption, ◌==◌, ◌≢◌, nat_lt}
use Rattle.std.specs.Option.{option_map}
use Rattle.graphs.specs.declared.traits.Edge.{Edge}
use Rattle.graphs.specs.declared.traits.Meeting.{Meeting}
use Rattle.firsts.specs.First.{first}

-- Places below `places`, rows below `rows`; edge k of place i leads to `row i k` and has the weight `weight i k`.
pub record GraphModel : Type 0 where
  pub places : ℕ
  pub rows : ℕ
  pub degree : ℕ
  pub row : ℕ → ℕ → ℕ
  pub weight : ℕ → ℕ → ℕ

-- The sizes that a graph may have.
pub record Sizes (places rows degree : ℕ) : Type 0 where
  pub some_place : 1 ≤ places
  pub few_places : places ≤ 512
  pub some_row : 1 ≤ rows
  pub few_rows : rows ≤ 512
  pub some_edge : 1 ≤ degree
  pub few_edges : degree ≤ 16
  pub enough_rows : degree ≤ rows

-- Every place has `degree` edges, to as many different rows, with weights that are not 0 and have 16 bits.
pub record Valid (g : GraphModel) : Type 0 where
  pub sizes : Sizes g.places g.rows g.degree
  pub row_below : (i k : ℕ) → i < g.places → k < g.degree → g.row i k < g.rows
  pub different : (i j k : ℕ) → i < g.places → j < k → k < g.degree → g.row i j ≢ g.row i k
  pub weight_low : (i k : ℕ) → i < g.places → k < g.degree → 1 ≤ g.weight i k
  pub weight_high : (i k : ℕ) → i < g.places → k < g.degree → g.weight i k ≤ 65535

abbrev pub when : {A : Type 0} → Bool → A → Option A
when b a = cond b (Some a) None

-- edge k of place i
abbrev pub edge_at : GraphModel → ℕ → ℕ → Option Edge
edge_at g i k = when (nat_lt i g.places && nat_lt k g.degree) (record { row = record { 0 = g.row i k }; weight = g.weight i k })

-- the weight of edge k of place i, if there is such a place and the edge leads to row j
abbrev pub weight_to : GraphModel → ℕ → ℕ → ℕ → Option ℕ
weight_to g j i k = when (nat_lt i g.places && g.row i k == j) (g.weight i k)

-- the weight of the edge between row j and place i, if they meet
abbrev pub weight_between : GraphModel → ℕ → ℕ → Option ℕ
weight_between g j i = first (weight_to g j i) 0 g.degree

-- place i with the weight of its edge to row j, if they meet
abbrev pub meeting : GraphModel → ℕ → ℕ → Option Meeting
meeting g j i = option_map (λ w. record { place = record { 0 = i }; weight = w }) (weight_between g j i)

-- the first place at or after p that row j meets, with that edge's weight
abbrev pub next_meeting : GraphModel → ℕ → ℕ → Option Meeting
next_meeting g j p = first (meeting g j) p (g.places - p)

-- place i has an edge of weight w to row j
abbrev pub HasEdge : GraphModel → ℕ → ℕ → ℕ → Type 0
HasEdge g i j w = (i < g.places) × ((k : ℕ) × (k < g.degree) × (g.row i k ≡ j) × (g.weight i k ≡ w))

-- m is where row j first meets a place at or after p
pub record Nearest (g : GraphModel) (j p : ℕ) (m : Meeting) : Type 0 where
  pub reached : p ≤ m.place.0
  pub edge : HasEdge g m.place.0 j m.weight
  pub none_before : (i w : ℕ) → p ≤ i → i < m.place.0 → HasEdge g i j w → ⊥

-- row j meets no place at or after p
abbrev pub NoneFrom : GraphModel → ℕ → ℕ → Type 0
NoneFrom g j p = (i w : ℕ) → p ≤ i → HasEdge g i j w → ⊥

abbrev pub NearestOrNone : GraphModel → ℕ → ℕ → Option Meeting → Type 0
NearestOrNone g j p r = MatchOption r (NoneFrom g j p) (Nearest g j p)
