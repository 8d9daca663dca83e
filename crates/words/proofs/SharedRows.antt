-- The places that rows meet, one edge after another. Assumes nothing.
use Rattle.std.proofs.Common.{◌≡◌, ℕ, ◌+◌, ◌<◌, ◌≤◌, Bool, true, false, ◌&&◌, ◌||◌, List, length, get_or, nat_lt, sym, ap, ap₂, ◌∙◌, ⊎_elim, add-one, arith}
use Rattle.std.proofs.Math.Bool.{and-false}
use Rattle.std.proofs.lemmas.Bool.{cases_Bool, lt-ltb}
use Rattle.bitsets.specs.declared.sets.BitSet.{BitSet}
use Rattle.bitsets.specs.Sets.{has}
use Rattle.graphs.specs.Models.{GraphModel}
use Rattle.expander.specs.Words.{meets}
use Rattle.expander.proofs.Edges.{edge_of}
use Rattle.words.specs.declared.neighbours.Neighbours.{Neighbours}
use Rattle.words.specs.Neighbours.{any_below, NeighboursOf}

-- a row meets no place past the last
met_below : (g : GraphModel) (j i : ℕ) → (nat_lt i g.places && meets g j i) ≡ meets g j i
met_below g j i =
    ⊎_elim
    (λ (met : meets g j i ≡ true). ap (λ b. b && meets g j i) (lt-ltb i g.places (edge_of g j i met).2.0))
    (λ (none : meets g j i ≡ false). ap (λ b. nat_lt i g.places && b) none ∙ and-false (nat_lt i g.places) ∙ sym none)
    (cases_Bool (meets g j i))

-- where the places before place n are all, the members among them that meet the row are all that meet it
pub met_all : (g : GraphModel) (j i : ℕ) (r : Bool) (n : ℕ) → n ≡ g.places → r ≡ (nat_lt i n && meets g j i) → r ≡ meets g j i
met_all g j i r n all told = told ∙ ap (λ m. nat_lt i m && meets g j i) all ∙ met_below g j i

-- one of n + 1 numbers passes if one of the first n does, or the last
any_more : (p : ℕ → Bool) (n : ℕ) → any_below (n + 1) p ≡ (any_below n p || p n)
unfolding any_below
any_more p n = ap (λ m. any_below m p) (add-one n)

module _ (g : GraphModel) (t : Neighbours) (table : NeighboursOf g t) (sets : List BitSet) (same : sets ≡ t.places.items) (p k : ℕ) (low : g.row p k < g.rows) (r : ℕ) (leads : r ≡ g.row p k) where
  -- there is a set for the row of an edge
  pub some_set : length sets ≤ r → ⊥
  some_set past = omega (arith, ap length same, table.long, low, leads)

  -- the row of edge k meets one place more, or none
  pub set_more : (i : ℕ) (set : BitSet) → set ≡ get_or sets r set → (old : Bool) → old ≡ any_below k (λ l. meets g (g.row p l) i) → (old || has set i) ≡ any_below (k + 1) (λ l. meets g (g.row p l) i)
  set_more i set at old known =
      let here : has set i ≡ meets g (g.row p k) i = ap (λ s. has s i) (at ∙ ap₂ (λ xs n. get_or xs n set) same leads) ∙ table.places (g.row p k) i set low in
      ap₂ ◌||◌ known here ∙ sym (any_more (λ l. meets g (g.row p l) i) k)
