-- What one edge says of the weight between a row and a place. Assumes nothing.
use Rattle.std.proofs.Common.{◌≡◌, ℕ, ◌<◌, Bool, true, false, ◌&&◌, eqb, ltb, None, Option, MatchOption, subst}
use Rattle.std.proofs.lemmas.Bool.{lt-ltb}
use Rattle.graphs.specs.declared.traits.Edge.{Edge}
use Rattle.graphs.specs.Models.{GraphModel, when, edge_at, weight_to}

-- the answer that edge k of a place gives to a row: its weight, where it leads to the row
abbrev pub Weighed : ℕ → Option Edge → Option ℕ → Type 0
Weighed j e o = MatchOption e (o ≡ None) (λ e. o ≡ when (eqb e.row.0 j) e.weight)

module _ (g : GraphModel) (j i k : ℕ) (o : Option ℕ) where
  abbrev edge : Edge
  edge = record { row = record { 0 = g.row i k }; weight = g.weight i k }

  weighed_here : (b : Bool) → Weighed j (when (b && true) edge) o → o ≡ when (b && eqb (g.row i k) j) (g.weight i k)
  weighed_here true h = h
  weighed_here false h = h

  pub weighed : k < g.degree → Weighed j (edge_at g i k) o → o ≡ weight_to g j i k
  weighed h w = weighed_here (ltb i g.places) (subst (λ b. Weighed j (when (ltb i g.places && b) edge) o) (lt-ltb k g.degree h) w)
