-- The rows of a place's edges, one edge after another. Assumes nothing.
use Rattle.std.proofs.Common.{◌≡◌, ℕ, zero, suc, ◌+◌, ◌<◌, Bool, true, false, cond, ◌&&◌, ◌||◌, eqb, ltb, is_some, Some, None, Option, sym, refl, ap, ◌∙◌, ap₂, add-one, arith}
use Rattle.std.proofs.Math.Bool.{or_assoc, or-false}
use Rattle.std.proofs.lemmas.Bool.{and_parts, ltb-true}
use Rattle.std.proofs.lemmas.Bool.Decides.{nat_tests}
use Rattle.std.proofs.lemmas.Option.{cond_some}
use Rattle.firsts.specs.First.{or_else, first}
use Rattle.firsts.proofs.Firsts.{some≢none}
use Rattle.graphs.specs.declared.traits.Edge.{Edge}
use Rattle.graphs.specs.Models.{GraphModel, Valid, edge_at, weight_to}

or_else_some : {A : Type 0} (x y : Option A) → is_some (or_else x y) ≡ (is_some x || is_some y)
or_else_some None y = refl
or_else_some (Some a) y = refl

-- there is an answer among n + 1 numbers if there is one among the first n, or at the last
first_longer : {A : Type 0} (f : ℕ → Option A) (k n : ℕ) → is_some (first f k (suc n)) ≡ (is_some (first f k n) || is_some (f (k + n)))
first_longer f k zero = let e : k + 0 ≡ k = omega arith in rw e (or_else_some (f k) None ∙ or-false (is_some (f k)))
first_longer f k (suc n) =
    let e : suc k + n ≡ k + suc n = omega arith in
    or_else_some (f k) (first f (suc k) (suc n))
    ∙ ap (λ b. is_some (f k) || b) (first_longer f (suc k) n)
    ∙ sym (or_assoc (is_some (f k)) (is_some (first f (suc k) n)) (is_some (f (suc k + n))))
    ∙ ap₂ ◌||◌ (sym (or_else_some (f k) (first f (suc k) n))) (ap (λ m. is_some (f m)) e)

is_some-cond : {A : Type 0} (b : Bool) (x : A) → is_some (cond b (Some x) None) ≡ b
is_some-cond true x = refl
is_some-cond false x = refl

cond_none : {A : Type 0} (b : Bool) (x : A) → cond b (Some x) None ≡ None → b ≡ false
cond_none true x h = absurd (some≢none x h)
cond_none false x h = refl

edge_test : (j n a i p : ℕ) → a ≡ n → n < 512 → i < p → (eqb j n && ltb n 512) ≡ (ltb i p && eqb a j)
edge_test j n a i p same few l = grind (arith, nat_tests)

no_edge_test : (j a i p k c : ℕ) → (ltb i p && ltb k c) ≡ false → k < c → false ≡ (ltb i p && eqb a j)
no_edge_test j a i p k c none l = grind (arith, nat_tests)

module _ (g : GraphModel) (j i k : ℕ) where
  answer_test : is_some (weight_to g j i k) ≡ (ltb i g.places && eqb (g.row i k) j)
  answer_test = is_some-cond (ltb i g.places && eqb (g.row i k) j) (g.weight i k)

  abbrev answers : ℕ → Bool
  answers n = is_some (first (weight_to g j i) 0 n)

  more : (old b : Bool) → old ≡ answers k → b ≡ is_some (weight_to g j i k) → (old || b) ≡ answers (k + 1)
  more old b known here =
      let e : 0 + k ≡ k = omega arith in
      rw add-one (ap₂ ◌||◌ known (here ∙ ap (λ m. is_some (weight_to g j i m)) (sym e)) ∙ sym (first_longer (weight_to g j i) 0 k))

  -- where edge k leads to a row, that row is a member too
  pub edge_more : Valid g → k < g.degree → (r : Option Edge) (e : Edge) → r ≡ edge_at g i k → r ≡ Some e → (old : Bool) (n : ℕ) → old ≡ answers k → n ≡ e.row.0
      → (old || (eqb j n && ltb n 512)) ≡ answers (k + 1)
  edge_more ok hk r e asked some old n known is =
      let s = cond_some (ltb i g.places && ltb k g.degree) (record { row = record { 0 = g.row i k }; weight = g.weight i k }) e (sym asked ∙ some) in
      let place = ltb-true i g.places (and_parts (ltb i g.places) (ltb k g.degree) s.0).0 in
      let leads : g.row i k ≡ n = ap (λ (d : Edge). d.row.0) s.1 ∙ sym is in
      let few : n < 512 = omega (arith, ok.row_below i k place hk, ok.sizes.few_rows) in
      more old _ known (edge_test j n (g.row i k) i g.places leads few place ∙ sym answer_test)

  -- where place i has no edge k, the members stay as they are
  pub no_edge_more : k < g.degree → (r : Option Edge) → r ≡ edge_at g i k → r ≡ None → (old : Bool) → old ≡ answers k → old ≡ answers (k + 1)
  no_edge_more hk r asked none old known = sym (or-false old) ∙ more old false known (no_edge_test j (g.row i k) i g.places k g.degree (cond_none _ _ (sym asked ∙ none)) hk ∙ sym answer_test)
