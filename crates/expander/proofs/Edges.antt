-- The rows that a place meets, by its edges. Assumes nothing.
use Rattle.std.proofs.Common.{◌≡◌, ℕ, ◌*◌, ◌<◌, ◌≤◌, true, false, eqb, ◌≢◌, is_some, Some, None, Option, sym, refl, ap, ◌∙◌, ⊎_elim, one-mul, zero-mul, mul-one, arith}
use Rattle.std.proofs.lemmas.Bool.{lt-ltb, eq-eqb, ne_eqb, cases_lt, cases_Bool}
use Rattle.firsts.proofs.Firsts.{none_from, first_only}
use Rattle.bitsets.specs.Bits.{count}
use Rattle.fields.specs.Models.{FieldModel}
use Rattle.graphs.specs.Models.{GraphModel, Valid, HasEdge, weight_to, weight_between}
use Rattle.graphs.proofs.Meetings.{found, shown}
use Rattle.expander.specs.Words.{meets, weight_element, coefficient, WeightsFit}
use Rattle.expander.proofs.Sums.{bit, sum, count-sum, sum_same, sum-zero, sum-times, sum_swap, sum_single, sum_ones}
use Rattle.expander.proofs.FieldLaws.{code-zero}

some_of : {A : Type 0} (o : Option A) → is_some o ≡ true → (a : A) × (o ≡ Some a)
some_of None h = cc
some_of (Some a) h = (a, refl)

module _ (g : GraphModel) where
  -- a row that meets a place has an edge to it
  pub edge_of : (j i : ℕ) → meets g j i ≡ true → (w : ℕ) × (weight_between g j i ≡ Some w) × HasEdge g i j w
  edge_of j i h = let s = some_of (weight_between g j i) h in (s.0, s.1, found g j i s.0 s.1)

  pub no_edge_of : (j i k : ℕ) → meets g j i ≡ false → i < g.places → k < g.degree → g.row i k ≡ j → ⊥
  no_edge_of j i k h hi hk e = shown g j i (g.weight i k) (none_from (weight_between g j i) h) (hi, (k, hk, e, refl))

  module _ (ok : Valid g) where
    -- two edges of a place that lead to one row are one edge
    pub same_edge : (i k l : ℕ) → i < g.places → k < g.degree → l < g.degree → g.row i k ≡ g.row i l → k ≢ l → ⊥
    same_edge i k l hi hk hl e apart =
        ⊎_elim (λ (less : k < l). ok.different i k l hi less hl e) (λ (more : l ≤ k). ok.different i l k hi (omega arith) hk (sym e)) (cases_lt k l)

    -- the weight between a place and the row of its edge k is that of the edge
    pub weight_of_edge : (i k : ℕ) → i < g.places → k < g.degree → weight_between g (g.row i k) i ≡ Some (g.weight i k)
    weight_of_edge i k hi hk =
        sym (first_only (weight_to g (g.row i k) i) 0 g.degree (Some (g.weight i k)) (record {
          at = k;
          from = omega arith;
          within = omega arith;
          here = rw (lt-ltb i g.places hi, eq-eqb (g.row i k) (g.row i k) refl);
          before = λ a low less. rw (lt-ltb i g.places hi, ne_eqb (g.row i a) (g.row i k) (ok.different i a k hi less hk));
        }))

    -- a row meets a place by one edge or by none
    meets-sum : (i j : ℕ) → i < g.places → bit (meets g j i) ≡ sum g.degree (λ k. bit (eqb (g.row i k) j))
    meets-sum i j hi =
        ⊎_elim
        (λ (met : meets g j i ≡ true).
        let (k, hk, er, ew) = (edge_of j i met).2.1 in
        let one = sum_single g.degree k (λ a. bit (eqb (g.row i a) j)) hk (λ a ha apart. ap bit (ne_eqb (g.row i a) j (λ e. same_edge i a k hi ha hk (e ∙ sym er) apart))) in
        omega (arith, ap bit met, ap bit (eq-eqb (g.row i k) j er), one))
        (λ (none : meets g j i ≡ false).
        omega (arith, ap bit none, sum-zero g.degree (λ a. bit (eqb (g.row i a) j)) (λ a ha. ap bit (ne_eqb (g.row i a) j (no_edge_of j i a none hi ha)))))
        (cases_Bool (meets g j i))

    -- a sum over the rows that a place meets is one over its edges
    pub rows_of_place : (i : ℕ) (h : ℕ → ℕ) → i < g.places → sum g.rows (λ j. bit (meets g j i) * h j) ≡ sum g.degree (λ k. h (g.row i k))
    rows_of_place i h hi =
        sum_same g.rows _ _ (λ j l. rw (meets-sum i j hi) (sym (sum-times g.degree (h j) (λ k. bit (eqb (g.row i k) j)))))
        ∙ sum_swap g.rows g.degree (λ j k. bit (eqb (g.row i k) j) * h j)
        ∙ sum_same g.degree _ _ (λ k hk.
        sum_single g.rows (g.row i k) (λ j. bit (eqb (g.row i k) j) * h j) (ok.row_below i k hi hk)
        (λ j l apart. rw (ne_eqb (g.row i k) j (λ e. apart (sym e))) (zero-mul (h j)))
        ∙ rw (eq-eqb (g.row i k) (g.row i k) refl) (one-mul (h (g.row i k))))

    -- a place meets as many rows as it has edges
    pub rows_are_degree : (i : ℕ) → i < g.places → sum g.rows (λ j. bit (meets g j i)) ≡ g.degree
    rows_are_degree i hi =
        sum_same g.rows _ _ (λ j l. sym (mul-one (bit (meets g j i)))) ∙ rows_of_place i (λ j. 1) hi ∙ sum_ones g.degree

    pub degree_counts : (i : ℕ) → i < g.places → count g.rows (λ j. meets g j i) ≡ g.degree
    degree_counts i hi = count-sum g.rows (λ j. meets g j i) ∙ rows_are_degree i hi

module _ {F : Type 0} (f : FieldModel F) (g : GraphModel) where
  pub coefficient_none : (j i : ℕ) → meets g j i ≡ false → coefficient f g j i ≡ f.element 0
  coefficient_none j i none = ap (weight_element f) (none_from (weight_between g j i) none)

  pub coefficient_some : Valid g → WeightsFit f g → (j i : ℕ) → meets g j i ≡ true → coefficient f g j i ≡ f.element 0 → ⊥
  coefficient_some ok fit j i met z =
      let e = edge_of g j i met in
      let (k, hk, er, ew) = e.2.1 in
      let weight : f.code (f.element e.0) ≡ e.0 = f.code-element e.0 (omega (arith, fit i k e.2.0 hk)) in
      let none : f.code (f.element e.0) ≡ 0 = ap f.code (sym (ap (weight_element f) e.1) ∙ z) ∙ code-zero f in
      omega (arith, ok.weight_low i k e.2.0 hk)

  -- the coefficient at an edge is the edge's weight
  pub coefficient_edge : Valid g → (i k : ℕ) → i < g.places → k < g.degree → coefficient f g (g.row i k) i ≡ f.element (g.weight i k)
  coefficient_edge ok i k hi hk = ap (weight_element f) (weight_of_edge g ok i k hi hk)
