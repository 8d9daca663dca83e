-- The sums of rows while a change is added to those of a place's edges, one edge after another. Assumes nothing.
use Rattle.std.proofs.Common.{◌≡◌, ℕ, ◌+◌, ◌<◌, true, false, ◌≢◌, List, length, get_or, set, sym, ap, ap₂, subst, ◌∙◌, ⊎_elim, arith, get_or-set_other}
use Rattle.std.proofs.lemmas.List.{length-set, get_or_default}
use Rattle.std.proofs.lemmas.Grind.{get_or-set_at}
use Rattle.std.proofs.lemmas.Bool.{cases_eq, cases_Bool}
use Rattle.fields.specs.Models.{FieldModel}
use Rattle.graphs.specs.Models.{GraphModel, Valid}
use Rattle.expander.specs.Words.{meets, coefficient, WeightsFit}
use Rattle.expander.proofs.FieldLaws.{zero-times}
use Rattle.expander.proofs.Edges.{edge_of, no_edge_of, coefficient_none, coefficient_edge}

module _ {F : Type 0} (f : FieldModel F) (g : GraphModel) where
  -- The change was added to the rows of the first n edges of place i, by the weights of the edges, and to no other row.
  pub record Added (i : ℕ) (change : F) (n : ℕ) (before after : List F) : Type 0 where
    pub long : length after ≡ g.rows
    pub met : WeightsFit f g → (k : ℕ) (d : F) → k < n → get_or after (g.row i k) d ≡ f.plus (get_or before (g.row i k) d) (f.times (f.element (g.weight i k)) change)
    pub others : (j : ℕ) (d : F) → ((k : ℕ) → k < n → g.row i k ≢ j) → get_or after j d ≡ get_or before j d

  module _ (ok : Valid g) (i : ℕ) (hi : i < g.places) (change : F) where
    pub added_more : (n : ℕ) (before after : List F) (r : ℕ) (x y term weight : F) → n < g.degree → Added i change n before after → r ≡ g.row i n
        → x ≡ get_or after r x → (WeightsFit f g → weight ≡ f.element (g.weight i n)) → term ≡ f.times weight change → y ≡ f.plus x term
        → Added i change (n + 1) before (set after r y)
    added_more n before after r x y term weight hn a e is fits product grown =
        let inside : r < length after = omega (arith, a.long, ok.row_below i n hi hn) in
        let untouched : (k : ℕ) → k < n → g.row i k ≢ r = λ k l q. ok.different i k n hi l hn (q ∙ e) in
        let read : (d : F) → x ≡ get_or before r d = λ d. is ∙ get_or_default after r x d inside ∙ a.others r d untouched in
        record {
          long = length-set after r y ∙ a.long;
          met = λ fit k d l.
              ⊎_elim
              (λ (same : k ≡ n).
              let row : g.row i k ≡ r = ap (g.row i) same ∙ sym e in
              get_or-set_at after r (g.row i k) y d row inside ∙ grown ∙ ap (f.plus x) product
              ∙ ap₂ (λ p w. f.plus p (f.times w change)) (read d ∙ ap (λ q. get_or before q d) (sym row)) (fits fit ∙ ap (λ m. f.element (g.weight i m)) (sym same)))
              (λ (apart : k ≡ n → ⊥).
              let less : k < n = omega arith in
              get_or-set_other after r (g.row i k) y d (untouched k less) ∙ a.met fit k d less)
              (cases_eq k n);
          others = λ j d apart. get_or-set_other after r j y d (λ q. apart n (omega arith) (sym e ∙ sym q)) ∙ a.others j d (λ k l. apart k (omega arith));
        }

    -- where all edges were gone through, each row has the change by its coefficient
    pub added_all : (before after : List F) → Added i change g.degree before after → WeightsFit f g → (j : ℕ) (d : F)
        → get_or after j d ≡ f.plus (get_or before j d) (f.times (coefficient f g j i) change)
    added_all before after a fit j d =
        ⊎_elim
        (λ (met : meets g j i ≡ true).
        let (k, hk, er, ew) = (edge_of g j i met).2.1 in
        let at : get_or after (g.row i k) d ≡ f.plus (get_or before (g.row i k) d) (f.times (coefficient f g (g.row i k) i) change) =
        a.met fit k d hk ∙ ap (λ w. f.plus (get_or before (g.row i k) d) (f.times w change)) (sym (coefficient_edge f g ok i k hi hk)) in
        subst (λ r. get_or after r d ≡ f.plus (get_or before r d) (f.times (coefficient f g r i) change)) er at)
        (λ (none : meets g j i ≡ false).
        a.others j d (λ k l e. no_edge_of g j i k none hi l e)
        ∙ sym (ap (f.plus (get_or before j d)) (ap (λ w. f.times w change) (coefficient_none f g j i none) ∙ zero-times f change) ∙ f.plus-zero (get_or before j d)))
        (cases_Bool (meets g j i))
