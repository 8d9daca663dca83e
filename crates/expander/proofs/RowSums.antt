-- How a row sum follows the symbols. Assumes nothing.
use Rattle.std.proofs.Common.{◌≡◌, ℕ, zero, suc, ◌<◌, true, false, ◌≢◌, sym, refl, ap, ◌∙◌, ap₂, ⊎_elim, arith}
use Rattle.std.proofs.lemmas.Bool.{cases_eq, cases_Bool}
use Rattle.fields.specs.Models.{FieldModel}
use Rattle.graphs.specs.Models.{GraphModel}
use Rattle.expander.specs.Words.{meets, total, coefficient, row_sum}
use Rattle.expander.proofs.FieldLaws.{zero-times, step_to, stepped}
use Rattle.expander.proofs.Edges.{coefficient_none}

module _ {F : Type 0} (f : FieldModel F) where
  pub total_same : (n : ℕ) (h k : ℕ → F) → ((i : ℕ) → i < n → h i ≡ k i) → total f n h ≡ total f n k
  unfolding total
  total_same zero h k e = refl
  total_same (suc n) h k e = ap₂ f.plus (total_same n h k (λ i l. e i (omega arith))) (e n (omega arith))

  plus_swap : (x y z : F) → f.plus (f.plus x y) z ≡ f.plus (f.plus x z) y
  plus_swap x y z = f.plus_assoc x y z ∙ ap (f.plus x) (f.plus_comm y z) ∙ sym (f.plus_assoc x z y)

  -- one summand grows by d
  pub total_one : (n i : ℕ) (h k : ℕ → F) (d : F) → i < n → ((a : ℕ) → a < n → a ≢ i → k a ≡ h a) → k i ≡ f.plus (h i) d → total f n k ≡ f.plus (total f n h) d
  unfolding total
  total_one zero i h k d l others here = absurd (omega arith)
  total_one (suc n) i h k d l others here =
      ⊎_elim
      (λ (same : i ≡ n).
      ap₂ f.plus (total_same n k h (λ a b. others a (omega arith) (omega arith))) (ap k (sym same) ∙ here ∙ ap (λ a. f.plus (h a) d) same)
      ∙ sym (f.plus_assoc (total f n h) (h n) d))
      (λ (apart : i ≡ n → ⊥).
      ap₂ f.plus (total_one n i h k d (omega arith) (λ a b. others a (omega arith)) here) (others n (omega arith) (λ e. apart (sym e)))
      ∙ plus_swap (total f n h) d (h n))
      (cases_eq i n)

module _ {F : Type 0} (f : FieldModel F) (g : GraphModel) where
  -- what a place adds to a row's sum is fixed by its symbol, or zero where they do not meet
  term_same : (w x : ℕ → F) (j i : ℕ) → (meets g j i ≡ true → w i ≡ x i) → f.times (coefficient f g j i) (w i) ≡ f.times (coefficient f g j i) (x i)
  term_same w x j i e =
      ⊎_elim
      (λ (met : meets g j i ≡ true). ap (f.times (coefficient f g j i)) (e met))
      (λ (none : meets g j i ≡ false). rw (coefficient_none f g j i none, zero-times f, zero-times f))
      (cases_Bool (meets g j i))

  -- the sum of a row along which two words agree
  pub row_same : (w x : ℕ → F) (j : ℕ) → ((i : ℕ) → i < g.places → meets g j i ≡ true → w i ≡ x i) → row_sum f g w j ≡ row_sum f g x j
  row_same w x j e = total_same f g.places _ _ (λ i l. term_same w x j i (e i l))

  -- the sum of a row along which two words agree but at place i
  pub row_one : (w x : ℕ → F) (j i : ℕ) → i < g.places → ((a : ℕ) → a < g.places → a ≢ i → meets g j a ≡ true → w a ≡ x a)
      → row_sum f g w j ≡ f.plus (row_sum f g x j) (f.times (coefficient f g j i) (step_to f (w i) (x i)))
  row_one w x j i hi e =
      total_one f g.places i _ _ (f.times (coefficient f g j i) (step_to f (w i) (x i))) hi (λ a l apart. term_same w x j a (e a l apart))
      (ap (f.times (coefficient f g j i)) (sym (stepped f (w i) (x i))) ∙ f.times-plus (coefficient f g j i) (x i) (step_to f (w i) (x i)))
