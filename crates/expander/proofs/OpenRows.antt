-- How the open rows follow one symbol, and how many there are beside a codeword. Assumes nothing.
use Rattle.std.proofs.Common.{◌≡◌, ℕ, ◌+◌, ◌*◌, ◌<◌, ◌≤◌, true, false, not, ◌⊎◌, ◌≢◌, set, sym, ap, ◌∙◌, inl, inr, ⊎_elim, mul_comm, arith, get_or-set_same}
use Rattle.std.proofs.lemmas.Bool.{not-false, not_from_true, true_from_ne_false, false_from_ne_true, cases_lt, cases_Bool}
use Rattle.bitsets.specs.Bits.{count}
use Rattle.fields.specs.Models.{FieldModel}
use Rattle.graphs.specs.Models.{GraphModel, Valid}
use Rattle.expander.specs.Words.{meets, same, is_zero, symbols, distance, coefficient, row_sum, is_open, open_row_count, WeightsFit}
use Rattle.expander.specs.Votes.{proposes, votes}
use Rattle.expander.specs.WordLaws.{OverwritesTouchFewRows, ChangesCloseRows, OpenRowsCountErrors}
use Rattle.expander.proofs.Sums.{bit, bit_le, sum, count-sum, count_le, count_cover, count_twice, sum_same, sum_le, sum-times, sum_swap, sum_member}
use Rattle.expander.proofs.FieldLaws.{plus_cancel, step_to, stepped, true_zero, zero_true, true_same, closes}
use Rattle.expander.proofs.Edges.{rows_are_degree, degree_counts, coefficient_some}
use Rattle.expander.proofs.RowSums.{row_same, row_one}
use Rattle.expander.proofs.Distances.{differ, distance-sum, not_differ, put_others}
use Rattle.expander.proofs.Majorities.{proposed}

module _ {F : Type 0} (f : FieldModel F) (g : GraphModel) where
  pub open-sum : (w : ℕ → F) → open_row_count f g w ≡ sum g.rows (λ j. bit (is_open f g w j))
  open-sum w = count-sum g.rows (is_open f g w)

  pub closed_row : (w : ℕ → F) (j : ℕ) → row_sum f g w j ≡ f.element 0 → is_open f g w j ≡ false
  closed_row w j e = not_from_true (is_zero f (row_sum f g w j)) (true_zero f (row_sum f g w j) e)

  -- rows with one sum are open together
  pub open_same : (w x : ℕ → F) (j : ℕ) → row_sum f g w j ≡ row_sum f g x j → is_open f g w j ≡ is_open f g x j
  open_same w x j e = ap (λ s. not (is_zero f s)) e

  -- no row is open where none is counted
  pub no_open : (x : ℕ → F) → open_row_count f g x ≡ 0 → (j : ℕ) → j < g.rows → row_sum f g x j ≡ f.element 0
  no_open x none j l =
      let one = sum_member g.rows j (λ k. bit (is_open f g x k)) l in
      zero_true f (row_sum f g x j) (not-false (is_zero f (row_sum f g x j)) (false_from_ne_true (is_open f g x j) (λ t. omega (arith, one, ap bit t, open-sum x))))

  -- two words that differ at place i alone
  module _ (ok : Valid g) (w x : ℕ → F) (i : ℕ) (hi : i < g.places) (others : (a : ℕ) → a < g.places → a ≢ i → x a ≡ w a) where
    far_row : (j : ℕ) → meets g j i ≡ false → row_sum f g x j ≡ row_sum f g w j
    far_row j none = row_same f g x w j (λ a l met. others a l (λ e. cc))

    pub few_changed : count g.rows (λ j. not (same f (row_sum f g w j) (row_sum f g x j))) ≤ g.degree
    few_changed =
        let met = count_le g.rows (λ j. not (same f (row_sum f g w j) (row_sum f g x j))) (λ j. meets g j i)
        (λ j l t. true_from_ne_false (meets g j i) (λ none. cc (t, true_same f (row_sum f g w j) (row_sum f g x j) (sym (far_row j none))))) in
        omega (arith, degree_counts g ok i hi, met)

    -- a row that is open then was open, or meets the place
    opened : (j : ℕ) → is_open f g x j ≡ true → (is_open f g w j ≡ true) ⊎ (meets g j i ≡ true)
    opened j t =
        ⊎_elim (λ (met : meets g j i ≡ true). inr met) (λ (none : meets g j i ≡ false). inl (open_same w x j (sym (far_row j none)) ∙ t)) (cases_Bool (meets g j i))

    pub few_opened : open_row_count f g x ≤ open_row_count f g w + g.degree
    few_opened = omega (arith, count_cover g.rows (is_open f g x) (is_open f g w) (λ j. meets g j i) (λ j l. opened j), degree_counts g ok i hi)

    -- the symbol at i grows by d: every row that proposes d closes
    pub closed_by : WeightsFit f g → (d : F) → x i ≡ f.plus (w i) d → open_row_count f g x + 2 * votes f g w i d ≤ open_row_count f g w + g.degree
    closed_by fit d here =
        omega (arith, count_twice g.rows (is_open f g x) (proposes f g w i d) (is_open f g w) (λ j. meets g j i) (λ j l. opened j) (λ j l. row j), degree_counts g ok i hi)
      where
        row : (j : ℕ) → proposes f g w i d j ≡ true → (is_open f g x j ≡ false) × (is_open f g w j ≡ true) × (meets g j i ≡ true)
        row j t =
            let p = proposed f g w i d j t in
            let h = coefficient f g j i in
            let grown : step_to f (x i) (w i) ≡ d = plus_cancel f (w i) (step_to f (x i) (w i)) d (stepped f (x i) (w i) ∙ here) in
            let closed : row_sum f g x j ≡ f.element 0 =
            row_one f g x w j i hi (λ a l apart met. others a l apart) ∙ ap (λ e. f.plus (row_sum f g w j) (f.times h e)) (grown ∙ sym p.2)
            ∙ closes f (row_sum f g w j) h (coefficient_some f g ok fit j i p.0) in
            (closed_row x j closed, p.1, p.0)

  -- the places that row j meets and where two words differ
  abbrev pub wrong_at : (ℕ → F) → (ℕ → F) → ℕ → ℕ
  wrong_at w x j = sum g.places (λ i. bit (meets g j i) * bit (differ f w x i))

  -- a row along which no place differs
  pub none_wrong : (w x : ℕ → F) (j : ℕ) → wrong_at w x j ≡ 0 → row_sum f g w j ≡ row_sum f g x j
  none_wrong w x j none =
      row_same f g w x j (λ i l met.
      not_differ f w x i
      (omega (arith, sum_member g.places i (λ a. bit (meets g j a) * bit (differ f w x a)) l, ap (λ b. bit b * bit (differ f w x i)) met)))

  module _ (ok : Valid g) where
    -- the wrong places of all rows together are c for each wrong place
    pub wrong_sum : (w x : ℕ → F) → sum g.rows (wrong_at w x) ≡ g.degree * distance f g.places w x
    wrong_sum w x =
        let wrong : ℕ → ℕ = λ i. bit (differ f w x i) in
        sum_swap g.rows g.places (λ j i. bit (meets g j i) * wrong i)
        ∙ sum_same g.places _ _ (λ i l. sum-times g.rows (wrong i) (λ j. bit (meets g j i)) ∙ ap (λ c. c * wrong i) (rows_are_degree g ok i l) ∙ mul_comm g.degree (wrong i))
        ∙ sum-times g.places g.degree wrong ∙ mul_comm (sum g.places wrong) g.degree ∙ ap (λ e. g.degree * e) (sym (distance-sum f g.places w x))

    pub open_errors : (w x : ℕ → F) → open_row_count f g x ≡ 0 → open_row_count f g w ≤ g.degree * distance f g.places w x
    open_errors w x none =
        let each = sum_le g.rows (λ j. bit (is_open f g w j)) (wrong_at w x) row in
        omega (arith, each, open-sum w, wrong_sum w x)
      where
        row : (j : ℕ) → j < g.rows → bit (is_open f g w j) ≤ wrong_at w x j
        row j l =
            bit_le (is_open f g w j) (wrong_at w x j) (λ t.
            ⊎_elim (λ (some : 0 < wrong_at w x j). omega arith)
            (λ (zero : wrong_at w x j ≤ 0). cc (closed_row w j (none_wrong w x j (omega arith) ∙ no_open x none j l)))
            (cases_lt 0 (wrong_at w x j)))

pub overwrites_touch_few_rows_lem : (F : Type 0) → OverwritesTouchFewRows F
overwrites_touch_few_rows_lem F f g ok w i s hi =
    let others = put_others f g.places w i s in
    (few_changed f g ok (symbols f w) (symbols f (set w i s)) i hi others, few_opened f g ok (symbols f w) (symbols f (set w i s)) i hi others)

pub changes_close_rows_lem : (F : Type 0) → ChangesCloseRows F
changes_close_rows_lem F f g ok fit w i v d long hi r =
    let s = f.plus (symbols f w i) d in
    let fewer = closed_by f g ok (symbols f w) (symbols f (set w i s)) i hi (put_others f g.places w i s) fit d (get_or-set_same w i s (f.element 0) (omega arith)) in
    (omega (arith, fewer, r.by), omega (arith, fewer, r.by, r.most))

pub open_rows_count_errors_lem : (F : Type 0) → OpenRowsCountErrors F
open_rows_count_errors_lem F f g ok w x code = open_errors f g ok (symbols f w) (symbols f x) code.closed
