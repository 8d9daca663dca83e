-- Rows that a set of places meets once, and how few errors show in them. Assumes nothing.
use Rattle.std.proofs.Common.{◌≡◌, ℕ, zero, suc, ◌+◌, ◌*◌, ◌<◌, ◌≤◌, Bool, true, false, cond, eqb, ltb, ◌≢◌, List, [], ◌∷◌, length, sym, refl, ap, ◌∙◌, ap₂, add-zero, mul-zero, mul-suc, arith}
use Rattle.std.proofs.lemmas.Bool.{not_from_false, and_from, eqb-true, ltb-true}
use Rattle.std.proofs.lemmas.Bool.Decides.{nat_tests}
use Rattle.bitsets.specs.Bits.{count}
use Rattle.bitsets.proofs.Counts.{count_same}
use Rattle.fields.specs.Models.{FieldModel}
use Rattle.graphs.specs.Models.{GraphModel, Valid}
use Rattle.expander.specs.Words.{meets, is_zero, symbols, distance, coefficient, row_sum, is_open, open_row_count, WeightsFit}
use Rattle.expander.specs.Votes.{proposal, proposes, votes, rank}
use Rattle.expander.specs.Sets.{Rising}
use Rattle.expander.specs.Expansion.{meetings, rows_met, AllExpand}
use Rattle.expander.specs.WordLaws.{rows_met_once, UniqueRowsAbound, ErrorsShow}
use Rattle.expander.proofs.Sums.{bit, bit_le, sum, count-sum, count_le, sum_same, sum_le, sum-zero, sum-add, sum-times, sum_swap, sum_member, sum_exceeds, one_in}
use Rattle.expander.proofs.FieldLaws.{zero-plus, times_zero, times_cancel, step_to, stepped, only_closing, false_zero, true_same}
use Rattle.expander.proofs.SetLists.{rising_lower}
use Rattle.expander.proofs.Edges.{rows_are_degree, coefficient_some}
use Rattle.expander.proofs.RowSums.{row_one}
use Rattle.expander.proofs.Majorities.{proposed, majority_ranks}
use Rattle.expander.proofs.Distances.{differ, distance-sum, not_differ}
use Rattle.expander.proofs.OpenRows.{wrong_at, no_open}

module _ (g : GraphModel) where
  -- all rows together meet a set c times for each of its places
  pub meetings-sum : Valid g → (low : ℕ) (V : List ℕ) → Rising low g.places V → sum g.rows (meetings g V) ≡ g.degree * length V
  unfolding meetings
  meetings-sum ok low [] up = sum-zero g.rows (λ j. 0) (λ j l. refl) ∙ sym (mul-zero g.degree)
  meetings-sum ok low (p ∷ V) up =
      sum-add g.rows (λ j. bit (meets g j p)) (meetings g V)
      ∙ omega (arith, rows_are_degree g ok p up.1, meetings-sum ok (suc p) V up.2, mul-suc g.degree (length V))

-- a row that meets a set more than once meets two of its places at least
twice : (d : ℕ) → bit (ltb 0 d) + bit (ltb 0 d) ≤ d + bit (eqb d 1)
twice d = grind (arith, nat_tests)

pub unique_rows_abound_lem : UniqueRowsAbound
unique_rows_abound_lem g ok V up more =
    let met : ℕ → ℕ = λ j. bit (ltb 0 (meetings g V j)) in
    let once : ℕ → ℕ = λ j. bit (eqb (meetings g V j) 1) in
    let each = sum_le g.rows (λ j. met j + met j) (λ j. meetings g V j + once j) (λ j l. twice (meetings g V j)) in
    let large = ltb-true (3 * g.degree * length V) (4 * rows_met g V) more in
    let met-sum = count-sum g.rows (λ j. ltb 0 (meetings g V j)) in
    let once-sum = count-sum g.rows (λ j. eqb (meetings g V j) 1) in
    omega (arith, each, large, meetings-sum g ok 0 V up, sum-add g.rows met met, sum-add g.rows (meetings g V) once, met-sum, once-sum)

-- the numbers below n that pass a test, before a list of larger ones
chosen : ℕ → (ℕ → Bool) → List ℕ → List ℕ
chosen zero p V = V
chosen (suc n) p V = chosen n p (cond (p n) (n ∷ V) V)

module _ (p : ℕ → Bool) where
  step_up : (b : Bool) (m n : ℕ) (V : List ℕ) → m < n → Rising (suc m) n V → Rising m n (cond b (m ∷ V) V)
  step_up true m n V l up = (omega arith, l, up)
  step_up false m n V l up = rising_lower m (suc m) n V (omega arith) up

  chosen_rising : (m n : ℕ) (V : List ℕ) → m ≤ n → Rising m n V → Rising 0 n (chosen m p V)
  unfolding chosen
  chosen_rising zero n V l up = up
  chosen_rising (suc m) n V l up = chosen_rising m n (cond (p m) (m ∷ V) V) (omega arith) (step_up (p m) m n V l up)

  step_long : (b : Bool) (m : ℕ) (V : List ℕ) → length (cond b (m ∷ V) V) ≡ bit b + length V
  step_long b m V = grind arith

  chosen_long : (m : ℕ) (V : List ℕ) → length (chosen m p V) ≡ sum m (λ k. bit (p k)) + length V
  unfolding chosen sum
  chosen_long zero V = omega arith
  chosen_long (suc m) V = omega (arith, chosen_long m (cond (p m) (m ∷ V) V), step_long (p m) m V)

  module _ (g : GraphModel) (j : ℕ) where
    step_met : (b : Bool) (m : ℕ) (V : List ℕ) → meetings g (cond b (m ∷ V) V) j ≡ bit (meets g j m) * bit b + meetings g V j
    unfolding meetings
    step_met b m V = grind arith

    chosen_met : (m : ℕ) (V : List ℕ) → meetings g (chosen m p V) j ≡ sum m (λ k. bit (meets g j k) * bit (p k)) + meetings g V j
    unfolding chosen sum
    chosen_met zero V = omega arith
    chosen_met (suc m) V = omega (arith, chosen_met m (cond (p m) (m ∷ V) V), step_met (p m) m V)

-- a product of two bits is 1 only where both are
both_bits : (a b : Bool) → bit a * bit b ≡ 1 → (a ≡ true) × (b ≡ true)
both_bits a b e = grind arith

module _ {F : Type 0} (f : FieldModel F) (g : GraphModel) (ok : Valid g) (fit : WeightsFit f g) (w x : ℕ → F) (code : open_row_count f g x ≡ 0) where
  -- the set of the places where the words differ
  abbrev wrong : List ℕ
  wrong = chosen g.places (differ f w x) []

  -- what makes the symbol at a place right
  abbrev right : ℕ → F
  right i = step_to f (x i) (w i)

  -- a row that meets one wrong place is open, and proposes to it what makes it right
  row_tells : (j : ℕ) → j < g.rows → wrong_at f g w x j ≡ 1 → (i : ℕ) × (i < g.places) × (differ f w x i ≡ true) × (proposes f g w i (right i) j ≡ true)
  row_tells j hj one =
      let (i, hi, here, others) = one_in g.places (λ k. bit (meets g j k) * bit (differ f w x k)) one in
      let (met, wrong-here) = both_bits (meets g j i) (differ f w x i) here in
      let s = row_sum f g w j in
      let h = coefficient f g j i in
      let apart = coefficient_some f g ok fit j i met in
      let agree : (k : ℕ) → k < g.places → k ≢ i → meets g j k ≡ true → x k ≡ w k = λ k l other m.
      sym (not_differ f w x k (omega (arith, others k l other, ap (λ b. bit b * bit (differ f w x k)) m))) in
      let balance : f.plus s (f.times h (right i)) ≡ f.element 0 = sym (row_one f g x w j i hi agree) ∙ no_open f g x code j hj in
      let not-closed : s ≡ f.element 0 → ⊥ = λ z.
      let nothing : f.times h (right i) ≡ f.element 0 = sym (zero-plus f (f.times h (right i))) ∙ ap (λ e. f.plus e (f.times h (right i))) (sym z) ∙ balance in
      let still : right i ≡ f.element 0 = times_cancel f h (right i) (f.element 0) apart (nothing ∙ sym (times_zero f h)) in
      let equal : w i ≡ x i = sym (f.plus-zero (w i)) ∙ ap (f.plus (w i)) (sym still) ∙ stepped f (x i) (w i) in
      cc (wrong-here, true_same f (w i) (x i) equal) in
      let opened : is_open f g w j ≡ true = not_from_false (is_zero f s) (false_zero f s not-closed) in
      let offered = true_same f (proposal f g w j i) (right i) (only_closing f s h apart (right i) balance) in
      (i, hi, wrong-here, and_from (meets g j i) _ met (and_from (is_open f g w j) _ opened offered))

  -- the rows that meet the wrong places once
  abbrev once : ℕ
  once = count g.rows (λ j. eqb (wrong_at f g w x j) 1)

  met_once : rows_met_once g wrong ≡ once
  unfolding meetings
  met_once = count_same g.rows _ _ (λ j l. ap (λ d. eqb d 1) (chosen_met (differ f w x) g j g.places [] ∙ add-zero (wrong_at f g w x j)))

  wrong_long : length wrong ≡ distance f g.places w x
  wrong_long = omega (arith, chosen_long (differ f w x) g.places [], distance-sum f g.places w x)

  once_open : once ≤ open_row_count f g w
  once_open = count_le g.rows (λ j. eqb (wrong_at f g w x j) 1) (is_open f g w) (λ j l t.
      let r = row_tells j l (eqb-true (wrong_at f g w x j) 1 t) in
      (proposed f g w r.0 (right r.0) j r.3).1)

  -- a row that meets one wrong place votes for what makes it right
  once_voted : once ≤ sum g.places (λ i. votes f g w i (right i) * bit (differ f w x i))
  once_voted =
      let vote : ℕ → ℕ → ℕ = λ j i. bit (proposes f g w i (right i) j) * bit (differ f w x i) in
      let each = sum_le g.rows (λ j. bit (eqb (wrong_at f g w x j) 1)) (λ j. sum g.places (vote j)) (λ j l.
      bit_le (eqb (wrong_at f g w x j) 1) (sum g.places (vote j)) (λ t.
      let r = row_tells j l (eqb-true (wrong_at f g w x j) 1 t) in
      let one : vote j r.0 ≡ 1 = ap₂ (λ a b. bit a * bit b) r.3 r.2 in
      omega (arith, one, sum_member g.places r.0 (vote j) r.1))) in
      let share = sum_same g.places _ _ (λ i l.
      sum-times g.rows (bit (differ f w x i)) (λ j. bit (proposes f g w i (right i) j)) ∙ ap (λ v. v * bit (differ f w x i)) (sym (count-sum g.rows (proposes f g w i (right i))))) in
      omega (arith, each, count-sum g.rows (λ j. eqb (wrong_at f g w x j) 1), sum_swap g.rows g.places vote, share)

  -- who has more of twice the votes than of the degree has a majority
  most_voted : (b : Bool) (v : ℕ) → bit b * g.degree < 2 * (v * bit b) → g.degree < 2 * v
  most_voted true v h = omega arith
  most_voted false v h = absurd (omega arith)

  module _ (t : ℕ) (all : AllExpand g t) (some : 1 ≤ distance f g.places w x) (few : distance f g.places w x ≤ t) where
    -- more than half of c × the errors are met once
    pub many_once : g.degree * distance f g.places w x < 2 * once
    many_once =
        let up = chosen_rising (differ f w x) g.places g.places [] (omega arith) tt in
        let more = unique_rows_abound_lem g ok wrong up (all wrong (record { rising = up; some = omega (arith, wrong_long); few = omega (arith, wrong_long) })) in
        omega (arith, more, met_once, ap (λ k. g.degree * k) wrong_long)

    pub errors_open : g.degree * distance f g.places w x < 2 * open_row_count f g w
    errors_open = omega (arith, many_once, once_open)

    pub errors_rank : (i : ℕ) × (i < g.places) × (0 < rank f g w i)
    errors_rank =
        let share : ℕ → ℕ = λ i. votes f g w i (right i) * bit (differ f w x i) in
        let whole = sum-times g.places g.degree (λ i. bit (differ f w x i)) in
        let r = sum_exceeds g.places (λ i. bit (differ f w x i) * g.degree) (λ i. share i + share i)
        (omega (arith, many_once, once_voted, whole, sum-add g.places share share, ap (λ d. g.degree * d) (distance-sum f g.places w x))) in
        (r.0, r.1, majority_ranks f g w r.0 ok r.1 (right r.0) (most_voted (differ f w x r.0) (votes f g w r.0 (right r.0)) (omega (arith, r.2))))

pub errors_show_lem : (F : Type 0) → ErrorsShow F
errors_show_lem F f g ok fit w x t code all some few =
    (errors_rank f g ok fit (symbols f w) (symbols f x) code.closed t all some few, errors_open f g ok fit (symbols f w) (symbols f x) code.closed t all some few)
