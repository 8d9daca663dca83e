-- The sums of a word after one of its symbols is changed, those of the word of zeros, and the open rows by the sums. Assumes nothing.
use Rattle.std.proofs.Common.{◌≡◌, ℕ, zero, suc, ◌+◌, ◌<◌, Bool, cond, not, List, [], ◌∷◌, ◌++◌, length, get_or, set, take, drop, replicate, Some, None, ⊎_elim, sym, refl, ap, ◌∙◌, ap₂, add-zero, one-add, arith, get_or-set_other, get_or-set_same}
use Rattle.std.specs.List.{count_by, slice_get}
use Rattle.std.proofs.lemmas.List.{set_past, length-set, length-replicate, get_or-replicate}
use Rattle.std.proofs.lemmas.List.Sums.{sum_by-cons}
use Rattle.std.proofs.lemmas.Option.{slice_get-get_or, slice_get_within, get_or_from_slice_get}
use Rattle.std.proofs.lemmas.Bool.{cases_lt}
use Rattle.std.proofs.Math.Seq.{take-append_seam}
use Rattle.bitsets.specs.Bits.{count}
use Rattle.bitsets.proofs.Counts.{count_add, count_same}
use Rattle.fields.specs.Models.{FieldModel}
use Rattle.graphs.specs.Models.{GraphModel}
use Rattle.expander.specs.Words.{total, is_zero, symbols, coefficient, row_sum, open_row_count, WeightsFit}
use Rattle.expander.proofs.FieldLaws.{times_zero, step_to}
use Rattle.expander.proofs.RowSums.{row_one}
use Rattle.words.specs.Tables.{Summed}

-- a list has as many elements that pass as there are numbers below its length whose elements pass
count_passes : {A : Type 0} (p : A → Bool) (xs : List A) (d : A) → count_by p xs ≡ count (length xs) (λ i. p (get_or xs i d))
unfolding count
count_passes p [] d = refl
count_passes p (x ∷ xs) d =
    let passes : ℕ → Bool = λ i. p (get_or (x ∷ xs) i d) in
    let front : cond (p x) 1 0 ≡ count 1 passes = sym (add-zero (cond (p x) 1 0)) in
    let back : count (length xs) (λ i. p (get_or xs i d)) ≡ count (length xs) (λ k. passes (1 + k)) = count_same (length xs) _ _ (λ k l. ap passes (sym (one-add k))) in
    sum_by-cons (λ y. cond (p y) 1 0) x xs ∙ ap₂ (λ m n. m + n) front (count_passes p xs d ∙ back) ∙ sym (count_add 1 (length xs) passes)
    ∙ ap (λ n. count n passes) (one-add (length xs))

-- an element put where the list has none changes nothing
pub set_none : {A : Type 0} (xs : List A) (i : ℕ) (y : A) → slice_get xs i ≡ None → set xs i y ≡ xs
set_none xs i y none = ⊎_elim (λ l. cc (slice_get-get_or xs i y l)) (λ past. set_past xs i y past) (cases_lt i (length xs))

-- the elements of a list of n after a list as long is written over them
pub written : {A : Type 0} (n : ℕ) (xs ys : List A) → length xs ≡ n → length ys ≡ n → take n (ys ++ drop (length ys) xs) ≡ ys
written n xs ys long same = rw (← same) (take-append_seam ys (drop (length ys) xs))

module _ {F : Type 0} (f : FieldModel F) (g : GraphModel) where
  -- where the word has a symbol, there is a place
  pub place_of : (word totals : List F) (i : ℕ) (x : F) → Summed f g word totals → Some x ≡ slice_get word i → i < g.places
  place_of word totals i x m is = omega (arith, slice_get_within word i x (sym is), m.word_long)

  -- a symbol s is put at place i
  pub summed_put : (word before after : List F) (i : ℕ) (old s : F) → Summed f g word before → Some old ≡ slice_get word i → length after ≡ g.rows
      → (WeightsFit f g → (j : ℕ) (d : F) → j < g.rows → get_or after j d ≡ f.plus (get_or before j d) (f.times (coefficient f g j i) (step_to f s old)))
      → Summed f g (set word i s) after
  summed_put word before after i old s m is long added = record {
    word_long = length-set word i s ∙ m.word_long;
    long = long;
    sums = λ fit j d hj.
        let new = symbols f (set word i s) in
        let hi = place_of word before i old m is in
        let here : new i ≡ s = get_or-set_same word i s (f.element 0) (omega (arith, m.word_long)) in
        let was : symbols f word i ≡ old = get_or_from_slice_get word i old (f.element 0) (sym is) in
        added fit j d hj ∙ ap₂ (λ x y. f.plus x (f.times (coefficient f g j i) y)) (m.sums fit j d hj) (ap₂ (step_to f) (sym here) (sym was))
        ∙ sym (row_one f g new (symbols f word) j i hi (λ a l apart met. get_or-set_other word i a s (f.element 0) apart));
  }

  total_zero : (n : ℕ) (h : ℕ → F) → ((i : ℕ) → i < n → h i ≡ f.element 0) → total f n h ≡ f.element 0
  unfolding total
  total_zero zero h e = refl
  total_zero (suc n) h e = ap₂ f.plus (total_zero n h (λ i l. e i (omega arith))) (e n (omega arith)) ∙ f.plus-zero (f.element 0)

  -- every row of the word of zeros sums to zero
  row_zero : (w : ℕ → F) (j : ℕ) → ((i : ℕ) → i < g.places → w i ≡ f.element 0) → row_sum f g w j ≡ f.element 0
  row_zero w j e = total_zero g.places _ (λ i l. ap (f.times (coefficient f g j i)) (e i l) ∙ times_zero f (coefficient f g j i))

  pub summed_zeros : Summed f g (replicate g.places (f.element 0)) (replicate g.rows (f.element 0))
  summed_zeros = record {
    word_long = length-replicate g.places (f.element 0);
    long = length-replicate g.rows (f.element 0);
    sums = λ fit j d hj.
        get_or-replicate g.rows j (f.element 0) d hj
        ∙ sym (row_zero (symbols f (replicate g.places (f.element 0))) j (λ i l. get_or-replicate g.places i (f.element 0) (f.element 0) l));
  }

  -- the sums that are not zero are those of the open rows
  pub open_by_sums : (word totals : List F) → Summed f g word totals → WeightsFit f g → count_by (λ x. not (is_zero f x)) totals ≡ open_row_count f g (symbols f word)
  open_by_sums word totals m fit =
      count_passes (λ x. not (is_zero f x)) totals (f.element 0) ∙ ap (λ n. count n (λ j. not (is_zero f (get_or totals j (f.element 0))))) m.long
      ∙ count_same g.rows _ _ (λ j l. ap (λ x. not (is_zero f x)) (m.sums fit j (f.element 0) l))
