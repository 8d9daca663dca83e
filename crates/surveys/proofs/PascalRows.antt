-- The first row of Pascal's triangle, a row from the one before it, and sums over a row. Assumes nothing.
use Rattle.std.proofs.Common.{◌≡◌, ℕ, zero, suc, ◌+◌, ◌-◌, ◌^◌, ◌<◌, ◌≤◌, min, List, [], ◌∷◌, get_or, drop, take, refl, ap, sym, ◌∙◌, subst, add-one, arith}
use Rattle.std.proofs.lemmas.Grind.{get_or_after_one}
use Rattle.std.proofs.lemmas.List.{get_or-replicate, get_or-take}
use Rattle.expander.specs.Sets.{choose, number_of_sets}
use Rattle.surveys.specs.PascalRows.{PascalRow}

-- of no places there is one set, which is empty
pub first_row : PascalRow 0 (1 ∷ 0 ∷ 0 ∷ 0 ∷ 0 ∷ 0 ∷ 0 ∷ 0 ∷ 0 ∷ [])
unfolding choose
first_row zero l = refl
first_row (suc k) l = get_or-replicate 8 k 0 0 (omega arith)

-- of one more place, the sets of k + 1 are those without it, and those of k with it
one_more : (n : ℕ) (row next : List ℕ) → PascalRow n row → get_or next 0 0 ≡ 1
    → ((k : ℕ) → k < 8 → get_or next (k + 1) 0 ≡ min (get_or row k 0 + get_or row (k + 1) 0) (2 ^ 64 - 1)) → PascalRow (suc n) next
unfolding choose
one_more n row next h none more zero l = none
one_more n row next h none more (suc k) l =
    omega (arith, more k (omega arith), h k (omega arith), h (suc k) l, ap (λ i. get_or next i 0) (add-one k), ap (λ i. get_or row i 0) (add-one k))

pub next_row : (n : ℕ) (row next : List ℕ) → PascalRow n row → get_or next 0 0 ≡ 1
    → ((k : ℕ) → k < 8 → get_or next (k + 1) 0 ≡ min (get_or row k 0 + get_or row (k + 1) 0) (2 ^ 64 - 1)) → PascalRow (n + 1) next
next_row n row next h none more = subst (λ m. PascalRow m next) (sym (add-one n)) (one_more n row next h none more)

number_of_more : (n i : ℕ) → number_of_sets n (i + 1) ≡ number_of_sets n i + choose n (i + 1)
unfolding number_of_sets
number_of_more n i = ap (number_of_sets n) (add-one i) ∙ ap (λ k. number_of_sets n i + choose n k) (sym (add-one i))

-- the sum over the sets of one to i, and the number of sets of one more
pub next_sum : (n size i before after : ℕ) (row : List ℕ) → PascalRow n row → size ≤ 8 → i < size → before ≡ min (number_of_sets n i) (2 ^ 64 - 1)
    → after ≡ min (before + get_or (take size (drop 1 row)) i 0) (2 ^ 64 - 1) → after ≡ min (number_of_sets n (i + 1)) (2 ^ 64 - 1)
next_sum n size i before after row h few l kept more =
    let at : 1 + i ≡ i + 1 = omega arith in
    let here = get_or-take size (drop 1 row) i 0 l ∙ get_or_after_one row i 0 ∙ ap (λ k. get_or row k 0) at in
    omega (arith, kept, more, here, number_of_more n i, h (i + 1) (omega arith))
