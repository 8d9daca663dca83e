-- How many numbers below a bound pass a test, and the set digits of words. Assumes nothing.
use Rattle.std.proofs.Common.{◌≡◌, ℕ, zero, suc, ◌+◌, ◌*◌, ◌/◌, ◌%◌, ◌^◌, ◌<◌, ◌≤◌, Bool, List, [], ◌∷◌, length, get_or, sym, refl, ap, ◌∙◌, ap₂, add-zero, add-suc, one-add, pow-suc, arith}
use lib.Count.{ones, ones_step}
use Rattle.std.specs.List.{sum_by}
use Rattle.std.proofs.lemmas.List.Sums.{sum_by-cons}
use Rattle.std.proofs.lemmas.Bool.Decides.{nat_tests}
use Rattle.bitsets.specs.Bits.{bit, member, Words, count}
use Rattle.bitsets.proofs.Words.{bit-zero, bit-shr}

-- tests that agree below the bound count the same
pub count_same : (n : ℕ) (p q : ℕ → Bool) → ((k : ℕ) → k < n → p k ≡ q k) → count n p ≡ count n q
unfolding count
count_same zero p q h = refl
count_same (suc n) p q h = let last = h n (omega arith) in let rest = count_same n p q (λ k l. h k (omega arith)) in cc

-- the numbers below m, and the n numbers from m on, are counted apart
pub count_add : (m n : ℕ) (p : ℕ → Bool) → count (m + n) p ≡ count m p + count n (λ k. p (m + k))
unfolding count
count_add m zero p = ap (λ x. count x p) (add-zero m) ∙ sym (add-zero (count m p))
count_add m (suc n) p = ap (λ x. count x p) (add-suc m n) ∙ omega (arith, count_add m n p)

pub count_le : (n : ℕ) (p : ℕ → Bool) → count n p ≤ n
unfolding count
count_le zero p = omega arith
count_le (suc n) p = let less = count_le n p in grind (arith, nat_tests)

-- the set digits of a word of n bits are its bits
pub ones-count : (n w : ℕ) → w < 2 ^ n → ones w ≡ count n (bit w)
unfolding count ones
ones-count zero w h = let none : w ≡ 0 = omega arith in ap ones none
ones-count (suc n) w h =
    let low : w % 2 ≡ count 1 (bit w) = grind (arith, nat_tests, bit-zero w) in
    let rest = ones-count n (w / 2) (omega (arith, pow-suc 2 n)) ∙ count_same n (bit (w / 2)) (λ k. bit w (1 + k)) (λ k l. bit-shr w 1 k) in
    ones_step w ∙ ap₂ (λ x y. x + y) low rest ∙ sym (count_add 1 n (bit w)) ∙ ap (λ m. count m (bit w)) (one-add n)

-- the set digits of the first n words
abbrev pub ones_below : List ℕ → ℕ → ℕ
ones_below words zero = 0
ones_below words (suc n) = ones_below words n + ones (get_or words n 0)

-- the set digits of the words count their members
pub ones_members : (words : List ℕ) → Words words → sum_by ones words ≡ count (64 * length words) (member words)
unfolding count
ones_members [] h = refl
ones_members (w ∷ words) h =
    let more : 64 + 64 * length words ≡ 64 * suc (length words) = omega arith in
    let at : ℕ → ℕ → Bool = λ i j. bit (get_or (w ∷ words) i 0) j in
    let first : (k : ℕ) → k < 64 → bit w k ≡ member (w ∷ words) k = λ k l. ap₂ at {x = 0} {y = k / 64} {u = k} {v = k % 64} (omega arith) (omega arith) in
    let later : (k : ℕ) → k < 64 * length words → member words k ≡ member (w ∷ words) (64 + k) = λ k l. ap₂ at {x = suc (k / 64)} {y = (64 + k) / 64} {u = k % 64} {v = (64 + k) % 64} (omega arith) (omega arith) in
    sum_by-cons ones w words
    ∙ ap₂ (λ x y. x + y) (ones-count 64 w (h 0) ∙ count_same 64 _ _ first) (ones_members words (λ i. h (suc i)) ∙ count_same (64 * length words) _ _ later)
    ∙ sym (count_add 64 (64 * length words) (member (w ∷ words))) ∙ ap (λ x. count x (member (w ∷ words))) more
