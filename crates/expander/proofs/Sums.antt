-- Sums of numbers below a bound, and counts as sums. Assumes nothing.
use Rattle.std.proofs.Common.{◌≡◌, ℕ, zero, suc, ◌+◌, ◌*◌, ◌<◌, ◌≤◌, Bool, true, false, cond, ◌&&◌, ◌⊎◌, ◌≢◌, sym, refl, ap, ⊎_elim, add-mul, zero-mul, arith}
use Rattle.std.proofs.lemmas.Bool.{cases_lt, cases_eq, true_from_ne_false}
use Rattle.bitsets.specs.Bits.{count}

abbrev pub bit : Bool → ℕ
bit b = cond b 1 0

pub bit_low : (b : Bool) → bit b ≤ 1
bit_low true = omega arith
bit_low false = omega arith

pub bit_le : (b : Bool) (n : ℕ) → (b ≡ true → 1 ≤ n) → bit b ≤ n
bit_le true n h = h refl
bit_le false n h = omega arith

-- both tests pass where the product is not 0
pub bit-and : (a b : Bool) → bit (a && b) ≡ bit a * bit b
bit-and true true = refl
bit-and true false = refl
bit-and false b = sym (zero-mul (bit b))

-- the sum of h 0, .., h (n - 1)
unfoldable pub sum : ℕ → (ℕ → ℕ) → ℕ
sum zero h = 0
sum (suc n) h = sum n h + h n

pub count-sum : (n : ℕ) (p : ℕ → Bool) → count n p ≡ sum n (λ k. bit (p k))
unfolding sum count
count-sum zero p = refl
count-sum (suc n) p = omega (arith, count-sum n p)

bit_pair : (p q r : Bool) → (p ≡ true → r ≡ true) → (q ≡ true → r ≡ true) → (p ≡ true → q ≡ true → ⊥) → bit p + bit q ≤ bit r
bit_pair true true r hp hq apart = absurd (apart refl refl)
bit_pair true false r hp hq apart = omega (arith, ap bit (hp refl))
bit_pair false q r hp hq apart = omega (arith, bit_le q (bit r) (λ t. omega (arith, ap bit (hq t))))

bit_twice : (p q r s : Bool) → (p ≡ true → (r ≡ true) ⊎ (s ≡ true)) → (q ≡ true → (p ≡ false) × (r ≡ true) × (s ≡ true)) → bit p + 2 * bit q ≤ bit r + bit s
bit_twice true true r s hp hq = cc (hq refl).0
bit_twice true false r s hp hq = ⊎_elim (λ t. omega (arith, ap bit t)) (λ t. omega (arith, ap bit t)) (hp refl)
bit_twice false true r s hp hq = omega (arith, ap bit (hq refl).1, ap bit (hq refl).2)
bit_twice false false r s hp hq = omega arith

-- what holds of the tests at each number holds of the counts
pub count_pair : (n : ℕ) (p q r : ℕ → Bool)
    → ((k : ℕ) → k < n → (p k ≡ true → r k ≡ true) × (q k ≡ true → r k ≡ true) × (p k ≡ true → q k ≡ true → ⊥)) → count n p + count n q ≤ count n r
unfolding count
count_pair zero p q r h = omega arith
count_pair (suc n) p q r h =
    let here = h n (omega arith) in omega (arith, bit_pair (p n) (q n) (r n) here.0 here.1 here.2, count_pair n p q r (λ k l. h k (omega arith)))

pub count_le : (n : ℕ) (p q : ℕ → Bool) → ((k : ℕ) → k < n → p k ≡ true → q k ≡ true) → count n p ≤ count n q
count_le n p q h = omega (arith, count_pair n p (λ k. false) q (λ k l. (h k l, λ e. cc, λ t e. cc)))

pub count_twice : (n : ℕ) (p q r s : ℕ → Bool) → ((k : ℕ) → k < n → p k ≡ true → (r k ≡ true) ⊎ (s k ≡ true))
    → ((k : ℕ) → k < n → q k ≡ true → (p k ≡ false) × (r k ≡ true) × (s k ≡ true)) → count n p + 2 * count n q ≤ count n r + count n s
unfolding count
count_twice zero p q r s hp hq = omega arith
count_twice (suc n) p q r s hp hq =
    omega (arith, bit_twice (p n) (q n) (r n) (s n) (hp n (omega arith)) (hq n (omega arith)), count_twice n p q r s (λ k l. hp k (omega arith)) (λ k l. hq k (omega arith)))

pub count_cover : (n : ℕ) (p r s : ℕ → Bool) → ((k : ℕ) → k < n → p k ≡ true → (r k ≡ true) ⊎ (s k ≡ true)) → count n p ≤ count n r + count n s
count_cover n p r s h = omega (arith, count_twice n p (λ k. false) r s h (λ k l e. cc))

pub sum_same : (n : ℕ) (h k : ℕ → ℕ) → ((i : ℕ) → i < n → h i ≡ k i) → sum n h ≡ sum n k
unfolding sum
sum_same zero h k e = refl
sum_same (suc n) h k e = omega (arith, sum_same n h k (λ i l. e i (omega arith)), e n (omega arith))

pub sum_le : (n : ℕ) (h k : ℕ → ℕ) → ((i : ℕ) → i < n → h i ≤ k i) → sum n h ≤ sum n k
unfolding sum
sum_le zero h k e = omega arith
sum_le (suc n) h k e = omega (arith, sum_le n h k (λ i l. e i (omega arith)), e n (omega arith))

pub sum-zero : (n : ℕ) (h : ℕ → ℕ) → ((i : ℕ) → i < n → h i ≡ 0) → sum n h ≡ 0
unfolding sum
sum-zero zero h e = refl
sum-zero (suc n) h e = omega (arith, sum-zero n h (λ i l. e i (omega arith)), e n (omega arith))

pub sum-add : (n : ℕ) (h k : ℕ → ℕ) → sum n (λ i. h i + k i) ≡ sum n h + sum n k
unfolding sum
sum-add zero h k = refl
sum-add (suc n) h k = omega (arith, sum-add n h k)

pub sum-times : (n c : ℕ) (h : ℕ → ℕ) → sum n (λ i. h i * c) ≡ sum n h * c
unfolding sum
sum-times zero c h = sym (zero-mul c)
sum-times (suc n) c h = omega (arith, sum-times n c h, add-mul (sum n h) (h n) c)

pub sum_swap : (n m : ℕ) (h : ℕ → ℕ → ℕ) → sum n (λ i. sum m (h i)) ≡ sum m (λ j. sum n (λ i. h i j))
unfolding sum
sum_swap zero m h = sym (sum-zero m (λ j. 0) (λ j l. refl))
sum_swap (suc n) m h = omega (arith, sum_swap n m h, sum-add m (λ j. sum n (λ i. h i j)) (h n))

-- a sum is what stands at one number, if nothing stands at the others
pub sum_single : (n i : ℕ) (h : ℕ → ℕ) → i < n → ((k : ℕ) → k < n → k ≢ i → h k ≡ 0) → sum n h ≡ h i
unfolding sum
sum_single zero i h l e = absurd (omega arith)
sum_single (suc n) i h l e =
    ⊎_elim
    (λ (same : i ≡ n). omega (arith, sum-zero n h (λ k b. e k (omega arith) (omega arith)), ap h same))
    (λ (apart : i ≡ n → ⊥). omega (arith, e n (omega arith) (omega arith), sum_single n i h (omega arith) (λ k b. e k (omega arith))))
    (cases_eq i n)

pub sum_member : (n i : ℕ) (h : ℕ → ℕ) → i < n → h i ≤ sum n h
unfolding sum
sum_member zero i h l = absurd (omega arith)
sum_member (suc n) i h l =
    ⊎_elim
    (λ (same : i ≡ n). omega (arith, ap h same))
    (λ (apart : i ≡ n → ⊥). omega (arith, sum_member n i h (omega arith)))
    (cases_eq i n)

-- where one sum is larger, it is larger at some number
pub sum_exceeds : (n : ℕ) (h k : ℕ → ℕ) → sum n h < sum n k → (i : ℕ) × (i < n) × (h i < k i)
unfolding sum
sum_exceeds zero h k l = absurd (omega arith)
sum_exceeds (suc n) h k l =
    ⊎_elim
    (λ (here : h n < k n). (n, omega arith, here))
    (λ (below : k n ≤ h n). let r = sum_exceeds n h k (omega arith) in (r.0, omega (arith, r.1), r.2))
    (cases_lt (h n) (k n))

-- two summands are part of the sum
pub sum_pair : (n i k : ℕ) (h : ℕ → ℕ) → i < n → k < n → k ≢ i → h i + h k ≤ sum n h
unfolding sum
sum_pair zero i k h li lk apart = absurd (omega arith)
sum_pair (suc n) i k h li lk apart =
    ⊎_elim
    (λ (here : i ≡ n). omega (arith, ap h here, sum_member n k h (omega arith)))
    (λ (below : i ≡ n → ⊥).
    ⊎_elim
    (λ (there : k ≡ n). omega (arith, ap h there, sum_member n i h (omega arith)))
    (λ (less : k ≡ n → ⊥). omega (arith, sum_pair n i k h (omega arith) (omega arith) apart))
    (cases_eq k n))
    (cases_eq i n)

-- a sum that is 1 has one summand of 1, and nothing elsewhere
pub one_in : (n : ℕ) (h : ℕ → ℕ) → sum n h ≡ 1 → (i : ℕ) × (i < n) × (h i ≡ 1) × ((k : ℕ) → k < n → k ≢ i → h k ≡ 0)
unfolding sum
one_in zero h e = absurd (omega arith)
one_in (suc n) h e =
    ⊎_elim
    (λ (none : h n ≡ 0).
    let r = one_in n h (omega arith) in
    (r.0, omega (arith, r.1), r.2, λ k l apart. ⊎_elim (λ (same : k ≡ n). cc) (λ (less : k ≡ n → ⊥). r.3 k (omega arith) apart) (cases_eq k n)))
    (λ some. (n, omega arith, omega arith, λ k l apart. omega (arith, sum_member n k h (omega arith))))
    (cases_eq (h n) 0)

pub sum_ones : (n : ℕ) → sum n (λ k. 1) ≡ n
unfolding sum
sum_ones zero = refl
sum_ones (suc n) = omega (arith, sum_ones n)

-- what is counted is found
pub counted : (n : ℕ) (p : ℕ → Bool) → 0 < count n p → (k : ℕ) × (k < n) × (p k ≡ true)
counted n p h =
    let r = sum_exceeds n (λ k. 0) (λ k. bit (p k)) (omega (arith, count-sum n p, sum-zero n (λ k. 0) (λ k l. refl))) in
    (r.0, r.1, true_from_ne_false (p r.0) (λ e. omega (arith, r.2, ap bit e)))
