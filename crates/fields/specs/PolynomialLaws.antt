-- The polynomials of degree below 8 are a field. Assumes nothing.
use Rattle.std.specs.Prelude.{◌≡◌, ℕ, zero, suc, ◌+◌, ◌*◌, ◌/◌, ◌%◌, ◌<◌, Bool, true, false, cond, ◌⊎◌, ◌==◌, bit_xor, nat_lt, refl}
use Rattle.std.proofs.Common.{sym, ◌∙◌, ap, ap₂, inl, inr, ⊎_elim, eq-zero-or-pos, add-zero, add_comm, suc-add, zero-add, mul_comm, zero-mul, suc-mul, mod-lt, mod-eq_of_lt, arith, lit≤}
use Rattle.std.proofs.lemmas.Nat.{xor_comm, xor_lt, xor_shr, xor_block}
use Rattle.std.specs.Int.Bits.{xor_assoc, xor_self, xor_zero_r}
use Rattle.fields.specs.CodeFields.{CodeField}
use Rattle.fields.specs.Checked.{passes, equal_below, less_below, equal_from_one, less_from_one}
use Rattle.fields.specs.Polynomials.{plus, negated, double, doubled, multiples, times, raised, inverse, power, doublings, logarithm}

doubles_fit : passes (λ a. nat_lt (double a) 256) 256 ≡ true
unfolding passes
doubles_fit = refl

pub double_below : (a : ℕ) → a < 256 → double a < 256
double_below = less_below 256 double 256 doubles_fit

-- the doubling rule without a case
split_test : passes (λ a. double a == bit_xor (a * 2) (285 * (a / 128))) 256 ≡ true
unfolding passes
split_test = refl

double_split : (a : ℕ) → a < 256 → double a ≡ bit_xor (a * 2) (285 * (a / 128))
double_split = equal_below 256 double (λ a. bit_xor (a * 2) (285 * (a / 128))) split_test

xor_swap : (a b c d : ℕ) → bit_xor (bit_xor a b) (bit_xor c d) ≡ bit_xor (bit_xor a c) (bit_xor b d)
xor_swap a b c d =
    xor_assoc a b (bit_xor c d) ∙ ap (bit_xor a) (sym (xor_assoc b c d) ∙ ap (λ x. bit_xor x d) (xor_comm b c) ∙ xor_assoc c b d) ∙ sym (xor_assoc a c (bit_xor b d))

xor_twice : (a b : ℕ) → bit_xor a b * 2 ≡ bit_xor (a * 2) (b * 2)
xor_twice a b = sym (ap₂ bit_xor (sym (add-zero (a * 2))) (sym (add-zero (b * 2))) ∙ xor_block 1 a b 0 0 (lit≤ tt) (lit≤ tt) ∙ add-zero (bit_xor a b * 2))

tops : (u v : ℕ) → u < 2 → v < 2 → 285 * bit_xor u v ≡ bit_xor (285 * u) (285 * v)
tops zero v hu hv = refl
tops (suc zero) zero hu hv = refl
tops (suc zero) (suc zero) hu hv = refl
tops (suc zero) (suc (suc v)) hu hv = absurd (omega arith)
tops (suc (suc u)) v hu hv = absurd (omega arith)

pub double-plus : (a b : ℕ) → a < 256 → b < 256 → double (plus a b) ≡ plus (double a) (double b)
double-plus a b ha hb =
    double_split (bit_xor a b) (xor_lt 8 a b ha hb)
    ∙ ap₂ bit_xor (xor_twice a b) (ap (λ x. 285 * x) (xor_shr a b 7) ∙ tops (a / 128) (b / 128) (omega arith) (omega arith))
    ∙ xor_swap (a * 2) (b * 2) (285 * (a / 128)) (285 * (b / 128))
    ∙ sym (ap₂ bit_xor (double_split a ha) (double_split b hb))

picked_below : (t : Bool) (a : ℕ) → a < 256 → cond t a 0 < 256
picked_below true a h = h
picked_below false a h = lit≤ tt

multiples_below : (n a b : ℕ) → a < 256 → multiples n a b < 256
unfolding multiples
multiples_below zero a b h = lit≤ tt
multiples_below (suc n) a b h = xor_lt 8 _ _ (picked_below (b % 2 == 1) a h) (multiples_below n (double a) (b / 2) (double_below a h))

picked-double : (t : Bool) (a : ℕ) → cond t (double a) 0 ≡ double (cond t a 0)
picked-double true a = refl
picked-double false a = refl

multiples-double : (n a b : ℕ) → a < 256 → multiples n (double a) b ≡ double (multiples n a b)
unfolding multiples
multiples-double zero a b h = refl
multiples-double (suc n) a b h =
    ap₂ plus (picked-double (b % 2 == 1) a) (multiples-double n (double a) (b / 2) (double_below a h))
    ∙ sym (double-plus (cond (b % 2 == 1) a 0) (multiples n (double a) (b / 2)) (picked_below (b % 2 == 1) a h) (multiples_below n (double a) (b / 2) (double_below a h)))

picked-plus : (t : Bool) (a b : ℕ) → cond t (plus a b) 0 ≡ plus (cond t a 0) (cond t b 0)
picked-plus true a b = refl
picked-plus false a b = refl

multiples-plus : (n a b d : ℕ) → a < 256 → b < 256 → multiples n (plus a b) d ≡ plus (multiples n a d) (multiples n b d)
unfolding multiples
multiples-plus zero a b d ha hb = refl
multiples-plus (suc n) a b d ha hb =
    ap₂ plus (picked-plus (d % 2 == 1) a b)
    (ap (λ x. multiples n x (d / 2)) (double-plus a b ha hb) ∙ multiples-plus n (double a) (double b) (d / 2) (double_below a ha) (double_below b hb))
    ∙ xor_swap (cond (d % 2 == 1) a 0) (cond (d % 2 == 1) b 0) (multiples n (double a) (d / 2)) (multiples n (double b) (d / 2))

picked-zero : (t : Bool) → ◌≡◌ {A = ℕ} (cond t 0 0) 0
picked-zero true = refl
picked-zero false = refl

multiples_of_zero : (n b : ℕ) → multiples n 0 b ≡ 0
unfolding multiples
multiples_of_zero zero b = refl
multiples_of_zero (suc n) b = ap₂ plus (picked-zero (b % 2 == 1)) (multiples_of_zero n (b / 2))

pub zero-times : (b : ℕ) → times 0 b ≡ 0
zero-times b = multiples_of_zero 8 b

pub times_zero : (a : ℕ) → times a 0 ≡ 0
unfolding multiples
times_zero a = refl

pub times_below : (a b : ℕ) → a < 256 → times a b < 256
times_below a b h = multiples_below 8 a b h

one_times_test : passes (λ b. times 1 b == b) 256 ≡ true
unfolding passes multiples
one_times_test = refl

pub one-times : (b : ℕ) → b < 256 → times 1 b ≡ b
one-times = equal_below 256 (λ b. times 1 b) (λ b. b) one_times_test

pub doubled_below : (n a : ℕ) → a < 256 → doubled n a < 256
unfolding doubled
doubled_below zero a h = h
doubled_below (suc n) a h = double_below (doubled n a) (doubled_below n a h)

pub power_below : (k : ℕ) → power k < 256
power_below k = doubled_below k 1 (lit≤ tt)

times-doubled : (n a b : ℕ) → a < 256 → times (doubled n a) b ≡ doubled n (times a b)
unfolding doubled
times-doubled zero a b h = refl
times-doubled (suc n) a b h = multiples-double 8 (doubled n a) b (doubled_below n a h) ∙ ap double (times-doubled n a b h)

pub power-times : (k b : ℕ) → b < 256 → times (power k) b ≡ doubled k b
power-times k b h = times-doubled k 1 b (lit≤ tt) ∙ ap (doubled k) (one-times b h)

doubled-add : (m n a : ℕ) → doubled (m + n) a ≡ doubled m (doubled n a)
unfolding doubled
doubled-add zero n a = ap (λ x. doubled x a) (zero-add n)
doubled-add (suc m) n a = ap (λ x. doubled x a) (suc-add m n) ∙ ap double (doubled-add m n a)

full_turn : power 255 ≡ 1
unfolding doubled
full_turn = refl

doubled_turn : (x : ℕ) → x < 256 → doubled 255 x ≡ x
doubled_turn x h = sym (power-times 255 x h) ∙ ap (λ p. times p x) full_turn ∙ one-times x h

doubled_turns : (q x : ℕ) → x < 256 → doubled (q * 255) x ≡ x
unfolding doubled
doubled_turns zero x h = ap (λ n. doubled n x) (zero-mul 255)
doubled_turns (suc q) x h =
    ap (λ n. doubled n x) (suc-mul q 255) ∙ doubled-add (q * 255) 255 x ∙ ap (doubled (q * 255)) (doubled_turn x h) ∙ doubled_turns q x h

-- the powers repeat after 255
pub power_turns : (q k : ℕ) → power (q * 255 + k) ≡ power k
power_turns q k = doubled-add (q * 255) k 1 ∙ doubled_turns q (power k) (power_below k)

pub power-add : (j k : ℕ) → times (power j) (power k) ≡ power (j + k)
power-add j k = power-times j (power k) (power_below k) ∙ sym (doubled-add j k 1)

logarithm_test : passes (λ a. power (logarithm (suc a)) == suc a) 255 ≡ true
unfolding passes doubled doublings
logarithm_test = refl

pub power-logarithm : (a : ℕ) → 0 < a → a < 256 → power (logarithm a) ≡ a
power-logarithm = equal_from_one 255 (λ a. power (logarithm a)) (λ a. a) logarithm_test

exponents_fit : passes (λ a. nat_lt (logarithm (suc a)) 255) 255 ≡ true
unfolding passes doublings
exponents_fit = refl

pub logarithm_below : (a : ℕ) → 0 < a → a < 256 → logarithm a < 255
logarithm_below = less_from_one 255 logarithm 255 exponents_fit

-- every code below 256 is zero or a power
pub zero_or_power : (a : ℕ) → a < 256 → (a ≡ 0) ⊎ (power (logarithm a) ≡ a)
zero_or_power a h = ⊎_elim inl (λ some. inr (power-logarithm a some h)) (eq-zero-or-pos a)

pub times_comm : (a b : ℕ) → a < 256 → b < 256 → times a b ≡ times b a
times_comm a b ha hb =
    ⊎_elim
    (λ z. ap (λ x. times x b) z ∙ zero-times b ∙ sym (ap (times b) z ∙ times_zero b))
    (λ p. ⊎_elim
    (λ z. ap (times a) z ∙ times_zero a ∙ sym (ap (λ x. times x a) z ∙ zero-times a))
    (λ q. sym (ap₂ times p q) ∙ power-add (logarithm a) (logarithm b) ∙ ap power (add_comm (logarithm a) (logarithm b)) ∙ sym (power-add (logarithm b) (logarithm a)) ∙ ap₂ times q p)
    (zero_or_power b hb))
    (zero_or_power a ha)

pub times_assoc : (a b d : ℕ) → a < 256 → b < 256 → d < 256 → times (times a b) d ≡ times a (times b d)
times_assoc a b d ha hb hd =
    ⊎_elim
    (λ z. ap (λ x. times (times x b) d) z ∙ ap (λ x. times x d) (zero-times b) ∙ zero-times d ∙ sym (ap (λ x. times x (times b d)) z ∙ zero-times (times b d)))
    (λ p.
    ap (λ x. times (times x b) d) (sym p) ∙ ap (λ x. times x d) (power-times (logarithm a) b hb) ∙ times-doubled (logarithm a) b d hb
    ∙ sym (ap (λ x. times x (times b d)) (sym p) ∙ power-times (logarithm a) (times b d) (times_below b d hb)))
    (zero_or_power a ha)

pub plus_times : (a b d : ℕ) → a < 256 → b < 256 → times (plus a b) d ≡ plus (times a d) (times b d)
plus_times a b d ha hb = multiples-plus 8 a b d ha hb

pub times-plus : (a b d : ℕ) → a < 256 → b < 256 → d < 256 → times a (plus b d) ≡ plus (times a b) (times a d)
times-plus a b d ha hb hd =
    times_comm a (plus b d) ha (xor_lt 8 b d hb hd) ∙ plus_times b d a hb hd ∙ ap₂ plus (times_comm b a hb ha) (times_comm d a hd ha)

pub raised-power : (k n : ℕ) → raised (power k) n ≡ power (n * k)
unfolding raised doubled
raised-power k zero = sym (ap power (zero-mul k))
raised-power k (suc n) =
    ap (times (power k)) (raised-power k n) ∙ power-add k (n * k) ∙ ap power (add_comm k (n * k) ∙ sym (suc-mul n k))

raised_below : (a n : ℕ) → a < 256 → raised a n < 256
unfolding raised
raised_below a zero h = lit≤ tt
raised_below a (suc n) h = times_below a (raised a n) h

pub inverse_below : (a : ℕ) → a < 256 → inverse a < 256
inverse_below a h = raised_below a 254 h

pub times-inverse : (a : ℕ) → 0 < a → a < 256 → times a (inverse a) ≡ 1
unfolding raised doubled
times-inverse a some h =
    let k = logarithm a in
    ap (λ x. raised x 255) (sym (power-logarithm a some h)) ∙ raised-power k 255
    ∙ ap power (mul_comm 255 k ∙ sym (add-zero (k * 255))) ∙ power_turns k 0

pub inverse-zero : inverse 0 ≡ 0
unfolding raised
inverse-zero = zero-times (raised 0 253)

abbrev pub codes_256 : CodeField
codes_256 = record {
  size = 256;
  code_of = λ k. k % 256;
  plus = plus;
  negated = negated;
  times = times;
  inverse = inverse;
  size_low = lit≤ tt;
  size_high = lit≤ tt;
  code_of_below = λ k. mod-lt k (lit≤ tt);
  code_of_small = λ k. mod-eq_of_lt;
  plus_below = xor_lt 8;
  negated_below = λ a h. h;
  times_below = λ a b ha hb. times_below a b ha;
  inverse_below = inverse_below;
  plus_assoc = λ a b d ha hb hd. xor_assoc a b d;
  plus_comm = λ a b ha hb. xor_comm a b;
  plus-zero = λ a h. xor_zero_r a;
  plus-negated = λ a h. xor_self a;
  times_assoc = times_assoc;
  times_comm = times_comm;
  times-one = λ a h. times_comm a 1 h (lit≤ tt) ∙ one-times a h;
  times-plus = times-plus;
  times-inverse = times-inverse;
  inverse-zero = inverse-zero;
}
