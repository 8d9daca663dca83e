-- Polynomials over the bits modulo the polynomial of code 285: bit k of a code is the coefficient of power k. Assumes nothing.
use Rattle.std.specs.Prelude.{ℕ, zero, suc, ◌*◌, ◌/◌, ◌%◌, cond, ◌==◌, bit_xor, nat_lt}

-- The sum adds the coefficients of each power; every polynomial is its own negation.
abbrev pub plus : ℕ → ℕ → ℕ
plus a b = bit_xor a b

abbrev pub negated : ℕ → ℕ
negated a = a

-- Multiplication by the polynomial of code 2: each coefficient moves up one power, and where power 8 arises the
-- polynomial of code 285 is taken off.
abbrev pub double : ℕ → ℕ
double a = cond (nat_lt a 128) (2 * a) (bit_xor (2 * a) 285)

-- a doubled n times
unfoldable pub doubled : ℕ → ℕ → ℕ
doubled zero a = a
doubled (suc n) a = double (doubled n a)

-- the sum of the multiples of a by the powers that the n lowest bits of b hold
unfoldable pub multiples : ℕ → ℕ → ℕ → ℕ
multiples zero a b = 0
multiples (suc n) a b = plus (cond (b % 2 == 1) a 0) (multiples n (double a) (b / 2))

abbrev pub times : ℕ → ℕ → ℕ
times a b = multiples 8 a b

-- a taken n times as a factor
unfoldable pub raised : ℕ → ℕ → ℕ
raised a zero = 1
raised a (suc n) = times a (raised a n)

-- the elements other than zero form a group of 255 elements, so the inverse is the 254th power
abbrev pub inverse : ℕ → ℕ
inverse a = raised a 254

-- power k of the polynomial of code 2
abbrev pub power : ℕ → ℕ
power k = doubled k 1

-- how often x is doubled until it is a, at most n times
unfoldable pub doublings : ℕ → ℕ → ℕ → ℕ
doublings zero x a = 0
doublings (suc n) x a = cond (x == a) 0 (suc (doublings n (double x) a))

-- the exponent below 255 of a as a power of 2; 255 for zero, which is none
abbrev pub logarithm : ℕ → ℕ
logarithm a = doublings 255 1 a
