-- Products and inverses by logarithms. Assumes nothing.
use Rattle.std.proofs.Common.{◌≡◌, ℕ, ◌+◌, ◌-◌, ◌*◌, ◌/◌, ◌%◌, ◌<◌, Option, Some, None, MatchOption, sym, ap, ◌∙◌, ap₂, subst, div-add-mod', arith}
use Rattle.std.specs.Option.{option_zip}
use Rattle.fields.specs.Polynomials.{times, raised, inverse, power}
use Rattle.fields.specs.PolynomialLaws.{zero-times, times_zero, power-add, power_turns, raised-power}

-- the powers repeat after 255
pub power_mod : (n : ℕ) → power (n % 255) ≡ power n
power_mod n = sym (ap power (sym (div-add-mod' n 255)) ∙ power_turns (n / 255) (n % 255))

-- an exponent of a as a power, which zero alone lacks
abbrev IsExponent : ℕ → Option ℕ → Type 0
IsExponent a o = MatchOption o (a ≡ 0) (λ k. (power k ≡ a) × (k < 255))

-- the product adds exponents, and is zero where one of them is lacking
both_exponents : (a b : ℕ) (j k : Option ℕ) → IsExponent a j → IsExponent b k
    → MatchOption (option_zip j k) (times a b ≡ 0) (λ both. times a b ≡ power (both.0 + both.1))
both_exponents a b None k z q = ap (λ x. times x b) z ∙ zero-times b
both_exponents a b (Some j) None p z = ap (times a) z ∙ times_zero a
both_exponents a b (Some j) (Some k) p q = sym (ap₂ times p.0 q.0) ∙ power-add j k

pub product_by_exponents : (a b : ℕ) (j k : Option ℕ) → IsExponent a j → IsExponent b k → (o : Option (ℕ × ℕ)) → o ≡ option_zip j k
    → MatchOption o (times a b ≡ 0) (λ both. times a b ≡ power (both.0 + both.1))
product_by_exponents a b j k p q o e =
    subst (λ x. MatchOption x (times a b ≡ 0) (λ both. times a b ≡ power (both.0 + both.1))) (sym e) (both_exponents a b j k p q)

pub inverse_of_power : (k a : ℕ) → k < 255 → power k ≡ a → power (255 - k) ≡ inverse a
inverse_of_power k a small p =
    let turns : k * 255 + (255 - k) ≡ 1 * 255 + 254 * k = omega arith in
    sym (power_turns k (255 - k)) ∙ ap power turns ∙ power_turns 1 (254 * k) ∙ sym (raised-power k 254) ∙ ap (λ x. raised x 254) p
