-- The product of the field of 256 elements is the only polynomial product. Assumes nothing.
use Rattle.std.proofs.Common.{◌≡◌, ℕ, zero, suc, ◌<◌, sym, ap, ◌∙◌, ⊎_elim, lit≤}
use lib.Bits.{xor_self}
use Rattle.fields.specs.Elements.{code_two}
use Rattle.fields.specs.Polynomials.{doubled, times, power, logarithm}
use Rattle.fields.specs.PolynomialLaws.{codes_256, one-times, zero-times, times_below, times_assoc, plus_times, power-times, power_below, doubled_below, zero_or_power}
use Rattle.fields.specs.Products.{PolynomialProduct, OneProduct}

field_product : PolynomialProduct times
unfolding doubled
field_product = record {
  one = one-times;
  associative = times_assoc;
  distributive = λ a b d ha hb hd. plus_times a b d ha hb;
  doubling = power-times 1;
}

module _ (op : ℕ → ℕ → ℕ) (p : PolynomialProduct op) (b : ℕ) (hb : b < 256) where
  of_power : (k : ℕ) → op (power k) b ≡ doubled k b
  unfolding doubled
  of_power zero = p.one b hb
  of_power (suc k) =
      ap (λ x. op x b) (sym (p.doubling (power k) (power_below k)))
      ∙ p.associative 2 (power k) b (lit≤ tt) (power_below k) hb
      ∙ ap (op 2) (of_power k)
      ∙ p.doubling (doubled k b) (doubled_below k b hb)

  of_zero : op 0 b ≡ 0
  of_zero = p.distributive 0 0 b (lit≤ tt) (lit≤ tt) hb ∙ xor_self (op 0 b)

  only_product : (a : ℕ) → a < 256 → op a b ≡ times a b
  only_product a ha =
      ⊎_elim
      (λ z. ap (λ x. op x b) z ∙ of_zero ∙ sym (ap (λ x. times x b) z ∙ zero-times b))
      (λ e. ap (λ x. op x b) (sym e) ∙ of_power (logarithm a) ∙ sym (power-times (logarithm a) b hb) ∙ ap (λ x. times x b) e)
      (zero_or_power a ha)

pub one_product : OneProduct
one_product = record {
  codes = code_two _ codes_256 times (λ a b ha hb. times_below a b ha);
  polynomial = field_product;
  only = λ op p a b ha hb. only_product op p b hb a ha;
}
