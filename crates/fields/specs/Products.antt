-- What fixes the product of the field of 256 elements. Assumes nothing.
use Rattle.std.specs.Prelude.{◌≡◌, ℕ, ◌<◌}
use Rattle.fields.specs.Polynomials.{plus, double, times}
use Rattle.fields.specs.Fields.{Gf256, polynomials}

-- A product on the codes below 256 with code 1 as its one, which is associative and distributes over the sum, and by which
-- multiplication by code 2 is the doubling rule.
pub record PolynomialProduct (op : ℕ → ℕ → ℕ) : Type 0 where
  pub one : (a : ℕ) → a < 256 → op 1 a ≡ a
  pub associative : (a b d : ℕ) → a < 256 → b < 256 → d < 256 → op (op a b) d ≡ op a (op b d)
  pub distributive : (a b d : ℕ) → a < 256 → b < 256 → d < 256 → op (plus a b) d ≡ plus (op a d) (op b d)
  pub doubling : (a : ℕ) → a < 256 → op 2 a ≡ double a

-- The product of the field is such a product, and there is no other.
pub record OneProduct : Type 0 where
  pub codes : (x y : Gf256) → polynomials.code (polynomials.times x y) ≡ times (polynomials.code x) (polynomials.code y)
  pub polynomial : PolynomialProduct times
  pub only : (op : ℕ → ℕ → ℕ) → PolynomialProduct op → (a b : ℕ) → a < 256 → b < 256 → op a b ≡ times a b
