-- The remainders modulo 101 obey the laws of a field. Assumes nothing.
use Rattle.std.specs.Prelude.{◌≡◌, ℕ, suc, ◌+◌, ◌-◌, ◌*◌, ◌%◌, ◌^◌, ◌<◌, true, ◌==◌, refl}
use Rattle.std.proofs.Common.{sym, ◌∙◌, ap, mod-lt, mod-eq_of_lt, add_assoc, add_comm, add-zero, mul-one, mul_comm, mul_assoc, mul-add, arith, lit≤}
use Rattle.std.proofs.Math.Nat.{mod-add-mod, add-mod-mod}
use Rattle.std.proofs.lemmas.Nat.{mul-mod_first, mul-mod_second}
use Rattle.fields.specs.CodeFields.{CodeField}
use Rattle.fields.specs.Checked.{passes, equal_from_one}
use Rattle.fields.specs.Remainders.{plus, negated, times, inverse}

pub negates : (a : ℕ) → a < 101 → plus a (negated a) ≡ 0
negates a h =
    let whole : a + (101 - a) ≡ 101 = omega arith in
    add-mod-mod a (101 - a) 101 ∙ ap (λ x. x % 101) whole

pub mod_plus_mod : (m a b : ℕ) → (a % m + b % m) % m ≡ (a + b) % m
mod_plus_mod m a b = mod-add-mod a m (b % m) ∙ add-mod-mod a b m

pub inverse_small : (a : ℕ) → inverse a < 101
inverse_small a = mod-lt (a ^ 99) (lit≤ tt)

all_invert : passes (λ a. times (suc a) (inverse (suc a)) == 1) 100 ≡ true
unfolding passes
all_invert = refl

pub inverts : (a : ℕ) → 0 < a → a < 101 → times a (inverse a) ≡ 1
inverts = equal_from_one 100 (λ a. times a (inverse a)) (λ a. 1) all_invert

abbrev pub codes_101 : CodeField
codes_101 = record {
  size = 101;
  code_of = λ k. k % 101;
  plus = plus;
  negated = negated;
  times = times;
  inverse = inverse;
  size_low = lit≤ tt;
  size_high = lit≤ tt;
  code_of_below = λ k. mod-lt k (lit≤ tt);
  code_of_small = λ k. mod-eq_of_lt;
  plus_below = λ a b ha hb. mod-lt (a + b) (lit≤ tt);
  negated_below = λ a ha. mod-lt (101 - a) (lit≤ tt);
  times_below = λ a b ha hb. mod-lt (a * b) (lit≤ tt);
  inverse_below = λ a ha. inverse_small a;
  plus_assoc = λ a b c ha hb hc. mod-add-mod (a + b) 101 c ∙ ap (λ x. x % 101) (add_assoc a b c) ∙ sym (add-mod-mod a (b + c) 101);
  plus_comm = λ a b ha hb. ap (λ x. x % 101) (add_comm a b);
  plus-zero = λ a ha. ap (λ x. x % 101) (add-zero a) ∙ mod-eq_of_lt ha;
  plus-negated = negates;
  times_assoc = λ a b c ha hb hc. mul-mod_first (a * b) c 101 ∙ ap (λ x. x % 101) (mul_assoc a b c) ∙ sym (mul-mod_second a (b * c) 101);
  times_comm = λ a b ha hb. ap (λ x. x % 101) (mul_comm a b);
  times-one = λ a ha. ap (λ x. x % 101) (mul-one a) ∙ mod-eq_of_lt ha;
  times-plus = λ a b c ha hb hc. mul-mod_second a (b + c) 101 ∙ ap (λ x. x % 101) (mul-add a b c) ∙ sym (mod_plus_mod 101 (a * b) (a * c));
  times-inverse = inverts;
  inverse-zero = refl;
}
