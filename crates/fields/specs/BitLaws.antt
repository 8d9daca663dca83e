-- The two bits obey the laws of a field. Assumes nothing.
use Rattle.std.specs.Prelude.{◌≡◌, ℕ, zero, suc, ◌<◌, Bool, true, false, ◌==◌, refl}
use Rattle.std.proofs.Common.{sym, subst, ◌∙◌, ap₂, arith, lit≤}
use Rattle.std.proofs.lemmas.Nat.{xor_comm, xor_lt, and_assoc, and_comm}
use Rattle.std.specs.Int.Bits.{and_self, xor_assoc, xor_self, xor_zero_r}
use Rattle.fields.specs.CodeFields.{CodeField}
use Rattle.fields.specs.Bits.{code, plus, negated, times, inverse}

pub code_small : (b : Bool) → code b < 2
code_small true = lit≤ tt
code_small false = lit≤ tt

pub code-bit : (k : ℕ) → k < 2 → code (k == 1) ≡ k
code-bit zero h = refl
code-bit (suc zero) h = refl
code-bit (suc (suc k)) h = absurd (omega arith)

pub one-times : (b : ℕ) → b < 2 → times 1 b ≡ b
one-times zero h = refl
one-times (suc zero) h = refl
one-times (suc (suc b)) h = absurd (omega arith)

pub times_below : (a b : ℕ) → a < 2 → b < 2 → times a b < 2
times_below zero b ha hb = lit≤ tt
times_below (suc zero) b ha hb = subst (λ x. x < 2) (sym (one-times b hb)) hb
times_below (suc (suc a)) b ha hb = absurd (omega arith)

pub times-plus : (a b c : ℕ) → a < 2 → b < 2 → c < 2 → times a (plus b c) ≡ plus (times a b) (times a c)
times-plus zero b c ha hb hc = refl
times-plus (suc zero) b c ha hb hc = one-times (plus b c) (xor_lt 1 b c hb hc) ∙ sym (ap₂ plus (one-times b hb) (one-times c hc))
times-plus (suc (suc a)) b c ha hb hc = absurd (omega arith)

-- the number 1 stands for one, and each other number for zero
abbrev pub codes_2 : CodeField
codes_2 = record {
  size = 2;
  code_of = λ k. code (k == 1);
  plus = plus;
  negated = negated;
  times = times;
  inverse = inverse;
  size_low = lit≤ tt;
  size_high = lit≤ tt;
  code_of_below = λ k. code_small (k == 1);
  code_of_small = code-bit;
  plus_below = xor_lt 1;
  negated_below = λ a h. h;
  times_below = times_below;
  inverse_below = λ a h. h;
  plus_assoc = λ a b c ha hb hc. xor_assoc a b c;
  plus_comm = λ a b ha hb. xor_comm a b;
  plus-zero = λ a h. xor_zero_r a;
  plus-negated = λ a h. xor_self a;
  times_assoc = λ a b c ha hb hc. and_assoc c a b;
  times_comm = λ a b ha hb. and_comm a b;
  times-one = λ a h. and_comm a 1 ∙ one-times a h;
  times-plus = times-plus;
  times-inverse = λ a some h. and_self a ∙ omega arith;
  inverse-zero = refl;
}
