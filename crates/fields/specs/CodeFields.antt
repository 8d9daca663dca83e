-- A field on codes. Assumes nothing.
use Rattle.std.specs.Prelude.{◌≡◌, ℕ, ◌<◌, ◌≤◌}

-- Operations on the codes below a size, and the laws of a field. `code_of k` is the code that the number k stands for.
pub record CodeField : Type 0 where
  pub size : ℕ
  pub code_of : ℕ → ℕ
  pub plus : ℕ → ℕ → ℕ
  pub negated : ℕ → ℕ
  pub times : ℕ → ℕ → ℕ
  pub inverse : ℕ → ℕ
  pub size_low : 2 ≤ size
  pub size_high : size ≤ 256
  pub code_of_below : (k : ℕ) → code_of k < size
  pub code_of_small : (k : ℕ) → k < size → code_of k ≡ k
  pub plus_below : (a b : ℕ) → a < size → b < size → plus a b < size
  pub negated_below : (a : ℕ) → a < size → negated a < size
  pub times_below : (a b : ℕ) → a < size → b < size → times a b < size
  pub inverse_below : (a : ℕ) → a < size → inverse a < size
  pub plus_assoc : (a b c : ℕ) → a < size → b < size → c < size → plus (plus a b) c ≡ plus a (plus b c)
  pub plus_comm : (a b : ℕ) → a < size → b < size → plus a b ≡ plus b a
  pub plus-zero : (a : ℕ) → a < size → plus a 0 ≡ a
  pub plus-negated : (a : ℕ) → a < size → plus a (negated a) ≡ 0
  pub times_assoc : (a b c : ℕ) → a < size → b < size → c < size → times (times a b) c ≡ times a (times b c)
  pub times_comm : (a b : ℕ) → a < size → b < size → times a b ≡ times b a
  pub times-one : (a : ℕ) → a < size → times a 1 ≡ a
  pub times-plus : (a b c : ℕ) → a < size → b < size → c < size → times a (plus b c) ≡ plus (times a b) (times a c)
  pub times-inverse : (a : ℕ) → 0 < a → a < size → times a (inverse a) ≡ 1
  pub inverse-zero : inverse 0 ≡ 0
