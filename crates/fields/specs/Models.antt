-- What a field means: its elements by their codes, its operations and the laws that they obey. Assumes nothing.
use Rattle.std.specs.Prelude.{◌≡◌, ℕ, ◌<◌, ◌≤◌, cond, Some, None, Option, ◌≢◌, nat_lt}

-- A field with the elements F. Code 0 is zero and code 1 is one; `element k` is the element of code k, for k below the size.
pub record FieldModel (F : Type 0) : Type 0 where
  pub size : ℕ
  pub code : F → ℕ
  pub element : ℕ → F
  pub plus : F → F → F
  pub negated : F → F
  pub times : F → F → F
  pub inverse : F → F
  pub size_low : 2 ≤ size
  pub size_high : size ≤ 256
  pub code_below : (x : F) → code x < size
  pub code-element : (k : ℕ) → k < size → code (element k) ≡ k
  pub same_code : (x y : F) → code x ≡ code y → x ≡ y
  pub plus_assoc : (x y z : F) → plus (plus x y) z ≡ plus x (plus y z)
  pub plus_comm : (x y : F) → plus x y ≡ plus y x
  pub plus-zero : (x : F) → plus x (element 0) ≡ x
  pub plus-negated : (x : F) → plus x (negated x) ≡ element 0
  pub times_assoc : (x y z : F) → times (times x y) z ≡ times x (times y z)
  pub times_comm : (x y : F) → times x y ≡ times y x
  pub times-one : (x : F) → times x (element 1) ≡ x
  pub times-plus : (x y z : F) → times x (plus y z) ≡ plus (times x y) (times x z)
  pub times-inverse : (x : F) → (x ≢ element 0) → times x (inverse x) ≡ element 1
  pub inverse-zero : inverse (element 0) ≡ element 0

-- the element of a code, or none where the code is not below the size
abbrev pub of_code : {F : Type 0} → FieldModel F → ℕ → Option F
of_code f k = cond (nat_lt k f.size) (Some (f.element k)) None
