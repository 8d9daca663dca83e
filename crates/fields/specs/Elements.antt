-- The field whose elements are kept by their codes: its laws are those of the codes, once for every such field. Assumes nothing.
use Rattle.std.specs.Prelude.{◌≡◌, ℕ, ◌<◌, ◌≢◌}
use Rattle.std.proofs.Common.{sym, ◌∙◌, ap, ap₂, ⊎_elim, eq-zero-or-pos, arith}
use mathlib.Core.HLevel.{is_prop→PathP}
use Rattle.std.proofs.Math.Bridge.{le_prop}
use Rattle.fields.specs.declared.elements.Element.{Element}
use Rattle.fields.specs.CodeFields.{CodeField}
use Rattle.fields.specs.Models.{FieldModel}

-- the elements of a marker type C whose codes are those of o
abbrev pub ElementOf : Type 0 → CodeField → Type 0
ElementOf C o = Element C (record { codes = o })

pub some_code : (o : CodeField) → 0 < o.size
some_code o = omega (arith, o.size_low)

-- the element of the code that a number stands for
unfoldable pub element : {C : Type 0} {o : CodeField} → ℕ → ElementOf C o
element {C} {o} k = record { code = o.code_of k; codes = record {}; below = o.code_of_below k }

module _ (C : Type 0) (o : CodeField) where
  pub same_code : (x y : ElementOf C o) → x.code ≡ y.code → x ≡ y
  same_code x y e i = record { code = e i; codes = record {}; below = is_prop→PathP (λ j. e j < o.size) (λ j. le_prop) x.below y.below i }

  pub code-element : (k : ℕ) → k < o.size → (element {C = C} {o = o} k).code ≡ k
  unfolding element
  code-element = o.code_of_small

  pub code-zero : (element {C = C} {o = o} 0).code ≡ 0
  code-zero = code-element 0 (some_code o)

  pub code_one : (element {C = C} {o = o} 1).code ≡ 1
  code_one = code-element 1 o.size_low

  -- an operation on one element, by its code
  abbrev pub on_one : (ℕ → ℕ) → ElementOf C o → ElementOf C o
  on_one f x = element (f x.code)

  -- an operation on two elements, by their codes
  abbrev pub on_two : (ℕ → ℕ → ℕ) → ElementOf C o → ElementOf C o → ElementOf C o
  on_two f x y = element (f x.code y.code)

  module _ (f : ℕ → ℕ → ℕ) (closed : (a b : ℕ) → a < o.size → b < o.size → f a b < o.size) where
    pub code_two : (x y : ElementOf C o) → (on_two f x y).code ≡ f x.code y.code
    code_two x y = code-element _ (closed _ _ x.below y.below)

    pub on_two_assoc : ((a b d : ℕ) → a < o.size → b < o.size → d < o.size → f (f a b) d ≡ f a (f b d)) → (x y z : ElementOf C o) → on_two f (on_two f x y) z ≡ on_two f x (on_two f y z)
    on_two_assoc law x y z =
        ap element (ap (λ a. f a z.code) (code_two x y) ∙ law _ _ _ x.below y.below z.below ∙ sym (ap (f x.code) (code_two y z)))

    pub on_two_comm : ((a b : ℕ) → a < o.size → b < o.size → f a b ≡ f b a) → (x y : ElementOf C o) → on_two f x y ≡ on_two f y x
    on_two_comm law x y = ap element (law _ _ x.below y.below)

    -- what the operation gives with an element whose code is known
    pub on_two_with : (x y z : ElementOf C o) (a : ℕ) → y.code ≡ a → f x.code a ≡ z.code → on_two f x y ≡ z
    on_two_with x y z a e law = same_code _ _ (code_two x y ∙ ap (f x.code) e ∙ law)

  pub not_zero : (x : ElementOf C o) → (x ≢ element 0) → 0 < x.code
  not_zero x apart = ⊎_elim (λ e. absurd (apart (same_code x (element 0) (e ∙ sym code-zero)))) (λ h. h) (eq-zero-or-pos x.code)

  pub times_over_plus : (x y z : ElementOf C o) → on_two o.times x (on_two o.plus y z) ≡ on_two o.plus (on_two o.times x y) (on_two o.times x z)
  times_over_plus x y z =
      ap element
      (ap (o.times x.code) (code_two o.plus o.plus_below y z) ∙ o.times-plus _ _ _ x.below y.below z.below
      ∙ ap₂ o.plus (sym (code_two o.times o.times_below x y)) (sym (code_two o.times o.times_below x z)))

  -- the field of these codes
  abbrev pub field_of : FieldModel (ElementOf C o)
  field_of = record {
    size = o.size;
    code = λ x. x.code;
    element = element;
    plus = on_two o.plus;
    negated = on_one o.negated;
    times = on_two o.times;
    inverse = on_one o.inverse;
    size_low = o.size_low;
    size_high = o.size_high;
    code_below = λ x. x.below;
    code-element = code-element;
    same_code = same_code;
    plus_assoc = on_two_assoc o.plus o.plus_below o.plus_assoc;
    plus_comm = on_two_comm o.plus o.plus_below o.plus_comm;
    plus-zero = λ x. on_two_with o.plus o.plus_below x (element 0) x 0 code-zero (o.plus-zero _ x.below);
    plus-negated = λ x. on_two_with o.plus o.plus_below x (on_one o.negated x) (element 0) _ (code-element _ (o.negated_below _ x.below)) (o.plus-negated _ x.below ∙ sym code-zero);
    times_assoc = on_two_assoc o.times o.times_below o.times_assoc;
    times_comm = on_two_comm o.times o.times_below o.times_comm;
    times-one = λ x. on_two_with o.times o.times_below x (element 1) x 1 code_one (o.times-one _ x.below);
    times-plus = times_over_plus;
    times-inverse = λ x apart. on_two_with o.times o.times_below x (on_one o.inverse x) (element 1) _ (code-element _ (o.inverse_below _ x.below)) (o.times-inverse _ (not_zero x apart) x.below ∙ sym code_one);
    inverse-zero = ap element (ap o.inverse code-zero ∙ o.inverse-zero);
  }
