-- What follows from the laws of a field. Assumes nothing.
use Rattle.std.proofs.Common.{◌≡◌, true, false, sym, ap, ◌∙◌, arith}
use Rattle.std.proofs.lemmas.Bool.{eqb-true, eq-eqb, ne_eqb}
use Rattle.fields.specs.Models.{FieldModel}
use Rattle.expander.specs.Words.{is_zero, same}

module _ {F : Type 0} (f : FieldModel F) where
  pub zero-plus : (x : F) → f.plus (f.element 0) x ≡ x
  zero-plus x = f.plus_comm (f.element 0) x ∙ f.plus-zero x

  pub negated-plus : (x : F) → f.plus (f.negated x) x ≡ f.element 0
  negated-plus x = f.plus_comm (f.negated x) x ∙ f.plus-negated x

  -- a sum with the negation taken back
  pub plus_back : (x y : F) → f.plus (f.negated x) (f.plus x y) ≡ y
  plus_back x y = sym (f.plus_assoc (f.negated x) x y) ∙ ap (λ z. f.plus z y) (negated-plus x) ∙ zero-plus y

  pub plus_cancel : (x y z : F) → f.plus x y ≡ f.plus x z → y ≡ z
  plus_cancel x y z e = sym (plus_back x y) ∙ ap (f.plus (f.negated x)) e ∙ plus_back x z

  pub times_zero : (x : F) → f.times x (f.element 0) ≡ f.element 0
  times_zero x =
      plus_cancel (f.times x (f.element 0)) (f.times x (f.element 0)) (f.element 0)
      (sym (f.times-plus x (f.element 0) (f.element 0)) ∙ ap (f.times x) (f.plus-zero (f.element 0)) ∙ sym (f.plus-zero (f.times x (f.element 0))))

  pub zero-times : (x : F) → f.times (f.element 0) x ≡ f.element 0
  zero-times x = f.times_comm (f.element 0) x ∙ times_zero x

  -- a product with the inverse taken back
  pub times_back : (x y : F) → (x ≡ f.element 0 → ⊥) → f.times (f.inverse x) (f.times x y) ≡ y
  times_back x y apart =
      sym (f.times_assoc (f.inverse x) x y) ∙ ap (λ z. f.times z y) (f.times_comm (f.inverse x) x ∙ f.times-inverse x apart)
      ∙ f.times_comm (f.element 1) y ∙ f.times-one y

  pub times_cancel : (x y z : F) → (x ≡ f.element 0 → ⊥) → f.times x y ≡ f.times x z → y ≡ z
  times_cancel x y z apart e = sym (times_back x y apart) ∙ ap (f.times (f.inverse x)) e ∙ times_back x z apart

  -- what has to be added to y to have x
  abbrev pub step_to : F → F → F
  step_to x y = f.plus (f.negated y) x

  pub stepped : (x y : F) → f.plus y (step_to x y) ≡ x
  stepped x y = sym (f.plus_assoc y (f.negated y) x) ∙ ap (λ z. f.plus z x) (f.plus-negated y) ∙ zero-plus x

  pub code-zero : f.code (f.element 0) ≡ 0
  code-zero = f.code-element 0 (omega (arith, f.size_low))

  pub zero_true : (x : F) → is_zero f x ≡ true → x ≡ f.element 0
  zero_true x e = f.same_code x (f.element 0) (eqb-true (f.code x) 0 e ∙ sym code-zero)

  pub true_zero : (x : F) → x ≡ f.element 0 → is_zero f x ≡ true
  true_zero x z = eq-eqb (f.code x) 0 (ap f.code z ∙ code-zero)

  pub false_zero : (x : F) → (x ≡ f.element 0 → ⊥) → is_zero f x ≡ false
  false_zero x apart = ne_eqb (f.code x) 0 (λ e. apart (f.same_code x (f.element 0) (e ∙ sym code-zero)))

  pub same_true : (x y : F) → same f x y ≡ true → x ≡ y
  same_true x y e = f.same_code x y (eqb-true (f.code x) (f.code y) e)

  pub true_same : (x y : F) → x ≡ y → same f x y ≡ true
  true_same x y e = eq-eqb (f.code x) (f.code y) (ap f.code e)

  -- the one element that closes a row of sum s, put in with the weight h
  module _ (s h : F) (apart : h ≡ f.element 0 → ⊥) where
    abbrev pub closing : F
    closing = f.times (f.negated s) (f.inverse h)

    pub closes : f.plus s (f.times h closing) ≡ f.element 0
    closes =
        ap (f.plus s)
        (f.times_comm h closing ∙ f.times_assoc (f.negated s) (f.inverse h) h ∙ ap (f.times (f.negated s)) (f.times_comm (f.inverse h) h ∙ f.times-inverse h apart)
        ∙ f.times-one (f.negated s))
        ∙ f.plus-negated s

    pub only_closing : (d : F) → f.plus s (f.times h d) ≡ f.element 0 → closing ≡ d
    only_closing d e = times_cancel h closing d apart (plus_cancel s (f.times h closing) (f.times h d) (closes ∙ sym e))
