-- The distance of two words. Assumes nothing.
use Rattle.std.proofs.Common.{◌≡◌, ℕ, ◌+◌, ◌<◌, ◌≤◌, Bool, true, false, not, ◌⊎◌, ◌≢◌, List, length, sym, refl, ap, ◌∙◌, inl, inr, ⊎_elim, arith, ext_get_or, set, get_or-set_other}
use Rattle.std.proofs.lemmas.Bool.{cases_Bool, true_from_ne_false, not_from_false}
use Rattle.fields.specs.Models.{FieldModel}
use Rattle.expander.specs.Words.{same, symbols, distance}
use Rattle.expander.proofs.Sums.{bit, bit_low, sum, count-sum, count_cover, sum-zero, sum_single, sum_member}
use Rattle.expander.proofs.FieldLaws.{same_true, true_same}

module _ {F : Type 0} (f : FieldModel F) where
  -- two words differ at a place
  abbrev pub differ : (ℕ → F) → (ℕ → F) → ℕ → Bool
  differ w x i = not (same f (w i) (x i))

  equal_0 : (w x : ℕ → F) (i : ℕ) → w i ≡ x i → bit (differ w x i) ≡ 0
  equal_0 w x i e = ap (λ b. bit (not b)) (true_same f (w i) (x i) e)

  pub not_differ : (w x : ℕ → F) (i : ℕ) → bit (differ w x i) ≡ 0 → w i ≡ x i
  not_differ w x i e = same_true f (w i) (x i) (true_from_ne_false (same f (w i) (x i)) (λ u. omega (arith, ap (λ b. bit (not b)) u)))

module _ {F : Type 0} (f : FieldModel F) (n : ℕ) where
  pub distance-sum : (w x : ℕ → F) → distance f n w x ≡ sum n (λ i. bit (differ f w x i))
  distance-sum w x = count-sum n (differ f w x)

  pub distance_self : (w : ℕ → F) → distance f n w w ≡ 0
  distance_self w = distance-sum w w ∙ sum-zero n (λ i. bit (differ f w w i)) (λ i l. equal_0 f w w i refl)

  -- a third word differs from one of two where these differ
  corner : (b x y : ℕ → F) (i : ℕ) → differ f x y i ≡ true → (differ f b x i ≡ true) ⊎ (differ f b y i ≡ true)
  corner b x y i d =
      ⊎_elim
      (λ (t : same f (b i) (x i) ≡ true). inr (rw (same_true f (b i) (x i) t) d))
      (λ (u : same f (b i) (x i) ≡ false). inl (not_from_false (same f (b i) (x i)) u))
      (cases_Bool (same f (b i) (x i)))

  pub triangle : (b x y : ℕ → F) → distance f n x y ≤ distance f n b x + distance f n b y
  triangle b x y = count_cover n (differ f x y) (differ f b x) (differ f b y) (λ i l. corner b x y i)

  pub distance_flip : (w x : ℕ → F) → distance f n w x ≡ distance f n x w
  distance_flip w x = omega (arith, triangle x w x, triangle w x w, distance_self x, distance_self w)

  -- a symbol that is put at one place leaves the others
  pub put_others : (w : List F) (i : ℕ) (s : F) (a : ℕ) → a < n → a ≢ i → symbols f (set w i s) a ≡ symbols f w a
  put_others w i s a l apart = get_or-set_other w i a s (f.element 0) apart

  -- words that agree but at place i differ in at most one
  pub one_apart : (w x : ℕ → F) (i : ℕ) → i < n → ((a : ℕ) → a < n → a ≢ i → x a ≡ w a) → distance f n w x ≤ 1
  one_apart w x i l others =
      let single = sum_single n i (λ k. bit (differ f w x k)) l (λ k h apart. equal_0 f w x k (sym (others k h apart))) in
      omega (arith, distance-sum w x, single, bit_low (differ f w x i))

  -- such a word is further from a third by at most one
  pub one_more : (w x y : ℕ → F) (i : ℕ) → i < n → ((a : ℕ) → a < n → a ≢ i → x a ≡ w a) → distance f n x y ≤ distance f n w y + 1
  one_more w x y i l others = omega (arith, triangle w x y, one_apart w x i l others)

  -- words of one length that do not differ are one
  pub no_distance : (w x : List F) → length w ≡ n → length x ≡ n → distance f n (symbols f w) (symbols f x) ≡ 0 → w ≡ x
  no_distance w x lw lx none =
      ext_get_or (f.element 0) w x (lw ∙ sym lx) (λ i l.
      not_differ f (symbols f w) (symbols f x) i
      (omega (arith, distance-sum (symbols f w) (symbols f x), sum_member n i (λ k. bit (differ f (symbols f w) (symbols f x) k)) (omega arith))))
