-- The bits of a number under the operations on words. Assumes nothing.
use Rattle.std.proofs.Common.{◌≡◌, ℕ, zero, suc, ◌+◌, ◌-◌, ◌*◌, ◌/◌, ◌%◌, ◌^◌, ◌<◌, ◌≤◌, true, false, not, ◌&&◌, ◌||◌, eqb, bit_and, bit_or, w64, sym, refl, ap, ◌∙◌, ⊎_elim, div-one, pow-suc, pow_pos, arith, shr-shr}
use lib.Count.{count_trailing_zeros, under}
use Rattle.std.proofs.lemmas.Bool.{cases_eq}
use Rattle.std.proofs.lemmas.Bool.Decides.{nat_tests}
use Rattle.std.proofs.lemmas.Nat.Bits.{bit_at-zero, bit_at-suc, bit_at_or, bit_at_above, bit_at_set_same, bit_at_set_other, bit_at_clear_same, bit_at_clear_other, same_from_bits_below}
use Rattle.bitsets.specs.Bits.{bit}

pub bit-zero : (w : ℕ) → bit w 0 ≡ eqb (w % 2) 1
bit-zero w = ap (λ x. eqb (x % 2) 1) (div-one w)

pub bit-suc : (w k : ℕ) → bit w (suc k) ≡ bit (w / 2) k
bit-suc w k = ap (λ x. eqb x 1) (bit_at-suc w k)

pub bit_none : (k : ℕ) → bit 0 k ≡ false
bit_none k = ap (λ x. eqb x 1) (bit_at-zero k)

pub bit-or : (a b k : ℕ) → bit (bit_or a b) k ≡ (bit a k || bit b k)
bit-or a b k = let e = bit_at_or a b k in grind (arith, nat_tests)

-- the bits that a word of n bits lacks
pub bit_not : (n w k : ℕ) → w < 2 ^ n → k < n → bit (2 ^ n - 1 - w) k ≡ not (bit w k)
bit_not zero w k h l = absurd (omega arith)
bit_not (suc n) w zero h l =
    let p = pow_pos n in
    let e = pow-suc 2 n in
    bit-zero (2 ^ suc n - 1 - w) ∙ grind (arith, nat_tests) ∙ ap not (sym (bit-zero w))
bit_not (suc n) w (suc k) h l =
    let half : (2 ^ suc n - 1 - w) / 2 ≡ 2 ^ n - 1 - w / 2 = omega (arith, pow-suc 2 n, pow_pos n) in
    let less : w / 2 < 2 ^ n = omega (arith, pow-suc 2 n) in
    bit-suc (2 ^ suc n - 1 - w) k ∙ ap (λ x. bit x k) half ∙ bit_not n (w / 2) k less (omega arith) ∙ ap not (sym (bit-suc w k))

-- no bit is set past the word's own
pub bit_past : (n w k : ℕ) → w < 2 ^ n → n ≤ k → bit w k ≡ false
bit_past n w k h l = ap (λ x. eqb x 1) (bit_at_above w n k h l)

-- the bits of a word that is shifted down
pub bit-shr : (w s j : ℕ) → bit (w / 2 ^ s) j ≡ bit w (s + j)
bit-shr w s j = ap (λ x. eqb (x % 2) 1) (shr-shr w s j)

-- bit k of a word is set, or cleared
module _ (w k j : ℕ) (inside : k < 64) where
  pub bit_set : bit (bit_or w (1 * 2 ^ k % 2 ^ 64)) j ≡ (bit w j || eqb j k)
  bit_set =
      ⊎_elim
      (λ e. let same = bit_at_set_same w64 w k inside in grind (arith, nat_tests))
      (λ ne. let other = bit_at_set_other w64 w k inside j ne in grind (arith, nat_tests))
      (cases_eq j k)

  pub bit_clear : j < 64 → bit (bit_and w (2 ^ 64 - 1 - 1 * 2 ^ k % 2 ^ 64)) j ≡ (bit w j && not (eqb j k))
  bit_clear l =
      ⊎_elim
      (λ e. let same = bit_at_clear_same w64 w k inside in grind (arith, nat_tests))
      (λ ne. let other = bit_at_clear_other w64 w k inside j l ne in grind (arith, nat_tests))
      (cases_eq j k)

-- the bits fix a number of n bits
pub same_bits : (n a b : ℕ) → a < 2 ^ n → b < 2 ^ n → ((k : ℕ) → k < n → bit a k ≡ bit b k) → a ≡ b
same_bits n a b ha hb h = same_from_bits_below n a b ha hb (λ k l. let e = h k l in grind (arith, nat_tests))

module _ (t w d : ℕ) (e : w % 2 ≡ d) (h : (i : ℕ) → i < t → bit (w / 2) i ≡ false) where
  even_below : (j : ℕ) → d ≡ 0 → j < suc t → bit w j ≡ false
  even_below zero z l = bit-zero w ∙ grind (arith, nat_tests)
  even_below (suc j) z l = bit-suc w j ∙ h j (omega arith)

under_below : (t w d j : ℕ) → w % 2 ≡ d → ((i : ℕ) → i < t → bit (w / 2) i ≡ false) → j < under d t → bit w j ≡ false
under_below t w zero j e h l = even_below t w zero e h j refl l
under_below t w (suc d) j e h l = absurd (omega arith)

-- no bit is set below the first
pub trailing_below : (n w j : ℕ) → j < count_trailing_zeros n w → bit w j ≡ false
unfolding count_trailing_zeros
trailing_below zero w j l = absurd (omega arith)
trailing_below (suc n) w j l = under_below (count_trailing_zeros n (w / 2)) w (w % 2) j refl (trailing_below n (w / 2)) l

under_at : (t n w d : ℕ) → w % 2 ≡ d → (t < n → bit (w / 2) t ≡ true) → under d t < suc n → bit w (under d t) ≡ true
under_at t n w zero e h l = bit-suc w t ∙ h (omega arith)
under_at t n w (suc d) e h l = bit-zero w ∙ grind (arith, nat_tests)

-- the first bit is set
pub trailing_at : (n w : ℕ) → count_trailing_zeros n w < n → bit w (count_trailing_zeros n w) ≡ true
unfolding count_trailing_zeros
trailing_at zero w l = absurd (omega arith)
trailing_at (suc n) w l = under_at (count_trailing_zeros n (w / 2)) n w (w % 2) refl (trailing_at n (w / 2)) l
