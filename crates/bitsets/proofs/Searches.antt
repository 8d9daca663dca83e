-- The first member at or after a number, word by word. Assumes nothing.
use Rattle.std.proofs.Common.{◌≡◌, ℕ, ◌+◌, ◌-◌, ◌*◌, ◌/◌, ◌%◌, ◌^◌, ◌<◌, ◌≤◌, max, true, false, List, length, get_or, eqb, w64, Some, None, Option, MatchOption, sym, ap, ap₂, ◌∙◌, ⊎_elim, arith}
use Rattle.std.specs.Int.{trailing_zeros}
use lib.Pow.{shr_le}
use Rattle.std.proofs.lemmas.Nat.Bits.{bit_at-trailing_zeros}
use Rattle.std.proofs.lemmas.Bool.{both_ways, cases_lt}
use Rattle.std.proofs.lemmas.Bool.Decides.{nat_tests}
use Rattle.firsts.specs.First.{or_else, first, first_where, FirstPass, NonePass}
use Rattle.firsts.proofs.Firsts.{cases_map, first_tells}
use Rattle.firsts.proofs.Passes.{where_only, where_append, where_end, first_passing}
use Rattle.bitsets.specs.Bits.{bit, member, Words}
use Rattle.bitsets.proofs.Words.{bit_none, bit_past, bit-shr}
use Rattle.bitsets.proofs.Laws.{member_past}

-- the first member from n on among those of the same word
abbrev pub first_near : List ℕ → ℕ → Option ℕ
first_near words n = first_where (member words) n (64 - n % 64)

near_tells : (words : List ℕ) (n : ℕ) (r : Option ℕ) → first_near words n ≡ r → MatchOption r (NonePass (member words) n (64 - n % 64)) (FirstPass (member words) n (64 - n % 64))
near_tells words n r e = (first_passing (member words) n (64 - n % 64) r).0 (sym e)

-- where there is no word that holds n
pub none_past : (words : List ℕ) (n : ℕ) → length words ≤ n / 64 → None ≡ first_near words n
none_past words n h = where_only (member words) n (64 - n % 64) None (λ k low high. member_past words k (omega arith))

-- the word that holds n, shifted down to n, has the members from n on
module _ (words : List ℕ) (n rest : ℕ) (is : rest ≡ get_or words (n / 64) 0 / 2 ^ (n % 64)) where
  pub from_n : (k : ℕ) → n ≤ k → k / 64 ≡ n / 64 → member words k ≡ bit rest (k - n)
  from_n k low e =
      let there : k % 64 ≡ n % 64 + (k - n) = omega arith in
      ap₂ (λ i j. bit (get_or words i 0) j) e there ∙ sym (bit-shr (get_or words (n / 64) 0) (n % 64) (k - n)) ∙ ap (λ x. bit x (k - n)) (sym is)

  pub none_near : rest ≡ 0 → None ≡ first_near words n
  none_near e = where_only (member words) n (64 - n % 64) None (λ k low high. from_n k low (omega arith) ∙ ap (λ x. bit x (k - n)) e ∙ bit_none (k - n))

  pub some_near : Words words → 0 < rest → Some (n + trailing_zeros w64 rest) ≡ first_near words n
  some_near narrow some =
      let whole = narrow (n / 64) in
      let zeros = trailing_zeros w64 rest in
      let lowest = bit_at-trailing_zeros w64 rest some (omega (arith, shr_le (get_or words (n / 64) 0) (n % 64))) in
      let here : bit rest zeros ≡ true = grind (arith, nat_tests, lowest.1) in
      let past = λ (l : 64 ≤ n % 64 + zeros). ap (λ x. bit x zeros) is ∙ bit-shr (get_or words (n / 64) 0) (n % 64) zeros ∙ bit_past 64 (get_or words (n / 64) 0) (n % 64 + zeros) whole l in
      let inside : n % 64 + zeros < 64 = ⊎_elim (λ l. l) (λ l. absurd (both_ways (bit rest zeros) (past l) here)) (cases_lt (n % 64 + zeros) 64) in
      where_only (member words) n (64 - n % 64) (Some (n + zeros)) (record {
        from = omega arith;
        within = omega arith;
        here = from_n (n + zeros) (omega arith) (omega arith) ∙ ap (bit rest) (omega arith) ∙ here;
        before = λ k low high. from_n k low (omega arith) ∙ ap (λ x. eqb x 1) (lowest.2 (k - n) (omega arith));
      })

-- the first member from n on, word by word
module _ (words : List ℕ) (n : ℕ) where
  abbrev pub in_word : ℕ → Option ℕ
  in_word i = first_near words (max n (64 * i))

  no_word : (k : ℕ) → n ≤ k → in_word (k / 64) ≡ None → member words k ≡ false
  no_word k low e = near_tells words (max n (64 * (k / 64))) None e k (omega arith) (omega arith)

  pub first_by_words : first in_word (n / 64) (8 - n / 64) ≡ first_where (member words) n (512 - n)
  first_by_words =
      let few = 8 - n / 64 in
      where_only (member words) n (512 - n) (first in_word (n / 64) few)
      (cases_map (first in_word (n / 64) few)
      (λ none k low high. no_word k low (none (k / 64) (omega arith) (omega arith)))
      (λ j at.
      let found = near_tells words (max n (64 * at.at)) (Some j) at.here in
      let there : j / 64 ≡ at.at = omega (arith, found.from, found.within, at.from) in
      record {
        from = omega (arith, found.from);
        within = omega (arith, found.within, at.within, at.from);
        here = found.here;
        before = λ k low high.
            ⊎_elim
            (λ less. no_word k low (at.before (k / 64) (omega arith) (omega arith)))
            (λ more. found.before k (omega arith) high)
            (cases_lt k (64 * at.at));
      })
      (first_tells in_word (n / 64) few))

-- the first member from n on is in the word of n or, where that has none, in the words after it
module _ (words : List ℕ) (n : ℕ) where
  abbrev next : ℕ
  next = 64 * (n / 64 + 1)

  near_or_later : length words ≡ 8 → or_else (first_near words n) (first_where (member words) next (512 - next)) ≡ first_where (member words) n (512 - n)
  near_or_later eight =
      ⊎_elim
      (λ inside.
      let to : n + (64 - n % 64) ≡ next = omega arith in
      let all : 64 - n % 64 + (512 - next) ≡ 512 - n = omega arith in
      ap (λ k. or_else (first_near words n) (first_where (member words) k (512 - next))) (sym to)
      ∙ sym (where_append (member words) n (64 - n % 64) (512 - next)) ∙ ap (first_where (member words) n) all)
      (λ past. ap₂ or_else (sym (none_past words n (omega arith))) (where_end (member words) next 512 (omega arith)) ∙ sym (where_end (member words) n 512 past))
      (cases_lt n 512)

  pub first_near_is : length words ≡ 8 → (j : ℕ) → Some j ≡ first_near words n → Some j ≡ first_where (member words) n (512 - n)
  first_near_is eight j e = ap (λ o. or_else o (first_where (member words) next (512 - next))) e ∙ near_or_later eight

  pub first_later_is : length words ≡ 8 → None ≡ first_near words n → first_where (member words) next (512 - next) ≡ first_where (member words) n (512 - n)
  first_later_is eight e = ap (λ o. or_else o (first_where (member words) next (512 - next))) e ∙ near_or_later eight
