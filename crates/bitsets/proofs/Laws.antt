-- What a change of one word does to the members, and that the members fix the words. Assumes nothing.
use Rattle.std.proofs.Common.{◌≡◌, ℕ, zero, suc, ◌+◌, ◌-◌, ◌*◌, ◌/◌, ◌%◌, ◌^◌, ◌<◌, ◌≤◌, false, not, ◌&&◌, ◌||◌, eqb, bit_and, bit_or, count_ones, List, length, get_or, set, sym, refl, ap, ◌∙◌, ap₂, ⊎_elim, arith}
use mathlib.Core.HLevel.{is_prop→PathP}
use denote.Struct.Props.{props}
use Rattle.std.proofs.lemmas.List.{get_or_past, get_or-set_other, ext_get_or}
use Rattle.std.proofs.lemmas.Grind.{get_or-set_at}
use Rattle.std.proofs.lemmas.Bool.{cases_eq, both_ways, cases_lt, ne_eqb}
use Rattle.std.proofs.lemmas.Nat.{or_lt}
use Rattle.std.proofs.Math.Bool.{and-true}
use Rattle.std.proofs.lemmas.Bool.Decides.{nat_tests}
use Rattle.std.specs.List.{sum_by}
use Rattle.bitsets.specs.declared.sets.BitSet.{BitSet}
use Rattle.bitsets.specs.Bits.{bit, member, Words, count}
use Rattle.bitsets.specs.Sets.{has, MembersBelow512, SameMembersSameSet}
use Rattle.bitsets.proofs.Counts.{count_same, count_add, ones-count, ones_below, ones_members}
use Rattle.bitsets.proofs.Words.{bit_none, bit-or, bit_set, bit_clear, same_bits}

-- bit j of word i is number 64 × i + j
pub member_at : (words : List ℕ) (i j : ℕ) → j < 64 → member words (64 * i + j) ≡ bit (get_or words i 0) j
member_at words i j h =
    let word : (64 * i + j) / 64 ≡ i = omega arith in
    let place : (64 * i + j) % 64 ≡ j = omega arith in
    ap₂ (λ x y. bit (get_or words x 0) y) word place

-- where there is no word, there is no member
pub member_past : (words : List ℕ) (k : ℕ) → length words ≤ k / 64 → member words k ≡ false
member_past words k h = ap (λ w. bit w (k % 64)) (get_or_past words (k / 64) 0 h) ∙ bit_none (k % 64)

-- the word that holds n
abbrev word_of : List ℕ → ℕ → ℕ
word_of words n = get_or words (n / 64) 0

-- a word w takes the place of the one that holds n, and the numbers of other words stay as they were
module _ (words : List ℕ) (n w k : ℕ) (inside : n / 64 < length words) where
  pub member_same : k / 64 ≡ n / 64 → member (set words (n / 64) w) k ≡ bit w (k % 64)
  member_same e = ap (λ x. bit x (k % 64)) (get_or-set_at words (n / 64) (k / 64) w 0 e inside)

  pub member_other : (k / 64 ≡ n / 64 → ⊥) → member (set words (n / 64) w) k ≡ member words k
  member_other ne = ap (λ x. bit x (k % 64)) (get_or-set_other words (n / 64) (k / 64) w 0 ne)

pub set_narrow : (words : List ℕ) (i w : ℕ) → i < length words → Words words → w < 2 ^ 64 → Words (set words i w)
set_narrow words i w l h hw k =
    ⊎_elim
    (λ e. omega (arith, get_or-set_at words i k w 0 e l))
    (λ ne. omega (arith, get_or-set_other words i k w 0 ne, h k))
    (cases_eq k i)

-- one bit more leaves the words narrow
pub with_bit_narrow : (words : List ℕ) (n : ℕ) → n / 64 < length words → Words words → Words (set words (n / 64) (bit_or (word_of words n) (1 * 2 ^ (n % 64) % 2 ^ 64)))
with_bit_narrow words n inside h = set_narrow words (n / 64) _ inside h (or_lt 64 _ _ (h (n / 64)) (omega arith))

module _ (words : List ℕ) (n : ℕ) (inside : n / 64 < length words) (k : ℕ) where
  pub with_bit : member (set words (n / 64) (bit_or (word_of words n) (1 * 2 ^ (n % 64) % 2 ^ 64))) k ≡ (member words k || eqb k n)
  with_bit =
      ⊎_elim
      (λ e. let set = member_same words n _ k inside e ∙ bit_set (word_of words n) (n % 64) (k % 64) (omega arith) in grind (arith, nat_tests))
      (λ ne. let other = member_other words n (bit_or (word_of words n) (1 * 2 ^ (n % 64) % 2 ^ 64)) k inside ne in grind (arith, nat_tests))
      (cases_eq (k / 64) (n / 64))

  pub without_bit : member (set words (n / 64) (bit_and (word_of words n) (2 ^ 64 - 1 - 1 * 2 ^ (n % 64) % 2 ^ 64))) k ≡ (member words k && not (eqb k n))
  without_bit =
      ⊎_elim
      (λ e. let clear = member_same words n _ k inside e ∙ bit_clear (word_of words n) (n % 64) (k % 64) (omega arith) (omega arith) in grind (arith, nat_tests))
      (λ ne. let other = member_other words n (bit_and (word_of words n) (2 ^ 64 - 1 - 1 * 2 ^ (n % 64) % 2 ^ 64)) k inside ne in grind (arith, nat_tests))
      (cases_eq (k / 64) (n / 64))

-- where the number is no member at all
pub without_none : (words : List ℕ) (n : ℕ) → length words ≡ 8 → 512 ≤ n → (k : ℕ) → member words k ≡ (member words k && not (eqb k n))
without_none words n e h k =
    ⊎_elim
    (λ same. let none = member_past words k (omega arith) in none ∙ ap (λ b. b && not (eqb k n)) (sym none))
    (λ other. sym (ap (λ b. member words k && not b) (ne_eqb k n other) ∙ and-true (member words k)))
    (cases_eq k n)

-- c has the words of a and b joined
pub join_members : (a b c : List ℕ) → length a ≡ 8 → length b ≡ 8 → length c ≡ 8 → ((i : ℕ) → i < 8 → get_or c i 0 ≡ bit_or (get_or a i 0) (get_or b i 0)) → (k : ℕ) → member c k ≡ (member a k || member b k)
join_members a b c la lb lc h k =
    ⊎_elim
    (λ l. ap (λ w. bit w (k % 64)) (h (k / 64) l) ∙ bit-or (get_or a (k / 64) 0) (get_or b (k / 64) 0) (k % 64))
    (λ past. let none = λ (words : List ℕ) (l : length words ≡ 8). member_past words k (omega arith) in none c lc ∙ sym (ap₂ ◌||◌ (none a la) (none b lb)))
    (cases_lt (k / 64) 8)

pub join_narrow : (a b c : List ℕ) → length a ≡ 8 → length b ≡ 8 → length c ≡ 8 → ((i : ℕ) → i < 8 → get_or c i 0 ≡ bit_or (get_or a i 0) (get_or b i 0)) → Words a → Words b → Words c
join_narrow a b c la lb lc h na nb i =
    ⊎_elim
    (λ l. omega (arith, h i l, or_lt 64 (get_or a i 0) (get_or b i 0) (na i) (nb i)))
    (λ past. omega (arith, get_or_past c i 0 (omega arith)))
    (cases_lt i 8)

-- the set digits of the first n words count their members
pub ones_below_members : (words : List ℕ) (n : ℕ) → Words words → ones_below words n ≡ count (64 * n) (member words)
unfolding count
ones_below_members words zero h = refl
ones_below_members words (suc n) h =
    let more : 64 * n + 64 ≡ 64 * suc n = omega arith in
    ap₂ (λ x y. x + y) (ones_below_members words n h) (ones-count 64 (get_or words n 0) (h n) ∙ count_same 64 _ _ (λ j l. sym (member_at words n j l)))
    ∙ sym (count_add (64 * n) 64 (member words)) ∙ ap (λ x. count x (member words)) more

-- the set digits of a set's words count its members
pub ones_are_members : (s : BitSet) → sum_by count_ones s.words ≡ count 512 (has s)
ones_are_members s = ones_members s.words s.narrow ∙ ap (λ n. count (64 * n) (has s)) s.eight

pub members_below : MembersBelow512
members_below s k e =
    ⊎_elim (λ l. l) (λ past. absurd (both_ways (has s k) (member_past s.words k (omega (arith, s.eight))) e)) (cases_lt k 512)

same_words : (a b : List ℕ) → length a ≡ length b → Words a → Words b → ((k : ℕ) → member a k ≡ member b k) → a ≡ b
same_words a b l na nb h =
    ext_get_or 0 a b l (λ i _. same_bits 64 (get_or a i 0) (get_or b i 0) (na i) (nb i)
    (λ k low. sym (member_at a i k low) ∙ h (64 * i + k) ∙ member_at b i k low))

pub same_members : SameMembersSameSet
same_members a b h =
    let e = same_words a.words b.words (a.eight ∙ sym b.eight) a.narrow b.narrow h in
    λ i. record {
      words = e i;
      eight = is_prop→PathP (λ j. length (e j) ≡ 8) (λ j. hlevel props) a.eight b.eight i;
      narrow = is_prop→PathP (λ j. Words (e j)) (λ j. hlevel props) a.narrow b.narrow i;
    }
