-- Bits of numbers, and the numbers that a list of 64-bit words has as its members. Assumes nothing.
use Rattle.std.specs.Prelude.{ℕ, zero, suc, ◌+◌, ◌/◌, ◌%◌, ◌^◌, ◌<◌, Bool, cond, List, ◌==◌, slice_index}
use Rattle.std.specs.Int.{bit_at}

-- bit k of a number is set
abbrev pub bit : ℕ → ℕ → Bool
bit w k = bit_at w k == 1

-- number k is a member: bit k mod 64 of word k div 64 is set, and there is no word past the end
abbrev pub member : List ℕ → ℕ → Bool
member words k = bit (slice_index words (k / 64)) (k % 64)

-- every word has 64 bits
abbrev pub Words : List ℕ → Type 0
Words words = (i : ℕ) → slice_index words i < 2 ^ 64

-- how many of the numbers below n pass the test
unfoldable pub count : ℕ → (ℕ → Bool) → ℕ
count zero p = 0
count (suc n) p = cond (p n) 1 0 + count n p
