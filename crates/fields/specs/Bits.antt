-- The two bits, with exclusive or and and. Assumes nothing.
use Rattle.std.specs.Prelude.{ℕ, Bool, cond, bit_and, bit_xor}

-- the code of a bit
abbrev pub code : Bool → ℕ
code b = cond b 1 0

abbrev pub plus : ℕ → ℕ → ℕ
plus a b = bit_xor a b

abbrev pub negated : ℕ → ℕ
negated a = a

abbrev pub times : ℕ → ℕ → ℕ
times a b = bit_and a b

-- one is its own inverse
abbrev pub inverse : ℕ → ℕ
inverse a = a
