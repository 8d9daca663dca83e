-- Sum, negation, product and inverse modulo 101. Assumes nothing.
use Rattle.std.specs.Prelude.{ℕ, ◌+◌, ◌-◌, ◌*◌, ◌%◌, ◌^◌}

abbrev pub plus : ℕ → ℕ → ℕ
plus a b = (a + b) % 101

abbrev pub negated : ℕ → ℕ
negated a = (101 - a) % 101

abbrev pub times : ℕ → ℕ → ℕ
times a b = a * b % 101

-- the remainders other than zero form a group of 100 elements, so the inverse is the 99th power
abbrev pub inverse : ℕ → ℕ
inverse a = a ^ 99 % 101
