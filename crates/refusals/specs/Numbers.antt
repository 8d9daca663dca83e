-- The numbers in files and frames. Assumes nothing.
use Rattle.std.specs.Prelude.{ℕ, ◌+◌, ◌*◌, List, slice_index}

-- 16 bits at p, the high byte first
abbrev pub u16_at : List ℕ → ℕ → ℕ
u16_at bytes p = slice_index bytes p * 256 + slice_index bytes (p + 1)
