-- The members of a bit set. Assumes nothing.
use Rattle.std.specs.Prelude.{◌≡◌, ℕ, ◌<◌, Bool, true}
use Rattle.bitsets.specs.declared.sets.BitSet.{BitSet}
use Rattle.bitsets.specs.Bits.{member}

-- number k is a member of the set
abbrev pub has : BitSet → ℕ → Bool
has s k = member s.words k

-- two bit sets with the same members are equal
abbrev pub SameMembersSameSet : Type 0
SameMembersSameSet = (a b : BitSet) → ((k : ℕ) → has a k ≡ has b k) → a ≡ b

-- every member is below 512
abbrev pub MembersBelow512 : Type 0
MembersBelow512 = (s : BitSet) (k : ℕ) → has s k ≡ true → k < 512
