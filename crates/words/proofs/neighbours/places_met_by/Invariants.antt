use Rattle.std.proofs.Common.{◌≡◌, ℕ, ◌&&◌, nat_lt}
use Rattle.bitsets.specs.Sets.{has}
use Rattle.expander.specs.Words.{meets}
use Rattle.words.proofs.neighbours.places_met_by.Given as goal

-- the members are the places before place i that meet the row
abbrev pub invariant-loop-i : goal.invariant-loop-i
invariant-loop-i g l = (x : ℕ) → has l.places x ≡ (nat_lt x l.i && meets (g.G.Graph.model l.graph) l.row.0 x)
