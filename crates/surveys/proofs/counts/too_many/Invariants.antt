use Rattle.std.proofs.Common.{◌≡◌, ◌-◌, ◌^◌, min}
use Rattle.expander.specs.Sets.{number_of_sets}
use Rattle.surveys.proofs.counts.too_many.Given as goal

abbrev pub invariant-loop-count : goal.invariant-loop-count
invariant-loop-count l = l.sets ≡ min (number_of_sets l.places l.count-index) (2 ^ 64 - 1)
