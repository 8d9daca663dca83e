use Rattle.std.proofs.Common.{arith, refl}
use Rattle.expander.specs.Sets.{number_of_sets}
use Rattle.surveys.proofs.PascalRows.{next_sum}
use Rattle.surveys.proofs.counts.too_many.Goals as goal

pub loop-count-init : goal.loop-count-init
unfolding number_of_sets
loop-count-init c = refl

pub loop-count-preserved : goal.loop-count-preserved
loop-count-preserved c =
    next_sum _ _ c.loop-count.count-index c.loop-count.sets c.saturating_add-sets.result c.pascal_row-row.result
    c.pascal_row-row.ensures (omega arith) (omega arith) c.loop-count.invariant c.saturating_add-sets.ensures
