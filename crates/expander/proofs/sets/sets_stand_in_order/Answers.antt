use Rattle.expander.proofs.SetLists.{sets_in_order}
use Rattle.expander.proofs.sets.sets_stand_in_order.Goals as goal

pub returns : goal.returns
returns c = sets_in_order
