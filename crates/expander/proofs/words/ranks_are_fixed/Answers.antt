use Rattle.expander.proofs.Majorities.{ranks_are_fixed_lem}
use Rattle.expander.proofs.words.ranks_are_fixed.Goals as goal

pub returns : goal.returns
returns g c = ranks_are_fixed_lem _
