use Rattle.expander.proofs.Lawfulness.{calls_keep_the_law_lem}
use Rattle.expander.proofs.accounts.calls_keep_the_law.Goals as goal

pub returns : goal.returns
returns g c = calls_keep_the_law_lem _
