use Rattle.expander.proofs.LowestRuns.{lowest_runs_are_functions_lem}
use Rattle.expander.proofs.accounts.lowest_runs_are_functions.Goals as goal

pub returns : goal.returns
returns g c = lowest_runs_are_functions_lem _
