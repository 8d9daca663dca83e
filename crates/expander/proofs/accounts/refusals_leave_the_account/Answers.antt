use Rattle.expander.proofs.Promising.{refusals_leave_the_account_lem}
use Rattle.expander.proofs.accounts.refusals_leave_the_account.Goals as goal

pub returns : goal.returns
returns g c = refusals_leave_the_account_lem _
