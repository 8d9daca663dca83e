use Rattle.std.proofs.Common.{rules}
use Rattle.surveys.proofs.PascalRows.{next_row}
use Rattle.surveys.proofs.counts.next_row.Goals as goal

pub returns : goal.returns
returns c = λ n h. next_row n c.args.row c.from_fn.result h (search rules) (λ k l. search rules)
