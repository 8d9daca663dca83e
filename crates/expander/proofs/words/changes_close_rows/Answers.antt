use Rattle.expander.proofs.OpenRows.{changes_close_rows_lem}
use Rattle.expander.proofs.words.changes_close_rows.Goals as goal

pub returns : goal.returns
returns g c = changes_close_rows_lem _
