use Rattle.expander.proofs.OpenRows.{overwrites_touch_few_rows_lem}
use Rattle.expander.proofs.words.overwrites_touch_few_rows.Goals as goal

pub returns : goal.returns
returns g c = overwrites_touch_few_rows_lem _
