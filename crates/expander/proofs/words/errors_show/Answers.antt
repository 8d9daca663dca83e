use Rattle.expander.proofs.Expanding.{errors_show_lem}
use Rattle.expander.proofs.words.errors_show.Goals as goal

pub returns : goal.returns
returns g c = errors_show_lem _
