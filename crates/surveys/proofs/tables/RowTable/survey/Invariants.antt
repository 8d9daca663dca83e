use Rattle.std.proofs.Common.{◌≡◌, ◌≤◌, [], length}
use Rattle.graphs.specs.Models.{GraphModel, Valid}
use Rattle.expander.specs.Sets.{sets_up_to, number_of_sets}
use Rattle.expander.specs.Expansion.{expands, seen}
use Rattle.surveys.specs.Tables.{TableOf}
use Rattle.surveys.proofs.tables.RowTable.survey.Given as goal

abbrev pub invariant-loop-level : goal.invariant-loop-level
invariant-loop-level l =
    let n = length l.self.rows.items in
    record {
      few : l.sets ≤ number_of_sets n l.level;
      passed : (g : GraphModel) → Valid g → TableOf g l.self → seen (expands g) (sets_up_to n l.level) ≡ record { sets = l.sets; failing = [] };
    }
