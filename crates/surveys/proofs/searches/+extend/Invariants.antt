use Rattle.std.proofs.Common.{◌≡◌, ◌+◌, ◌-◌, ◌≤◌, length}
use Rattle.graphs.specs.Models.{GraphModel, Valid}
use Rattle.expander.specs.Sets.{choose}
use Rattle.expander.specs.Expansion.{expands, seen}
use Rattle.surveys.specs.Tables.{TableOf}
use Rattle.surveys.specs.Members.{members}
use Rattle.surveys.specs.Answers.{extended, Looked}
use Rattle.surveys.proofs.Searched.{after}
use Rattle.surveys.proofs.searches.+extend.Given as goal

abbrev pub decreases-extend : goal.decreases-extend
decreases-extend l = l.more

abbrev pub invariant-loop-place : goal.invariant-loop-place
invariant-loop-place l =
    let n = length l.table.rows.items in
    record {
      few : l.sets + choose (n - l.place) l.more ≤ choose (n - l.low) l.more;
      rest : (g : GraphModel) → Valid g → TableOf g l.table → Looked g (members l.chosen) l.joined
          → seen (expands g) (extended (members l.chosen) l.low (n - l.low) l.more) ≡ after l.sets (seen (expands g) (extended (members l.chosen) l.place (n - l.place) l.more));
    }
