-- What searches and surveys tell. Assumes nothing.
use Rattle.std.specs.Prelude.{◌≡◌, ℕ, ◌*◌, Bool, ◌||◌, List, ◌++◌, map, ltb, nat_le, slice_index_or}
use Rattle.bitsets.specs.declared.sets.BitSet.{BitSet}
use Rattle.bitsets.specs.Bits.{count}
use Rattle.bitsets.specs.Sets.{has}
use Rattle.graphs.specs.Models.{GraphModel}
use Rattle.expander.specs.Sets.{sets_from}
use Rattle.expander.specs.Expansion.{meetings, Seen, Survey as SurveyAnswer}
use Rattle.surveys.specs.declared.answers.Search.{Search}
use Rattle.surveys.specs.declared.answers.Survey.{Survey}
use Rattle.surveys.specs.declared.tables.RowTable.{RowTable}
use Rattle.surveys.specs.Members.{members}

-- the sets that extend V by `more` of the `rest` places from low on
abbrev pub extended : List ℕ → ℕ → ℕ → ℕ → List (List ℕ)
extended V low rest more = map (λ W. V ++ W) (sets_from low rest more)

-- the members of `joined` are the rows that the set meets
abbrev pub Looked : GraphModel → List ℕ → BitSet → Type 0
Looked g V joined = (j : ℕ) → has joined j ≡ ltb 0 (meetings g V j)

-- four times the rows that are members of `joined` or meet the place are at most `bound`
abbrev pub short_at : RowTable → BitSet → ℕ → ℕ → Bool
short_at t joined bound place = nat_le (4 * count 512 (λ j. has joined j || has (slice_index_or t.rows.items place joined) j)) bound

-- how many sets a search looked at, and the one that failed
abbrev pub seen_of : Search → Seen
seen_of a = record { sets = a.sets; failing = members a.failing }

-- what a survey tells, as a value
abbrev pub survey_read : Survey → SurveyAnswer
survey_read a = record { level = a.level; sets = a.sets; failing = members a.failing }
