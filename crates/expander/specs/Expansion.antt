-- Which sets of places expand, and what a survey answers. Assumes nothing.
use Rattle.std.specs.Prelude.{◌≡◌, ℕ, suc, ◌+◌, ◌*◌, ◌<◌, ◌≤◌, Bool, true, false, cond, ltb, List, [], ◌∷◌, length, nat_lt, slice_index_or}
use Rattle.bitsets.specs.Bits.{count}
use Rattle.graphs.specs.Models.{GraphModel}
use Rattle.expander.specs.Words.{meets}
use Rattle.expander.specs.Sets.{SetUpTo, sets_up_to}

module _ (g : GraphModel) where
  -- the number of places of the set that row j meets
  unfoldable pub meetings : List ℕ → ℕ → ℕ
  meetings [] j = 0
  meetings (p ∷ V) j = cond (meets g j p) 1 0 + meetings V j

  -- the number of different rows that the set meets
  abbrev pub rows_met : List ℕ → ℕ
  rows_met V = count g.rows (λ j. ltb 0 (meetings V j))

  -- a set of k places expands when 4 times its rows are more than 3 times the degree times k
  abbrev pub expands : List ℕ → Bool
  expands V = nat_lt (3 * g.degree * length V) (4 * rows_met V)

  -- every set of at most t places expands
  abbrev pub AllExpand : ℕ → Type 0
  AllExpand t = (V : List ℕ) → SetUpTo g.places t V → expands V ≡ true

-- What a survey answers: the level, the number of sets looked at, and the failing set, which is empty if there is none.
pub record Survey : Type 0 where
  pub level : ℕ
  pub sets : ℕ
  pub failing : List ℕ

-- How many sets of a list were looked at, and the first that fails the test, empty if there is none.
pub record Seen : Type 0 where
  pub sets : ℕ
  pub failing : List ℕ

-- the test is put to one set after another, up to the first that fails
unfoldable pub seen : (List ℕ → Bool) → List (List ℕ) → Seen
seen test [] = record { sets = 0; failing = [] }
seen test (V ∷ Vs) =
    elim (test V) [ true ↦ record { sets = suc (seen test Vs).sets; failing = (seen test Vs).failing } | false ↦ record { sets = 1; failing = V } ]

-- the level of a survey of size s: every set expands, or one fewer than the members of the failing set
abbrev pub level_of : ℕ → List ℕ → ℕ
level_of s [] = s
level_of s (p ∷ V) = length V

-- the answer to a survey of size s
abbrev pub survey_of : GraphModel → ℕ → Survey
survey_of g s =
    let looked = seen (expands g) (sets_up_to g.places s) in
    record { level = level_of s looked.failing; sets = looked.sets; failing = looked.failing }

-- The sets before number k of the list pass the test, and set k does not.
pub record FailsFirst (test : List ℕ → Bool) (sets : List (List ℕ)) (k : ℕ) : Type 0 where
  pub within : k < length sets
  pub before : (i : ℕ) → i < k → test (slice_index_or sets i []) ≡ true
  pub fails : test (slice_index_or sets k []) ≡ false

-- What a survey of size s tells. The level is the largest t up to s such that every set of at most t places expands.
-- Either a set fails: it is the first, and it is counted. Or none does: every set was looked at.
pub record Surveyed (g : GraphModel) (s : ℕ) (r : Survey) : Type 0 where
  pub low : r.level ≤ s
  pub all : AllExpand g r.level
  pub largest : (t : ℕ) → t ≤ s → AllExpand g t → t ≤ r.level
  pub named : 1 ≤ length r.failing
      → (k : ℕ) × FailsFirst (expands g) (sets_up_to g.places s) k × (r.sets ≡ suc k) × (r.failing ≡ slice_index_or (sets_up_to g.places s) k [])
  pub unnamed : length r.failing ≡ 0 → AllExpand g s × (r.sets ≡ length (sets_up_to g.places s))

abbrev pub SurveysTell : Type 0
SurveysTell = (g : GraphModel) (s : ℕ) → Surveyed g s (survey_of g s)
