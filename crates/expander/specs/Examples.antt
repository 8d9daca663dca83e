-- The worked examples, on the definitions that the contracts cite. Assumes nothing.
use Rattle.std.specs.Prelude.{◌≡◌, ℕ, ◌≤◌, List, [], ◌∷◌, map, replicate, Some, None, Option}
use Rattle.std.specs.List.{range_with_len}
use Rattle.refusals.specs.declared.faults.Fault.{Fault}
use Rattle.refusals.specs.Faults.{number_of}
use Rattle.refusals.specs.declared.faults.Refusal.TheVariants.{NotSure}
use Rattle.refusals.specs.declared.faults.Layer.{Layer}
use Rattle.refusals.specs.declared.faults.Layer.TheVariants.{Line, Decoder, Window}
use Rattle.fields.specs.Fields.{Gf2, Gf101, bits, remainders}
use Rattle.graphs.specs.Models.{GraphModel}
use Rattle.graphs.specs.LiftFiles.{lift_model}
use Rattle.graphs.specs.ListedFiles.{listed_model}
use Rattle.expander.specs.declared.outcomes.Outcome.{Outcome}
use Rattle.expander.specs.declared.outcomes.Outcome.TheVariants.{Sure, Closed, Stuck, Spent}
use Rattle.expander.specs.Words.{symbols, open_row_count}
use Rattle.expander.specs.Votes.{rank}
use Rattle.expander.specs.Sets.{number_of_sets}
use Rattle.expander.specs.Expansion.{survey_of}
use Rattle.expander.specs.Accounts.{Call, survey, load, overwrite, repair, settle, panel, Answer, surveyed, loaded, overwritten, repaired, settled, shown, refused, Account, new_account, Picked, after_picks, fault_of}
use Rattle.expander.specs.Repairs.{lowest_answers}

-- the seven-place lift: one base row, one column, size 7, degree 3, shifts 0, 1 and 3, weights 1
abbrev pub seven : GraphModel
seven = lift_model (0 ∷ 0 ∷ 0 ∷ 0 ∷ 0 ∷ 0 ∷ 0 ∷ 1 ∷ 0 ∷ 0 ∷ 0 ∷ 0 ∷ 0 ∷ 1 ∷ 0 ∷ 1 ∷ 0 ∷ 0 ∷ 0 ∷ 0 ∷ 0 ∷ 3 ∷ 0 ∷ 1 ∷ []) 1 1 7 3

-- the two-place listed graph: three rows, degree 2, place 0 meets rows 0 and 1, place 1 meets rows 1 and 2, weights 1
abbrev pub two : GraphModel
two = listed_model (0 ∷ 0 ∷ 0 ∷ 0 ∷ 0 ∷ 1 ∷ 0 ∷ 0 ∷ 0 ∷ 1 ∷ 0 ∷ 1 ∷ 0 ∷ 1 ∷ 0 ∷ 1 ∷ 0 ∷ 1 ∷ 0 ∷ 1 ∷ 0 ∷ 2 ∷ 0 ∷ 1 ∷ []) 2 3 2

-- a word of bits
abbrev pub word : List ℕ → List Gf2
word digits = map bits.element digits

abbrev pub open_in : List ℕ → ℕ
open_in digits = open_row_count bits seven (symbols bits (word digits))

abbrev pub ranks_in : List ℕ → List ℕ
ranks_in digits = map (rank bits seven (symbols bits (word digits))) (range_with_len 0 7)

-- A repair of the first word with a budget of 2 or more may pick p first, and however it goes on it ends at the second word.
pub record EndsIfFirst (start : List ℕ) (p : ℕ) (end : List ℕ) : Type 0 where
  pub some : (budget : ℕ) → 2 ≤ budget → (picks : List ℕ) × Picked bits seven budget (word start) (p ∷ picks)
  pub all : (budget : ℕ) (picks : List ℕ) → 2 ≤ budget → Picked bits seven budget (word start) (p ∷ picks) → after_picks bits seven (word start) (p ∷ picks) ≡ word end

-- an account over the remainders modulo 101 whose word is its base, with these codes, overwrites and level
abbrev pub holding : List ℕ → ℕ → ℕ → Account Gf101
holding codes overwrites level =
    let w = map remainders.element codes in
    record { base = w; word = w; overwrites = overwrites; changes = 0; level = level }

-- the number, layer and position of a fault
pub record Refused : Type 0 where
  pub number : ℕ
  pub layer : Layer
  pub position : ℕ

abbrev pub seen_as : Option Fault → Option Refused
seen_as None = None
seen_as (Some e) = Some (record { number = number_of e.refusal; layer = e.layer; position = e.position })

-- by what such an account of the two-place graph refuses a call, the radix being 100
abbrev pub refuses : Account Gf101 → Call → Option Refused
refuses a c = seen_as (fault_of remainders two 100 a c)

abbrev pub by : ℕ → Layer → ℕ → Option Refused
by number layer position = Some (record { number = number; layer = layer; position = position })

-- a graph of 512 places with weights 1, and the seven-place lift with one weight of 2
abbrev pub large : GraphModel
large = record { places = 512; rows = 512; degree = 1; row = λ i k. i; weight = λ i k. 1 }

abbrev pub heavy : GraphModel
heavy = lift_model (0 ∷ 0 ∷ 0 ∷ 0 ∷ 0 ∷ 0 ∷ 0 ∷ 1 ∷ 0 ∷ 0 ∷ 0 ∷ 0 ∷ 0 ∷ 1 ∷ 0 ∷ 1 ∷ 0 ∷ 0 ∷ 0 ∷ 0 ∷ 0 ∷ 3 ∷ 0 ∷ 2 ∷ []) 1 1 7 3

-- two places and one row that meets both with weight 1
abbrev pub tied : GraphModel
tied = record { places = 2; rows = 1; degree = 1; row = λ i k. 0; weight = λ i k. 1 }

-- The refusals of the account, each at the edge of what is granted.
pub record Refusals : Type 0 where
  pub lengths : map (refuses (holding (0 ∷ 0 ∷ []) 0 0)) (load (101 ∷ []) ∷ load (0 ∷ 101 ∷ 0 ∷ []) ∷ load (100 ∷ 100 ∷ []) ∷ []) ≡ by 8 Line 0 ∷ by 8 Line 0 ∷ None ∷ []
  pub codes : map (refuses (holding (0 ∷ 0 ∷ []) 0 0)) (load (100 ∷ 101 ∷ []) ∷ load (101 ∷ 102 ∷ []) ∷ []) ≡ by 9 Line 1 ∷ by 9 Line 0 ∷ []
  pub weights : map (λ c. seen_as (fault_of bits heavy 2 (new_account bits heavy) c)) (survey 9 ∷ load [] ∷ overwrite 9 9 ∷ repair 0 ∷ settle ∷ panel [] ∷ [])
      ≡ replicate 6 (by 10 Decoder 0)
  pub sizes : map (refuses (holding (0 ∷ 0 ∷ []) 0 0)) (survey 3 ∷ survey 2 ∷ survey 0 ∷ []) ≡ by 11 Decoder 0 ∷ None ∷ None ∷ []
  pub many_sets : map (λ c. seen_as (fault_of bits large 2 (new_account bits large) c)) (survey 9 ∷ survey 8 ∷ survey 5 ∷ survey 4 ∷ [])
      ≡ by 11 Decoder 0 ∷ by 12 Decoder 0 ∷ by 12 Decoder 0 ∷ None ∷ []
  pub overwrites : map (refuses (holding (0 ∷ 0 ∷ []) 65535 0)) (overwrite 2 101 ∷ overwrite 1 101 ∷ overwrite 1 100 ∷ [])
      ≡ by 13 Decoder 0 ∷ by 14 Decoder 0 ∷ by 15 Decoder 0 ∷ []
  pub last_overwrite : refuses (holding (0 ∷ 0 ∷ []) 65534 0) (overwrite 1 100) ≡ None
  pub open_row : map (λ codes. seen_as (fault_of remainders tied 100 (holding codes 0 0) settle)) ((1 ∷ 0 ∷ []) ∷ (1 ∷ 100 ∷ []) ∷ []) ≡ by 16 Decoder 0 ∷ None ∷ []
  pub lists : map (refuses (holding (0 ∷ 0 ∷ []) 0 0)) (panel [] ∷ panel (replicate 10 5) ∷ panel (replicate 9 0) ∷ []) ≡ by 17 Window 0 ∷ by 17 Window 0 ∷ None ∷ []
  pub listed : map (refuses (holding (1 ∷ 0 ∷ []) 0 0)) (panel (1 ∷ 0 ∷ 2 ∷ 3 ∷ []) ∷ panel (1 ∷ 0 ∷ []) ∷ []) ≡ by 18 Window 2 ∷ by 19 Window 0 ∷ []
  pub recent_overwrite : map (λ level. refuses (holding (0 ∷ 0 ∷ []) 1 level) (panel (0 ∷ []))) (1 ∷ 2 ∷ []) ≡ by 19 Window 0 ∷ None ∷ []
  pub digits : map (λ c. seen_as (fault_of remainders tied 100 (holding (1 ∷ 100 ∷ []) 0 0) c)) (panel (0 ∷ 0 ∷ []) ∷ panel (0 ∷ 1 ∷ 1 ∷ []) ∷ [])
      ≡ None ∷ by 20 Window 1 ∷ []

-- a repair of one change that leaves no row open and the word at its base
abbrev pub once : Outcome → ℕ → Answer
once outcome stretch = repaired (record { outcome = outcome; changes = 1; stretch = stretch; open_rows = 0; distance = 0 })

-- The worked examples.
pub record Examples : Type 0 where
  pub survey_2 : survey_of seven 2 ≡ record { level = 2; sets = 28; failing = [] }
  pub survey_3 : survey_of seven 3 ≡ record { level = 2; sets = 29; failing = 0 ∷ 1 ∷ 2 ∷ [] }
  pub survey_two : survey_of two 2 ≡ record { level = 1; sets = 3; failing = 0 ∷ 1 ∷ [] }
  pub sets_of_4 : number_of_sets 512 4 ≡ 2852247168
  pub codeword : open_in (0 ∷ 1 ∷ 1 ∷ 1 ∷ 0 ∷ 1 ∷ 0 ∷ []) ≡ 0
  pub ranked : ranks_in (0 ∷ 1 ∷ 1 ∷ 0 ∷ 0 ∷ 1 ∷ 0 ∷ []) ≡ 0 ∷ 0 ∷ 0 ∷ 3 ∷ 0 ∷ 0 ∷ 0 ∷ []
  pub first_0 : EndsIfFirst (1 ∷ 0 ∷ 1 ∷ 1 ∷ 0 ∷ 1 ∷ 0 ∷ []) 0 (0 ∷ 1 ∷ 1 ∷ 1 ∷ 0 ∷ 1 ∷ 0 ∷ [])
  pub first_2 : EndsIfFirst (1 ∷ 0 ∷ 1 ∷ 1 ∷ 0 ∷ 1 ∷ 0 ∷ []) 2 (1 ∷ 0 ∷ 0 ∷ 1 ∷ 1 ∷ 1 ∷ 0 ∷ [])
  pub stuck : lowest_answers remainders two 100 (new_account remainders two) (load (1 ∷ 2 ∷ []) ∷ repair 7 ∷ [])
      ≡ loaded 3 ∷ repaired (record { outcome = Stuck; changes = 0; stretch = 0; open_rows = 3; distance = 0 }) ∷ []
  pub spent : lowest_answers bits seven 2 (new_account bits seven) (load (1 ∷ 0 ∷ 1 ∷ 1 ∷ 0 ∷ 1 ∷ 0 ∷ []) ∷ repair 1 ∷ repair 1 ∷ [])
      ≡ loaded 4 ∷ repaired (record { outcome = Spent; changes = 1; stretch = 1; open_rows = 3; distance = 1 })
      ∷ repaired (record { outcome = Closed; changes = 1; stretch = 2; open_rows = 0; distance = 2 }) ∷ []
  pub story : lowest_answers bits seven 2 (new_account bits seven)
      (survey 2 ∷ load (0 ∷ 1 ∷ 1 ∷ 1 ∷ 0 ∷ 1 ∷ 0 ∷ []) ∷ overwrite 3 0 ∷ repair 3 ∷ panel (1 ∷ 2 ∷ 0 ∷ [])
      ∷ overwrite 3 0 ∷ repair 3 ∷ panel (1 ∷ 2 ∷ 0 ∷ []) ∷ settle ∷ overwrite 3 0 ∷ repair 3 ∷ overwrite 3 0
      ∷ load (0 ∷ 1 ∷ 1 ∷ 1 ∷ 0 ∷ 1 ∷ 0 ∷ []) ∷ overwrite 3 0 ∷ repair 3 ∷ [])
      ≡ surveyed (record { level = 2; sets = 28; failing = [] }) ∷ loaded 0 ∷ overwritten 3 ∷ once Sure 1 ∷ shown 6
      ∷ overwritten 3 ∷ once Closed 2 ∷ refused (record { refusal = NotSure; layer = Window; position = 0 }) ∷ settled ∷ overwritten 3 ∷ once Sure 1 ∷ overwritten 3
      ∷ loaded 0 ∷ overwritten 3 ∷ once Sure 1 ∷ []
  pub refusals : Refusals
