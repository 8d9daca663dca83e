-- A repair as a relation, what it says, and the run of a queue that picks the lowest place. Assumes nothing.
use Rattle.std.specs.Prelude.{◌≡◌, ℕ, zero, suc, ◌+◌, ◌-◌, ◌*◌, ◌<◌, ◌≤◌, ◌↔◌, List, [], ◌∷◌, length, Some, None, Option, slice_set}
use Rattle.refusals.specs.declared.faults.Fault.{Fault}
use Rattle.fields.specs.Models.{FieldModel}
use Rattle.graphs.specs.Models.{GraphModel, Valid}
use Rattle.expander.specs.declared.outcomes.Outcome.{Outcome}
use Rattle.expander.specs.declared.outcomes.Outcome.TheVariants.{Sure, Closed, Stuck, Spent}
use Rattle.expander.specs.Words.{symbols}
use Rattle.expander.specs.Votes.{rank, Ranked, Unranked, AllZero, changed}
use Rattle.expander.specs.Accounts.{Call, survey, load, overwrite, repair, settle, panel, Answer, Account, Next, open_of, distance_of, lowest_ranked, Picked, after_picks, outcome_of, fault_of, next, TakesBy, Takes, Steps}

module _ {F : Type 0} (f : FieldModel F) (g : GraphModel) where
  -- A repair of the word w with these picks ends at x. A picked place has a majority for some element, which is added to its symbol;
  -- the repair ends when the budget is used up or no place has a majority.
  abbrev pub RepairEnds : ℕ → List F → List ℕ → List F → Type 0
  RepairEnds budget w [] x = (w ≡ x) × (0 < budget → (i : ℕ) → i < g.places → Unranked f g (symbols f w) i)
  RepairEnds budget w (p ∷ picks) x =
      (0 < budget) × (p < g.places)
      × ((v : ℕ) × (d : F) × Ranked f g (symbols f w) p v d × RepairEnds (budget - 1) (slice_set w p (f.plus (symbols f w p) d)) picks x)

  -- what each outcome says of a repair that made so many changes within the budget and left the account a
  abbrev pub OutcomeSays : ℕ → ℕ → Account F → Outcome → Type 0
  OutcomeSays budget made a Sure = (open_of f g a ≡ 0) × (2 * (distance_of f g a + a.overwrites) ≤ a.level)
  OutcomeSays budget made a Closed = (open_of f g a ≡ 0) × (a.level < 2 * (distance_of f g a + a.overwrites))
  OutcomeSays budget made a Stuck = (0 < open_of f g a) × AllZero f g (symbols f a.word)
  OutcomeSays budget made a Spent = ((i : ℕ) × (i < g.places) × (0 < rank f g (symbols f a.word) i)) × (made ≡ budget)

  -- the picks of a queue that picks the lowest place with a rank above 0
  abbrev pub LowestPicked : ℕ → List F → List ℕ → Type 0
  LowestPicked budget w [] = 0 < budget → AllZero f g (symbols f w)
  LowestPicked budget w (p ∷ picks) =
      (0 < budget) × (p < g.places) × (0 < rank f g (symbols f w) p) × ((i : ℕ) → i < p → rank f g (symbols f w) i ≡ 0)
      × LowestPicked (budget - 1) (changed f g w p) picks

  -- the same picks as a function: while the budget lasts, the lowest place
  unfoldable pub lowest_picks : ℕ → List F → List ℕ
  lowest_picks zero w = []
  lowest_picks (suc budget) w = elim (lowest_ranked f g w) [ None ↦ [] | Some p ↦ p ∷ lowest_picks budget (changed f g w p) ]

  -- the lowest picks of a call on an account
  abbrev pub call_picks : Option Fault → Account F → Call → List ℕ
  call_picks (Some e) a c = []
  call_picks None a (survey s) = []
  call_picks None a (load codes) = []
  call_picks None a (overwrite p code) = []
  call_picks None a (repair budget) = lowest_picks budget a.word
  call_picks None a settle = []
  call_picks None a (panel places) = []

  module _ (radix : ℕ) where
    -- what a call leaves and answers, a repair with the lowest picks
    abbrev pub lowest_next : Account F → Call → Next F
    lowest_next a c = next f g radix a c (call_picks (fault_of f g radix a c) a c)

    -- the answers to a list of calls, with the lowest picks
    abbrev pub lowest_answers : Account F → List Call → List Answer
    lowest_answers a [] = []
    lowest_answers a (c ∷ calls) = (lowest_next a c).answer ∷ lowest_answers (lowest_next a c).account calls

    -- the account after a list of calls, with the lowest picks
    abbrev pub lowest_end : Account F → List Call → Account F
    lowest_end a [] = a
    lowest_end a (c ∷ calls) = lowest_end (lowest_next a c).account calls

-- A repair with given picks has one result, and it is the one of the account.
pub record OneResult {F : Type 0} (f : FieldModel F) (g : GraphModel) (budget : ℕ) (w : List F) (picks : List ℕ) : Type 0 where
  pub same : (x : List F) → RepairEnds f g budget w picks x ↔ (Picked f g budget w picks × (after_picks f g w picks ≡ x))
  pub one : (x y : List F) → RepairEnds f g budget w picks x → RepairEnds f g budget w picks y → x ≡ y
  pub says : (a : Account F) → a.word ≡ after_picks f g w picks → Picked f g budget w picks → OutcomeSays f g budget (length picks) a (outcome_of f g a)
  pub only : (a : Account F) → a.word ≡ after_picks f g w picks → Picked f g budget w picks
      → (o : Outcome) → OutcomeSays f g budget (length picks) a o → o ≡ outcome_of f g a

abbrev pub RepairsHaveOneResult : Type 0 → Type 0
RepairsHaveOneResult F = (f : FieldModel F) (g : GraphModel) → Valid g → (budget : ℕ) (w : List F) (picks : List ℕ) → OneResult f g budget w picks

-- The run of a list of calls with the lowest picks is a function of the calls, and it is a legal run.
pub record LowestRun {F : Type 0} (f : FieldModel F) (g : GraphModel) (radix : ℕ) (a : Account F) (calls : List Call) : Type 0 where
  pub fixed : (answers : List Answer) (b : Account F)
      → Steps (TakesBy f g radix (LowestPicked f g)) a calls answers b ↔ ((lowest_answers f g radix a calls ≡ answers) × (lowest_end f g radix a calls ≡ b))
  pub legal : Steps (Takes f g radix) a calls (lowest_answers f g radix a calls) (lowest_end f g radix a calls)

abbrev pub LowestRunsAreFunctions : Type 0 → Type 0
LowestRunsAreFunctions F = (f : FieldModel F) (g : GraphModel) (radix : ℕ) (a : Account F) (calls : List Call) → LowestRun f g radix a calls
