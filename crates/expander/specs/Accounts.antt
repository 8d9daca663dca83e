-- The account of a list of calls: a plain machine over a field and a graph, kept apart from any decoder. Assumes nothing.
use Rattle.std.specs.Prelude.{◌≡◌, ℕ, ◌+◌, ◌-◌, ◌*◌, ◌^◌, ◌<◌, Bool, cond, not, ◌&&◌, ◌||◌, ltb, leb, List, [], ◌∷◌, map, length, replicate, is_some, Some, None, Option, ◌==◌, nat_le, nat_lt, slice_index, slice_set}
use Rattle.std.specs.Option.{option_map}
use Rattle.refusals.specs.declared.faults.Fault.{Fault}
use Rattle.refusals.specs.declared.faults.Refusal.{Refusal}
use Rattle.refusals.specs.declared.faults.Refusal.TheVariants.{FeedLength, CodeOutOfField, WeightOutOfField, SurveySize, SurveyTooLong, OverwritePlace, OverwriteCode, OverwritesExhausted, RowOpen, ListLength, ListPlace, NotSure, NotDigit}
use Rattle.refusals.specs.declared.faults.Layer.{Layer}
use Rattle.refusals.specs.declared.faults.Layer.TheVariants.{Line, Decoder, Window}
use Rattle.firsts.specs.First.{or_else, first_where}
use Rattle.fields.specs.Models.{FieldModel}
use Rattle.fields.specs.Checked.{passes}
use Rattle.graphs.specs.Models.{GraphModel, when}
use Rattle.expander.specs.declared.outcomes.Outcome.{Outcome}
use Rattle.expander.specs.declared.outcomes.Outcome.TheVariants.{Sure, Closed, Stuck, Spent}
use Rattle.expander.specs.declared.outcomes.Repair.{Repair}
use Rattle.expander.specs.Words.{symbols, distance, open_row_count}
use Rattle.expander.specs.Votes.{rank, AllZero, changed}
use Rattle.expander.specs.Sets.{number_of_sets}
use Rattle.expander.specs.Expansion.{Survey, survey_of}

-- The calls with their arguments: a survey of a size, a load of a feed's codes, an overwrite of a place by a code, a repair with
-- a budget, a settle, and a panel of a list of places.
pub data Call : Type 0 where
  survey : ℕ → Call
  load : List ℕ → Call
  overwrite : ℕ → ℕ → Call
  repair : ℕ → Call
  settle : Call
  panel : List ℕ → Call

-- The answers: a load and an overwrite tell the number of open rows, a panel shows a total, and any call may be refused.
pub data Answer : Type 0 where
  surveyed : Survey → Answer
  loaded : ℕ → Answer
  overwritten : ℕ → Answer
  repaired : Repair → Answer
  settled : Answer
  shown : ℕ → Answer
  refused : Fault → Answer

-- The base word, the word, the accepted overwrites and the changes of the stretch, and the level in force.
pub record Account (F : Type 0) : Type 0 where
  pub base : List F
  pub word : List F
  pub overwrites : ℕ
  pub changes : ℕ
  pub level : ℕ

-- What a call leaves and answers.
pub record Next (F : Type 0) : Type 0 where
  pub account : Account F
  pub answer : Answer

-- a fault of position 0, if there is a reason for it
abbrev pub fault_if : Bool → Refusal → Layer → Option Fault
fault_if reason refusal layer = when reason (record { refusal = refusal; layer = layer; position = 0 })

-- a fault at the first of n positions where there is a reason for it
abbrev pub fault_at : (ℕ → Bool) → ℕ → Refusal → Layer → Option Fault
fault_at reason n refusal layer = option_map (λ k. record { refusal = refusal; layer = layer; position = k }) (first_where reason 0 n)

-- the first fault of a list, if there is one
abbrev pub first_fault : List (Option Fault) → Option Fault
first_fault [] = None
first_fault (x ∷ faults) = or_else x (first_fault faults)

-- what may refuse a survey of size s over n places
abbrev pub survey_faults : ℕ → ℕ → List (Option Fault)
survey_faults n s = fault_if (nat_lt 8 s || nat_lt n s) SurveySize Decoder ∷ fault_if (nat_lt 4294967295 (number_of_sets n s)) SurveyTooLong Decoder ∷ []

-- the number that the symbols at the listed places spell in the radix, the first place highest
abbrev pub spelled : {F : Type 0} → FieldModel F → ℕ → (ℕ → F) → List ℕ → ℕ
spelled f radix w [] = 0
spelled f radix w (p ∷ places) = f.code (w p) * radix ^ length places + spelled f radix w places

module _ {F : Type 0} (f : FieldModel F) (g : GraphModel) where
  abbrev pub zeros : List F
  zeros = replicate g.places (f.element 0)

  abbrev pub new_account : Account F
  new_account = record { base = zeros; word = zeros; overwrites = 0; changes = 0; level = 0 }

  -- the number of open rows
  abbrev pub open_of : Account F → ℕ
  open_of a = open_row_count f g (symbols f a.word)

  -- the number of places where word and base differ
  abbrev pub distance_of : Account F → ℕ
  distance_of a = distance f g.places (symbols f a.word) (symbols f a.base)

  -- no row is open, and twice the distance and the overwrites are at most the level
  abbrev pub sure : Account F → Bool
  sure a = open_of a == 0 && nat_le (2 * (distance_of a + a.overwrites)) a.level

  -- every weight is below the size of the field
  abbrev pub weights_fit : Bool
  weights_fit = passes (λ i. passes (λ k. ltb (g.weight i k) f.size) g.degree) g.places

  -- the first place with a rank above 0
  abbrev pub lowest_ranked : List F → Option ℕ
  lowest_ranked w = first_where (λ i. ltb 0 (rank f g (symbols f w) i)) 0 g.places

  -- The places picked by a repair: while the budget lasts and some rank is above 0, a place with such a rank is picked and
  -- changed.
  abbrev pub Picked : ℕ → List F → List ℕ → Type 0
  Picked budget w [] = 0 < budget → AllZero f g (symbols f w)
  Picked budget w (p ∷ picks) = (0 < budget) × (p < g.places) × (0 < rank f g (symbols f w) p) × Picked (budget - 1) (changed f g w p) picks

  -- the word after the changes of the picked places, one after another
  abbrev pub after_picks : List F → List ℕ → List F
  after_picks w [] = w
  after_picks w (p ∷ picks) = after_picks (changed f g w p) picks

  -- what a repair says of the account that it leaves
  abbrev pub outcome_of : Account F → Outcome
  outcome_of a = cond (sure a) Sure (cond (open_of a == 0) Closed (cond (is_some (lowest_ranked a.word)) Spent Stuck))

  -- what a repair that made these changes answers
  abbrev pub report : ℕ → Account F → Repair
  report made a = record { outcome = outcome_of a; changes = made; stretch = a.changes; open_rows = open_of a; distance = distance_of a }

  module _ (radix : ℕ) where
    -- what may refuse a call beside the weights, in the order of the numbers
    abbrev pub call_faults : Account F → Call → List (Option Fault)
    call_faults a (survey s) = survey_faults g.places s
    call_faults a (load codes) =
        fault_if (not (length codes == g.places)) FeedLength Line
        ∷ fault_at (λ i. leb f.size (slice_index codes i)) (length codes) CodeOutOfField Line
        ∷ []
    call_faults a (overwrite p code) =
        fault_if (nat_le g.places p) OverwritePlace Decoder
        ∷ fault_if (nat_le f.size code) OverwriteCode Decoder
        ∷ fault_if (nat_le 65535 a.overwrites) OverwritesExhausted Decoder
        ∷ []
    call_faults a (repair budget) = []
    call_faults a settle = fault_if (nat_lt 0 (open_of a)) RowOpen Decoder ∷ []
    call_faults a (panel places) =
        fault_if (length places == 0 || nat_lt (10 ^ 18) (radix ^ length places)) ListLength Window
        ∷ fault_at (λ k. leb g.places (slice_index places k)) (length places) ListPlace Window
        ∷ fault_if (not (sure a)) NotSure Window
        ∷ fault_at (λ k. leb radix (f.code (symbols f a.word (slice_index places k)))) (length places) NotDigit Window
        ∷ []

    -- what refuses a call, if anything does: the weights first of all
    abbrev pub fault_of : Account F → Call → Option Fault
    fault_of a c = first_fault (fault_if (not weights_fit) WeightOutOfField Decoder ∷ call_faults a c)

    -- what a call does that is not refused, a repair with these picks
    abbrev pub granted : Account F → Call → List ℕ → Next F
    granted a (survey s) picks = record {
      account = record { base = a.base; word = a.word; overwrites = a.overwrites; changes = a.changes; level = (survey_of g s).level };
      answer = surveyed (survey_of g s);
    }
    granted a (load codes) picks =
        let w = map f.element codes in
        record { account = record { base = w; word = w; overwrites = 0; changes = 0; level = a.level }; answer = loaded (open_row_count f g (symbols f w)) }
    granted a (overwrite p code) picks =
        let w = slice_set a.word p (f.element code) in
        record {
          account = record { base = a.base; word = w; overwrites = a.overwrites + 1; changes = a.changes; level = a.level };
          answer = overwritten (open_row_count f g (symbols f w));
        }
    granted a (repair budget) picks =
        let b : Account F = record { base = a.base; word = after_picks a.word picks; overwrites = a.overwrites; changes = a.changes + length picks; level = a.level } in
        record { account = b; answer = repaired (report (length picks) b) }
    granted a settle picks = record { account = record { base = a.word; word = a.word; overwrites = 0; changes = 0; level = a.level }; answer = settled }
    granted a (panel places) picks = record { account = a; answer = shown (spelled f radix (symbols f a.word) places) }

    -- a refused call leaves the account as it is
    abbrev pub taken : Option Fault → Account F → Call → List ℕ → Next F
    taken (Some e) a c picks = record { account = a; answer = refused e }
    taken None a c picks = granted a c picks

    -- what a call leaves and answers
    abbrev pub next : Account F → Call → List ℕ → Next F
    next a c picks = taken (fault_of a c) a c picks

    -- a repair that is not refused makes picks in the relation R, and no other call makes any
    abbrev pub ByRepair : (ℕ → List F → List ℕ → Type 0) → Option Fault → Account F → Call → List ℕ → Type 0
    ByRepair R (Some e) a c picks = picks ≡ []
    ByRepair R None a (survey s) picks = picks ≡ []
    ByRepair R None a (load codes) picks = picks ≡ []
    ByRepair R None a (overwrite p code) picks = picks ≡ []
    ByRepair R None a (repair budget) picks = R budget a.word picks
    ByRepair R None a settle picks = picks ≡ []
    ByRepair R None a (panel places) picks = picks ≡ []

    -- the account a takes the call c with picks in the relation R, answers r and is then b
    abbrev pub TakesBy : (ℕ → List F → List ℕ → Type 0) → Account F → Call → Answer → Account F → Type 0
    TakesBy R a c r b = (picks : List ℕ) × ByRepair R (fault_of a c) a c picks × (next a c picks ≡ record { account = b; answer = r })

    -- the account a takes the call c with legal picks, answers r and is then b
    abbrev pub Takes : Account F → Call → Answer → Account F → Type 0
    Takes a c r b = TakesBy Picked a c r b

-- the calls are taken one after another, each in the relation P of account, call, answer and next account
abbrev pub Steps : {F : Type 0} → (Account F → Call → Answer → Account F → Type 0) → Account F → List Call → List Answer → Account F → Type 0
Steps P a [] [] b = a ≡ b
Steps P a [] (r ∷ answers) b = ⊥
Steps P a (c ∷ calls) [] b = ⊥
Steps {F} P a (c ∷ calls) (r ∷ answers) b = (m : Account F) × P a c r m × Steps P m calls answers b
