-- What is promised of every list of calls, above the account. Assumes nothing.
use Rattle.std.specs.Prelude.{◌≡◌, ℕ, ◌+◌, ◌*◌, ◌≤◌, ◌↔◌, List, length, Some}
use Rattle.refusals.specs.declared.faults.Fault.{Fault}
use Rattle.refusals.specs.declared.faults.Refusal.TheVariants.{WeightOutOfField}
use Rattle.refusals.specs.declared.faults.Layer.TheVariants.{Decoder}
use Rattle.fields.specs.Models.{FieldModel}
use Rattle.graphs.specs.Models.{GraphModel, Valid}
use Rattle.expander.specs.declared.outcomes.Outcome.{Outcome}
use Rattle.expander.specs.declared.outcomes.Outcome.TheVariants.{Sure, Spent}
use Rattle.expander.specs.declared.outcomes.Repair.{Repair}
use Rattle.expander.specs.Words.{symbols, distance, Codeword, WeightsFit}
use Rattle.expander.specs.Expansion.{AllExpand}
use Rattle.expander.specs.Accounts.{Call, survey, load, overwrite, repair, settle, panel, Answer, repaired, shown, refused, Account, spelled, new_account, open_of, fault_of, Takes, Steps}

-- the answer is that of a repair with this outcome
abbrev pub Says : Answer → Outcome → Type 0
Says r o = (report : Repair) × (r ≡ repaired report) × (report.outcome ≡ o)

module _ {F : Type 0} (f : FieldModel F) (g : GraphModel) where
  -- the number of places where the base and x differ
  abbrev pub errors : Account F → List F → ℕ
  errors a x = distance f g.places (symbols f a.base) (symbols f x)

  -- x is near when twice the errors and the overwrites are at most the level
  abbrev pub Near : Account F → List F → Type 0
  Near a x = 2 * (errors a x + a.overwrites) ≤ a.level

  -- some codeword is near
  abbrev pub SomeNear : Account F → Type 0
  SomeNear a = (x : List F) × Codeword f g x × Near a x

  -- The law of an account: for every codeword x, the changes and the open rows are at most c × (errors + overwrites), and for every
  -- t up to which all sets expand, if twice the errors and the overwrites are at most t then the word differs from x in at most t places.
  pub record Lawful (a : Account F) : Type 0 where
    pub base_long : length a.base ≡ g.places
    pub word_long : length a.word ≡ g.places
    pub expanding : AllExpand g a.level
    pub bounded : (x : List F) → Codeword f g x → a.changes + open_of f g a ≤ g.degree * (errors a x + a.overwrites)
    pub within : (x : List F) (t : ℕ) → Codeword f g x → AllExpand g t → 2 * (errors a x + a.overwrites) ≤ t
        → distance f g.places (symbols f a.word) (symbols f x) ≤ t

  -- A repair of the account a that answers r and leaves b. If a codeword is near and the budget is at least c × (errors + overwrites), the
  -- repair finds it and says sure. A repair that does not say spent says sure exactly when some codeword is near.
  pub record RepairPromise (a : Account F) (budget : ℕ) (r : Answer) (b : Account F) : Type 0 where
    pub finds : (x : List F) → Codeword f g x → Near a x → g.degree * (errors a x + a.overwrites) ≤ budget → (b.word ≡ x) × Says r Sure
    pub exactly : (Says r Spent → ⊥) → Says r Sure ↔ SomeNear a

  -- The total is spelled by a near codeword, and no other codeword is near.
  pub record SpelledByOnlyNear (radix : ℕ) (a : Account F) (places : List ℕ) (t : ℕ) : Type 0 where
    pub word : List F
    pub codeword : Codeword f g word
    pub near : Near a word
    pub only : (y : List F) → Codeword f g y → Near a y → y ≡ word
    pub spells : spelled f radix (symbols f word) places ≡ t

  -- what is promised at a call beside the bound
  abbrev pub AtCall : ℕ → Account F → Call → Answer → Account F → Type 0
  AtCall radix a (survey s) r b = Unit {0}
  AtCall radix a (load codes) r b = Unit {0}
  AtCall radix a (overwrite p code) r b = Unit {0}
  AtCall radix a (repair budget) r b = RepairPromise a budget r b
  AtCall radix a settle r b = Unit {0}
  AtCall radix a (panel places) r b = (t : ℕ) → r ≡ shown t → SpelledByOnlyNear radix a places t

  -- The promise at a call of the account a that answers r and leaves b. After it the changes and the open rows are at most
  -- c × (errors + overwrites), for every codeword.
  pub record Promise (radix : ℕ) (a : Account F) (c : Call) (r : Answer) (b : Account F) : Type 0 where
    pub bound : (x : List F) → Codeword f g x → b.changes + open_of f g b ≤ g.degree * (errors b x + b.overwrites)
    pub at_call : AtCall radix a c r b

  -- a new account takes the calls with legal picks, gives the answers and is then b
  abbrev pub Run : ℕ → List Call → List Answer → Account F → Type 0
  Run radix calls answers b = Steps (Takes f g radix) (new_account f g) calls answers b

  -- a run in which the promise is kept at each call
  abbrev pub KeptRun : ℕ → List Call → List Answer → Account F → Type 0
  KeptRun radix calls answers b = Steps (λ a c r m. Takes f g radix a c r m × Promise radix a c r m) (new_account f g) calls answers b

-- a new account is lawful, and every call keeps the law
abbrev pub CallsKeepTheLaw : Type 0 → Type 0
CallsKeepTheLaw F =
    (f : FieldModel F) (g : GraphModel) → Valid g → WeightsFit f g
    → Lawful f g (new_account f g)
    × ((radix : ℕ) (a : Account F) (c : Call) (r : Answer) (b : Account F) → Lawful f g a → Takes f g radix a c r b → Lawful f g b)

-- a refused call leaves the account as it is; where some weight is no code of the field, every call is refused
abbrev pub RefusalsLeaveTheAccount : Type 0 → Type 0
RefusalsLeaveTheAccount F =
    (f : FieldModel F) (g : GraphModel) (radix : ℕ) (a : Account F) (c : Call) (r : Answer) (b : Account F) → Takes f g radix a c r b
    → ((e : Fault) → (r ≡ refused e) ↔ (fault_of f g radix a c ≡ Some e))
    × ((e : Fault) → r ≡ refused e → b ≡ a)
    × ((WeightsFit f g → ⊥) → r ≡ refused (record { refusal = WeightOutOfField; layer = Decoder; position = 0 }))

-- where all sets up to the level expand, at most one codeword is near
abbrev pub OneCodewordIsNear : Type 0 → Type 0
OneCodewordIsNear F =
    (f : FieldModel F) (g : GraphModel) → Valid g → WeightsFit f g → (a : Account F) → AllExpand g a.level
    → (x y : List F) → Codeword f g x → Codeword f g y → Near f g a x → Near f g a y → x ≡ y

-- every list of calls, with any arguments and any legal picks, keeps the promise at each of its calls
abbrev pub RunsKeepThePromise : Type 0 → Type 0
RunsKeepThePromise F =
    (f : FieldModel F) (g : GraphModel) → Valid g → WeightsFit f g → (radix : ℕ) (calls : List Call) (answers : List Answer) (b : Account F)
    → Run f g radix calls answers b → KeptRun f g radix calls answers b
