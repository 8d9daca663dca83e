-- The first answer that a row of questions gives, as a function and as a relation. Assumes nothing.
use Rattle.std.specs.Prelude.{◌≡◌, ℕ, zero, suc, ◌+◌, ◌<◌, ◌≤◌, Bool, true, false, cond, ◌↔◌, Some, None, Option, MatchOption}

abbrev pub or_else : {A : Type 0} → Option A → Option A → Option A
or_else None y = y
or_else (Some x) y = Some x

-- the first answer of f at k, k + 1, .. over n numbers
abbrev pub first : {A : Type 0} → (ℕ → Option A) → ℕ → ℕ → Option A
first f k zero = None
first f k (suc n) = or_else (f k) (first f (suc k) n)

-- f answers a at some number from k on, among n numbers, and nothing before that
pub record FirstAt {A : Type 0} (f : ℕ → Option A) (k n : ℕ) (a : A) : Type 0 where
  pub at : ℕ
  pub from : k ≤ at
  pub within : at < k + n
  pub here : f at ≡ Some a
  pub before : (i : ℕ) → k ≤ i → i < at → f i ≡ None

-- f answers nothing at the n numbers from k on
abbrev pub NoAnswer : {A : Type 0} → (ℕ → Option A) → ℕ → ℕ → Type 0
NoAnswer f k n = (i : ℕ) → k ≤ i → i < k + n → f i ≡ None

-- the relation that fixes the first answer
abbrev pub FirstAnswers : Type 0 → Type 0
FirstAnswers A = (f : ℕ → Option A) (k n : ℕ) (r : Option A) → (r ≡ first f k n) ↔ MatchOption r (NoAnswer f k n) (FirstAt f k n)

-- the number itself, if it passes the test
abbrev pub passing : (ℕ → Bool) → ℕ → Option ℕ
passing test k = cond (test k) (Some k) None

-- the first of the n numbers from k on that passes the test
unfoldable pub first_where : (ℕ → Bool) → ℕ → ℕ → Option ℕ
first_where test k n = first (passing test) k n

-- j is one of the n numbers from k on, passes the test, and none before it does
pub record FirstPass (test : ℕ → Bool) (k n j : ℕ) : Type 0 where
  pub from : k ≤ j
  pub within : j < k + n
  pub here : test j ≡ true
  pub before : (i : ℕ) → k ≤ i → i < j → test i ≡ false

-- none of the n numbers from k on passes the test
abbrev pub NonePass : (ℕ → Bool) → ℕ → ℕ → Type 0
NonePass test k n = (i : ℕ) → k ≤ i → i < k + n → test i ≡ false

-- the relation that fixes the first number that passes
abbrev pub FirstPassing : Type 0
FirstPassing = (test : ℕ → Bool) (k n : ℕ) (r : Option ℕ) → (r ≡ first_where test k n) ↔ MatchOption r (NonePass test k n) (FirstPass test k n)
