-- A rule at every number below a bound, by a test that antt computes at each of them. Assumes nothing.
use Rattle.std.specs.Prelude.{◌≡◌, ℕ, zero, suc, ◌<◌, Bool, true, ◌&&◌, ◌==◌, nat_lt}
use Rattle.std.proofs.Common.{sym, subst, ⊎_elim, arith}
use Rattle.std.proofs.lemmas.Bool.{and_parts, cases_eq, eqb-true, ltb-true}

-- the test passes at each number below the bound
unfoldable pub passes : (ℕ → Bool) → ℕ → Bool
passes p zero = true
passes p (suc n) = p n && passes p n

pub passed : (p : ℕ → Bool) (n : ℕ) → passes p n ≡ true → (k : ℕ) → k < n → p k ≡ true
unfolding passes
passed p zero t k h = absurd (omega arith)
passed p (suc n) t k h =
    let both = and_parts (p n) (passes p n) t in
    ⊎_elim (λ e. subst (λ x. p x ≡ true) (sym e) both.0) (λ apart. passed p n both.1 k (omega arith)) (cases_eq k n)

pub equal_below : (n : ℕ) (f g : ℕ → ℕ) → passes (λ a. f a == g a) n ≡ true → (a : ℕ) → a < n → f a ≡ g a
equal_below n f g t a h = eqb-true (f a) (g a) (passed (λ x. f x == g x) n t a h)

pub less_below : (n : ℕ) (f : ℕ → ℕ) (m : ℕ) → passes (λ a. nat_lt (f a) m) n ≡ true → (a : ℕ) → a < n → f a < m
less_below n f m t a h = ltb-true (f a) m (passed (λ x. nat_lt (f x) m) n t a h)

-- the same of the numbers from one on
pub equal_from_one : (n : ℕ) (f g : ℕ → ℕ) → passes (λ a. f (suc a) == g (suc a)) n ≡ true → (a : ℕ) → 0 < a → a < suc n → f a ≡ g a
equal_from_one n f g t zero some h = absurd (omega arith)
equal_from_one n f g t (suc a) some h = equal_below n (λ x. f (suc x)) (λ x. g (suc x)) t a (omega arith)

pub less_from_one : (n : ℕ) (f : ℕ → ℕ) (m : ℕ) → passes (λ a. nat_lt (f (suc a)) m) n ≡ true → (a : ℕ) → 0 < a → a < suc n → f a < m
less_from_one n f m t zero some h = absurd (omega arith)
less_from_one n f m t (suc a) some h = less_below n (λ x. f (suc x)) m t a (omega arith)
