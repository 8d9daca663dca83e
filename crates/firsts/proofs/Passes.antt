-- What the first number that passes a test tells. Assumes nothing.
use Rattle.std.proofs.Common.{◌≡◌, ℕ, ◌+◌, ◌-◌, ◌<◌, ◌≤◌, Bool, true, false, cond, Some, None, Option, refl, subst, MatchOption}
use Rattle.std.proofs.lemmas.Option.{cond_some}
use Rattle.firsts.specs.First.{or_else, passing, first_where, FirstAt, FirstPass, NonePass, FirstPassing}
use Rattle.firsts.proofs.Firsts.{cases_map, first_tells, first_only, first_append, first_skip, first_here, first_end}

-- what has no answer fails
pub cond_none : {A : Type 0} (b : Bool) (x : A) → cond b (Some x) None ≡ None → b ≡ false
cond_none true x h = cc
cond_none false x h = refl

module _ (test : ℕ → Bool) where
  module _ (k n : ℕ) where
    from_answer : (j : ℕ) → FirstAt (passing test) k n j → FirstPass test k n j
    from_answer j p =
        let pass = cond_some (test p.at) p.at j p.here in
        subst (FirstPass test k n) pass.1 (record {
          from = p.from;
          within = p.within;
          here = pass.0;
          before = λ i low high. cond_none (test i) i (p.before i low high);
        })

    to_answer : (j : ℕ) → FirstPass test k n j → FirstAt (passing test) k n j
    to_answer j p = record {
      at = j;
      from = p.from;
      within = p.within;
      here = rw p.here;
      before = λ i low high. rw (p.before i low high);
    }

    pub where_tells : MatchOption (first_where test k n) (NonePass test k n) (FirstPass test k n)
    unfolding first_where
    where_tells = cases_map (first_where test k n) (λ none i low high. cond_none (test i) i (none i low high)) from_answer (first_tells (passing test) k n)

    pub where_only : (r : Option ℕ) → MatchOption r (NonePass test k n) (FirstPass test k n) → r ≡ first_where test k n
    unfolding first_where
    where_only r p = first_only (passing test) k n r (cases_map r (λ none i low high. rw (none i low high)) to_answer p)

    pub where_within : (j : ℕ) → Some j ≡ first_where test k n → j < k + n
    where_within j e = (rw (← e) at where_tells).within

  pub where_append : (k m n : ℕ) → first_where test k (m + n) ≡ or_else (first_where test k m) (first_where test (k + m) n)
  unfolding first_where
  where_append k m n = first_append (passing test) k m n

  module _ (k n : ℕ) where
    pub where_skip : k < n → test k ≡ false → first_where test k (n - k) ≡ first_where test (k + 1) (n - (k + 1))
    unfolding first_where
    where_skip h e = first_skip (passing test) k n h (rw e refl)

    pub where_here : k < n → test k ≡ true → first_where test k (n - k) ≡ Some k
    unfolding first_where
    where_here h e = first_here (passing test) k n k h (rw e refl)

    pub where_end : n ≤ k → first_where test k (n - k) ≡ None
    unfolding first_where
    where_end h = first_end (passing test) k n h

pub first_passing : FirstPassing
first_passing test k n r = (λ e. rw e (where_tells test k n), where_only test k n r)
