-- What a survey has seen after the sets of each size. Assumes nothing.
use Rattle.std.proofs.Common.{◌≡◌, ℕ, zero, suc, ◌+◌, ◌-◌, ◌<◌, ◌≤◌, Bool, false, List, [], ◌∷◌, ◌++◌, map, length, None, Ok, Err, Result, sym, subst, refl, ap, ◌∙◌, ap₂, ⊎_elim, add-one, arith}
use Rattle.std.specs.List.{All}
use Rattle.std.specs.Result.{is_err, result_err}
use Rattle.std.proofs.lemmas.Bool.{cases_Bool, cases_lt}
use Rattle.std.proofs.lemmas.Bool.Decides.{nat_tests}
use Rattle.std.proofs.lemmas.List.Elements.{All-head, All-tail}
use Rattle.bitsets.specs.declared.sets.BitSet.{BitSet}
use Rattle.bitsets.specs.Sets.{has}
use Rattle.refusals.specs.declared.faults.Fault.{Fault}
use Rattle.graphs.specs.Models.{GraphModel}
use Rattle.expander.specs.Accounts.{first_fault, survey_faults}
use Rattle.expander.specs.Sets.{sets_from, sets_up_to, choose, number_of_sets}
use Rattle.expander.specs.Expansion.{meetings, Seen, seen, expands, level_of, Survey, survey_of}
use Rattle.expander.proofs.SetLists.{from_sound, up_to_sound}
use Rattle.expander.proofs.Surveys.{seen_next, seen_fail, level_below}
use Rattle.surveys.specs.Answers.{extended, Looked}
use Rattle.surveys.proofs.Searched.{after, seen_stops, seen_goes_on}

-- no set of a survey that is granted is past the bound
pub granted_few : (n s : ℕ) → first_fault (survey_faults n s) ≡ None → number_of_sets n s ≤ 4294967295
granted_few n s h = grind (arith, nat_tests)

-- no place meets a row
pub looked_none : (g : GraphModel) (joined : BitSet) → ((k : ℕ) → has joined k ≡ false) → Looked g [] joined
unfolding meetings
looked_none g joined none j = none j

-- there are more sets the more places they may have
pub more_sets : (n k s : ℕ) → k ≤ s → number_of_sets n k ≤ number_of_sets n s
unfolding number_of_sets
more_sets n k zero l = omega (arith, ap (number_of_sets n) {x = k} {y = 0} (omega arith))
more_sets n k (suc s) l =
    ⊎_elim
    (λ (fewer : k < suc s). omega (arith, more_sets n k s (omega arith)))
    (λ (same : suc s ≤ k). omega (arith, ap (number_of_sets n) {x = k} {y = suc s} (omega arith)))
    (cases_lt k (suc s))

-- the sets that extend none
extends_none : (Ws : List (List ℕ)) → map (λ W. [] ++ W) Ws ≡ Ws
extends_none [] = refl
extends_none (W ∷ Ws) = ap (λ xs. W ∷ xs) (extends_none Ws)

pub sets_of : (n k : ℕ) → extended [] 0 (n - 0) k ≡ sets_from 0 n k
sets_of n k = extends_none (sets_from 0 (n - 0) k) ∙ ap (λ rest. sets_from 0 rest k) (omega arith)

module _ (test : List ℕ → Bool) where
  -- what holds of each set of a list holds of the one that fails
  failing_is : (P : List ℕ → Type 0) (Vs : List (List ℕ)) → All P Vs → 1 ≤ length (seen test Vs).failing → P (seen test Vs).failing
  unfolding seen
  failing_is P [] all h = absurd (omega arith)
  failing_is P (V ∷ Vs) all h =
      ⊎_elim
      (λ pass.
      let here = ap (λ (r : Seen). r.failing) (seen_next test V Vs pass) in
      subst P (sym here) (failing_is P Vs (All-tail P V Vs all) (omega (arith, ap length here))))
      (λ fail. subst P (sym (ap (λ (r : Seen). r.failing) (seen_fail test V Vs fail))) (All-head P V Vs all))
      (cases_Bool (test V))

  module _ (n k sets : ℕ) (s : Seen) (before : seen test (sets_up_to n k) ≡ record { sets = sets; failing = [] }) (now : s ≡ seen test (sets_from 0 n (suc k))) where
    -- the sets of the next size are looked at
    pub next_level : seen test (sets_up_to n (suc k)) ≡ after sets s
    unfolding sets_up_to
    next_level =
        seen_goes_on test (sets_up_to n k) (sets_from 0 n (suc k)) (λ i d l. (up_to_sound n k i d l).some) (omega (arith, ap (λ (r : Seen). length r.failing) before))
        ∙ ap₂ (λ m (r : Seen). after m r) (ap (λ (r : Seen). r.sets) before) (sym now)

    module _ (found : 1 ≤ length s.failing) where
      -- a set that fails has as many places as the sets of that size
      failing_size : length s.failing ≡ suc k
      failing_size =
          let size : All (λ V. length V ≡ suc k) (sets_from 0 n (suc k)) = λ i d l. (from_sound 0 n n (suc k) (omega arith) i d l).size in
          ap (λ (r : Seen). length r.failing) now ∙ failing_is (λ V. length V ≡ suc k) (sets_from 0 n (suc k)) size (omega (arith, ap (λ (r : Seen). length r.failing) now))

      -- no larger sets are looked at
      pub last_level : (m : ℕ) → suc k ≤ m → seen test (sets_up_to n m) ≡ after sets s
      unfolding sets_up_to
      last_level zero l = absurd (omega arith)
      last_level (suc m) l =
          ⊎_elim
          (λ (more : k < m).
          let sooner = last_level m more in
          seen_stops test (sets_up_to n m) (sets_from 0 n (suc m)) (omega (arith, ap (λ (r : Seen). length r.failing) sooner)) ∙ sooner)
          (λ (same : m ≤ k). ap (λ x. seen test (sets_up_to n x)) {x = suc m} {y = suc k} (omega arith) ∙ next_level)
          (cases_lt k m)

      -- the level is one below its size
      pub level_is : (size : ℕ) → level_of size s.failing ≡ k
      level_is size = omega (arith, level_below size s.failing found, failing_size)

-- the sets of the next size are counted with those of the sizes before
pub sets_next : (n k : ℕ) → number_of_sets n (k + 1) ≡ number_of_sets n k + choose (n - 0) (k + 1)
unfolding number_of_sets
sets_next n k =
    ap (number_of_sets n) (add-one k) ∙ ap₂ (λ m j. number_of_sets n k + choose m j) {x = n} {y = n - 0} {u = suc k} {v = k + 1} (omega arith) (omega arith)

-- a size that is not refused has few sets
pub not_refused : (n s : ℕ) (r : Result (Unit {0}) Fault) (refused : Bool) → result_err r ≡ first_fault (survey_faults n s) → refused ≡ is_err r → refused ≡ false → number_of_sets n s ≤ 4294967295
not_refused n s (Ok u) refused fault told h = granted_few n s (sym fault)
not_refused n s (Err e) refused fault told h = cc

pub no_members : (V : List ℕ) → length V ≡ 0 → V ≡ []
no_members [] h = refl
no_members (p ∷ V) h = absurd (omega arith)

-- what a search over the sets that extend none sees
pub level_seen : (test : List ℕ → Bool) (n k : ℕ) (V : List ℕ) (s : Seen) → V ≡ [] → s ≡ seen test (extended V 0 (n - 0) (k + 1)) → s ≡ seen test (sets_from 0 n (suc k))
level_seen test n k V s none e = e ∙ ap₂ (λ W m. seen test (extended W 0 (n - 0) m)) none (add-one k) ∙ ap (seen test) (sets_of n (suc k))

-- what the survey of a graph answers
pub answer_is : (g : GraphModel) (n size level : ℕ) (s : Seen) → n ≡ g.places → seen (expands g) (sets_up_to n size) ≡ s → level_of size s.failing ≡ level
    → record { level = level; sets = s.sets; failing = s.failing } ≡ survey_of g size
answer_is g n size level s places whole height =
    let answer : Seen → Survey = λ r. record { level = level_of size r.failing; sets = r.sets; failing = r.failing } in
    let read : ℕ → Survey = λ l. record { level = l; sets = s.sets; failing = s.failing } in
    ap read (sym height) ∙ ap answer (sym whole) ∙ ap (λ m. answer (seen (expands g) (sets_up_to m size))) places
