-- Ranks of 0, and the lowest place of a list of ranks. Assumes nothing.
use Rattle.std.proofs.Common.{◌≡◌, ℕ, zero, suc, ◌<◌, ◌≤◌, true, ltb, List, length, get_or, replicate, None, Some, Option, sym, refl, ap, ◌∙◌, ⊎_elim, arith, MatchOption}
use Rattle.std.specs.Option.{option_map}
use Rattle.std.proofs.lemmas.List.{get_or_past}
use Rattle.std.proofs.lemmas.Bool.{ltb-true, ltb-false, lt-ltb, cases_lt}
use Rattle.firsts.specs.First.{first_where}
use Rattle.firsts.proofs.Firsts.{cases_map}
use Rattle.firsts.proofs.Passes.{where_tells, where_only}
use Rattle.bitsets.specs.Sets.{has}
use Rattle.queues.specs.declared.states.LowestQueue.{LowestQueue}
use Rattle.queues.specs.Ranks.{AllZero, IsLowest, LowestOrNone, lowest}
use Rattle.queues.specs.Lowest.{ranks_of, rank_at, ranked_of}

pub zeros_at : (n i : ℕ) → ◌≡◌ {A = ℕ} (get_or (replicate n 0) i 0) 0
zeros_at zero i = refl
zeros_at (suc n) zero = refl
zeros_at (suc n) (suc i) = zeros_at n i

cases_of_map : {A B : Type 0} (P : Type 0) (Q : B → Type 0) (f : A → B) (o : Option A) → MatchOption o P (λ a. Q (f a)) → MatchOption (option_map f o) P Q
cases_of_map P Q f None h = h
cases_of_map P Q f (Some a) h = h

module _ (ranks : List ℕ) where
  -- a place that the list does not have has no rank
  no_rank : (i : ℕ) → length ranks ≤ i → get_or ranks i 0 ≡ 0
  no_rank i past = get_or_past ranks i 0 past

  inside : (i : ℕ) → ltb 0 (get_or ranks i 0) ≡ true → i < length ranks
  inside i e = ⊎_elim (λ l. l) (λ past. absurd (omega (arith, no_rank i past, ltb-true 0 (get_or ranks i 0) e))) (cases_lt i (length ranks))

  -- what the definition finds is the lowest
  pub lowest_tells : LowestOrNone ranks (lowest ranks)
  lowest_tells =
      cases_of_map (AllZero ranks) (IsLowest ranks) _ _
      (cases_map (first_where (λ i. ltb 0 (get_or ranks i 0)) 0 (length ranks))
      (λ none i. ⊎_elim (λ inside. omega (arith, ltb-false 0 (get_or ranks i 0) (none i (omega arith) (omega arith)))) (no_rank i) (cases_lt i (length ranks)))
      (λ i first. record {
        positive = omega (arith, ltb-true 0 (get_or ranks i 0) first.here);
        zero_below = λ k low. omega (arith, ltb-false 0 (get_or ranks k 0) (first.before k (omega arith) low));
      })
      (where_tells (λ i. ltb 0 (get_or ranks i 0)) 0 (length ranks)))

  -- an answer that is the lowest is what the definition finds
  pub lowest_only : (r : Option ℕ) → MatchOption r (AllZero ranks) (λ i. IsLowest ranks (record { 0 = i })) → option_map (λ i. record { 0 = i }) r ≡ lowest ranks
  lowest_only r h =
      ap (option_map (λ i. record { 0 = i }))
      (where_only (λ i. ltb 0 (get_or ranks i 0)) 0 (length ranks) r
      (cases_map r (λ zeros i low high. ap (ltb 0) (zeros i))
      (λ i is.
      let here = lt-ltb 0 (get_or ranks i 0) is.positive in
      record {
        from = omega arith;
        within = omega (arith, inside i here);
        here = here;
        before = λ k low high. ap (ltb 0) (is.zero_below k high);
      })
      h))

-- the first marked place of a queue is the first with a rank above 0
module _ (q : LowestQueue) where
  abbrev ranks : List ℕ
  ranks = ranks_of q

  marks : (i : ℕ) → has q.positive i ≡ ltb 0 (get_or ranks i 0)
  marks i = q.marked i ∙ ap (ltb 0) (sym (rank_at q i))

  pub first_marked : first_where (has q.positive) 0 512 ≡ first_where (λ i. ltb 0 (get_or ranks i 0)) 0 (length ranks)
  first_marked =
      where_only (λ i. ltb 0 (get_or ranks i 0)) 0 (length ranks) (first_where (has q.positive) 0 512)
      (cases_map (first_where (has q.positive) 0 512)
      (λ none i low high. sym (marks i) ∙ none i low (omega (arith, (ranked_of q).few)))
      (λ i first.
      let here = sym (marks i) ∙ first.here in
      record {
        from = omega arith;
        within = omega (arith, inside ranks i here);
        here = here;
        before = λ k low high. sym (marks k) ∙ first.before k low high;
      })
      (where_tells (has q.positive) 0 512))
