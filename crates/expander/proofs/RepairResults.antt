-- A repair with given picks has one result and one outcome. Assumes nothing.
use Rattle.std.proofs.Common.{◌≡◌, ℕ, ◌+◌, ◌-◌, ◌*◌, ◌<◌, ◌≤◌, Bool, true, false, eqb, ltb, leb, ◌⊎◌, List, [], ◌∷◌, length, set, is_some, Some, None, Option, sym, refl, ap, ◌∙◌, subst, inl, inr, ⊎_elim, arith, MatchOption}
use Rattle.std.proofs.lemmas.Bool.{some_since, cond_both, lt-ltb, le-ltb, and_parts, and_cases, ltb-true, ltb-false, leb-true, leb-false, le-leb, lt-leb, eqb-true, eqb-false, eq-eqb, ne_eqb, cases_lt}
use Rattle.firsts.proofs.Firsts.{cases_map}
use Rattle.firsts.proofs.Passes.{where_tells, where_only}
use Rattle.fields.specs.Models.{FieldModel}
use Rattle.graphs.specs.Models.{GraphModel, Valid}
use Rattle.expander.specs.declared.outcomes.Outcome.{Outcome}
use Rattle.expander.specs.declared.outcomes.Outcome.TheVariants.{Sure, Closed, Stuck, Spent}
use Rattle.expander.specs.Words.{symbols, is_open, open_row_count}
use Rattle.expander.specs.Votes.{proposes, rank, Ranked, AllZero, change, changed}
use Rattle.expander.specs.Accounts.{Account, open_of, distance_of, sure, lowest_ranked, Picked, after_picks, outcome_of}
use Rattle.expander.specs.Repairs.{RepairEnds, OutcomeSays, RepairsHaveOneResult}
use Rattle.expander.proofs.Sums.{count_le}
use Rattle.expander.proofs.Majorities.{proposed, rank_fixed}

module _ {F : Type 0} (f : FieldModel F) (g : GraphModel) (w : List F) where
  -- some place has a rank above 0
  abbrev pub SomeRank : Type 0
  SomeRank = (i : ℕ) × (i < g.places) × (0 < rank f g (symbols f w) i)

  abbrev has_rank : ℕ → Bool
  has_rank i = ltb 0 (rank f g (symbols f w) i)

  -- p is the first place with a rank above 0
  abbrev pub FirstRanked : ℕ → Type 0
  FirstRanked p = (p < g.places) × (0 < rank f g (symbols f w) p) × ((i : ℕ) → i < p → rank f g (symbols f w) i ≡ 0)

  unranked : (i : ℕ) → has_rank i ≡ false → rank f g (symbols f w) i ≡ 0
  unranked i none = let z = ltb-false 0 (rank f g (symbols f w) i) none in omega (arith, z)

  pub lowest_tells : MatchOption (lowest_ranked f g w) (AllZero f g (symbols f w)) FirstRanked
  lowest_tells =
      cases_map (lowest_ranked f g w)
      (λ none i l. unranked i (none i (omega arith) (omega arith)))
      (λ p at. (omega (arith, at.within), ltb-true 0 (rank f g (symbols f w) p) at.here, λ i l. unranked i (at.before i (omega arith) l)))
      (where_tells has_rank 0 g.places)

  pub lowest_only : (o : Option ℕ) → MatchOption o (AllZero f g (symbols f w)) FirstRanked → lowest_ranked f g w ≡ o
  lowest_only o h = sym (where_only has_rank 0 g.places o (cases_map o
      (λ none i low high. le-ltb 0 (rank f g (symbols f w) i) (omega (arith, none i (omega arith))))
      (λ p first. record {
        from = omega arith;
        within = omega (arith, first.0);
        here = lt-ltb 0 (rank f g (symbols f w) p) first.1;
        before = λ i low less. le-ltb 0 (rank f g (symbols f w) i) (omega (arith, first.2 i less));
      })
      h))

  -- the first place with a rank tells whether there is one
  rank_shows : (o : Option ℕ) → MatchOption o (AllZero f g (symbols f w)) FirstRanked
      → ((is_some o ≡ true) × SomeRank) ⊎ ((is_some o ≡ false) × AllZero f g (symbols f w))
  rank_shows None none = inr (refl, none)
  rank_shows (Some i) first = inl (refl, (i, first.0, first.1))

  pub rank_cases : ((is_some (lowest_ranked f g w) ≡ true) × SomeRank) ⊎ ((is_some (lowest_ranked f g w) ≡ false) × AllZero f g (symbols f w))
  rank_cases = rank_shows (lowest_ranked f g w) lowest_tells

  no_rank : SomeRank → AllZero f g (symbols f w) → ⊥
  no_rank s none = omega (arith, s.2, none s.0 s.1)

  some_shows : SomeRank → is_some (lowest_ranked f g w) ≡ true
  some_shows s = some_since (lowest_ranked f g w) _ _ lowest_tells (no_rank s)

  none_shows : AllZero f g (symbols f w) → is_some (lowest_ranked f g w) ≡ false
  none_shows none = ap is_some (lowest_only None none)

module _ {F : Type 0} (f : FieldModel F) (g : GraphModel) where
  -- a repair stays within its budget, and short of it no place has a rank left
  pub picked_ends : (budget : ℕ) (w : List F) (picks : List ℕ) → Picked f g budget w picks
      → (length picks ≤ budget) × ((length picks ≡ budget) ⊎ AllZero f g (symbols f (after_picks f g w picks)))
  picked_ends budget w [] h = (omega arith, ⊎_elim (λ (some : 0 < budget). inr (h some)) (λ (none : budget ≤ 0). inl (omega arith)) (cases_lt 0 budget))
  picked_ends budget w (p ∷ picks) h =
      let r = picked_ends (budget - 1) (changed f g w p) picks h.3 in
      (omega (arith, r.0, h.0), ⊎_elim (λ (all : length picks ≡ budget - 1). inl (omega (arith, all, h.0))) (λ rest. inr rest) r.1)

  -- what the account says when it is sure
  pub sure_tells : (a : Account F) → sure f g a ≡ true → (open_of f g a ≡ 0) × (2 * (distance_of f g a + a.overwrites) ≤ a.level)
  sure_tells a s =
      let p = and_parts (eqb (open_of f g a) 0) (leb (2 * (distance_of f g a + a.overwrites)) a.level) s in
      (eqb-true (open_of f g a) 0 p.0, leb-true (2 * (distance_of f g a + a.overwrites)) a.level p.1)

  module _ (ok : Valid g) where
    -- a rank above 0 is the votes of the change
    pub ranked_by : (w : ℕ → F) (i : ℕ) → i < g.places → 0 < rank f g w i → Ranked f g w i (rank f g w i) (change f g w i)
    ranked_by w i hi some = ((rank_fixed f g w i ok hi).ranked (rank f g w i) (change f g w i)).1 (some, refl, refl)

    -- where a place has a rank, a row is open
    pub rank_open : (w : ℕ → F) (i : ℕ) → i < g.places → 0 < rank f g w i → 0 < open_row_count f g w
    rank_open w i hi some =
        let r = ranked_by w i hi some in
        omega (arith, r.by, some, count_le g.rows (proposes f g w i (change f g w i)) (is_open f g w) (λ j l t. (proposed f g w i (change f g w i) j t).1))

    ends_to : (budget : ℕ) (w : List F) (picks : List ℕ) (x : List F) → RepairEnds f g budget w picks x → Picked f g budget w picks × (after_picks f g w picks ≡ x)
    ends_to budget w [] x h = (λ some i l. (rank_fixed f g (symbols f w) i ok l).unranked.0 (h.1 some i l), h.0)
    ends_to budget w (p ∷ picks) x h =
        let (v, d, r, rest) = h.2 in
        let is = ((rank_fixed f g (symbols f w) p ok h.1).ranked v d).0 r in
        let one = ends_to (budget - 1) (changed f g w p) picks x (subst (λ e. RepairEnds f g (budget - 1) (set w p (f.plus (symbols f w p) e)) picks x) (sym is.2) rest) in
        ((h.0, h.1, omega (arith, is.0, is.1), one.0), one.1)

    ends_from : (budget : ℕ) (w : List F) (picks : List ℕ) (x : List F) → Picked f g budget w picks → after_picks f g w picks ≡ x → RepairEnds f g budget w picks x
    ends_from budget w [] x h e = (e, λ some i l. (rank_fixed f g (symbols f w) i ok l).unranked.1 (h some i l))
    ends_from budget w (p ∷ picks) x h e =
        (h.0, h.1, (rank f g (symbols f w) p, change f g (symbols f w) p, ranked_by (symbols f w) p h.1 h.2, ends_from (budget - 1) (changed f g w p) picks x h.3 e))

    module _ (a : Account F) where
      abbrev none_open : Bool
      none_open = eqb (open_of f g a) 0

      -- twice the distance and the overwrites
      abbrev gap : ℕ
      gap = 2 * (distance_of f g a + a.overwrites)

      module _ (budget made : ℕ) where
        -- what the outcome says is so
        outcome_says : (SomeRank f g a.word → made ≡ budget) → OutcomeSays f g budget made a (outcome_of f g a)
        outcome_says all =
            cond_both (sure f g a) Sure _ (OutcomeSays f g budget made a)
            (sure_tells a)
            (λ s.
            cond_both none_open Closed _ (OutcomeSays f g budget made a)
            (λ z. (eqb-true (open_of f g a) 0 z, ⊎_elim (λ no. cc) (leb-false gap a.level) (and_cases none_open _ s)))
            (λ z.
            ⊎_elim (λ some. rw some.0 (some.1, all some.1))
            (λ none. let n = eqb-false (open_of f g a) 0 z in rw none.0 (omega (arith, n), none.1))
            (rank_cases f g a.word)))

        -- and nothing else is
        outcome_only : (o : Outcome) → OutcomeSays f g budget made a o → o ≡ outcome_of f g a
        outcome_only Sure h = rw (eq-eqb (open_of f g a) 0 h.0, le-leb gap a.level h.1)
        outcome_only Closed h = rw (eq-eqb (open_of f g a) 0 h.0, lt-leb gap a.level h.1)
        outcome_only Stuck h = rw (ne_eqb (open_of f g a) 0 (λ e. omega (arith, h.0)), none_shows f g a.word h.1)
        outcome_only Spent h =
            let (i, hi, some) = h.0 in
            let some-open = rank_open (symbols f a.word) i hi some in
            rw (ne_eqb (open_of f g a) 0 (λ e. omega (arith, some-open)), some_shows f g a.word h.0)

pub repairs_have_one_result_lem : (F : Type 0) → RepairsHaveOneResult F
repairs_have_one_result_lem F f g ok budget w picks = record {
  same = λ x. (ends_to f g ok budget w picks x, λ h. ends_from f g ok budget w picks x h.0 h.1);
  one = λ x y p q. sym (ends_to f g ok budget w picks x p).1 ∙ (ends_to f g ok budget w picks y q).1;
  says = λ a e h. outcome_says f g ok a budget (length picks) (λ s.
      ⊎_elim (λ all. all) (λ none. absurd (no_rank f g a.word s (subst (λ x. AllZero f g (symbols f x)) (sym e) none))) (picked_ends f g budget w picks h).1);
  only = λ a e h o. outcome_only f g ok a budget (length picks) o;
}
