-- The run with the lowest picks is a function of the calls. Assumes nothing.
use Rattle.std.proofs.Common.{◌≡◌, ℕ, zero, suc, ◌-◌, List, [], ◌∷◌, Some, None, Option, sym, refl, ap, ◌∙◌, subst, arith, MatchOption}
use Rattle.refusals.specs.declared.faults.Fault.{Fault}
use Rattle.fields.specs.Models.{FieldModel}
use Rattle.graphs.specs.Models.{GraphModel}
use Rattle.expander.specs.Words.{symbols}
use Rattle.expander.specs.Votes.{AllZero, changed}
use Rattle.expander.specs.Accounts.{Call, survey, load, overwrite, repair, settle, panel, Answer, Account, lowest_ranked, Picked, fault_of, next, ByRepair, TakesBy, Takes, Steps}
use Rattle.expander.specs.Repairs.{LowestPicked, lowest_picks, call_picks, lowest_next, lowest_answers, lowest_end, LowestRunsAreFunctions}
use Rattle.expander.proofs.RepairResults.{FirstRanked, lowest_tells, lowest_only}

-- steps in one relation from a lawful account are steps in another, where that one holds of each step and the law is kept
module _ {F : Type 0} (P Q : Account F → Call → Answer → Account F → Type 0) (Law : Account F → Type 0)
    (each : (a : Account F) (c : Call) (r : Answer) (b : Account F) → Law a → P a c r b → Q a c r b × Law b) where
  pub steps_keep : (a : Account F) (calls : List Call) (answers : List Answer) (b : Account F) → Law a → Steps P a calls answers b → Steps Q a calls answers b
  steps_keep a [] [] b law h = h
  steps_keep a [] (r ∷ answers) b law h = absurd h
  steps_keep a (c ∷ calls) [] b law h = absurd h
  steps_keep a (c ∷ calls) (r ∷ answers) b law h =
      let here = each a c r h.0 law h.1 in (h.0, here.0, steps_keep h.0 calls answers b here.1 h.2)

module _ {F : Type 0} (f : FieldModel F) (g : GraphModel) where
  -- the picks after the first
  abbrev after_first : ℕ → List F → Option ℕ → List ℕ
  after_first budget w None = []
  after_first budget w (Some p) = p ∷ lowest_picks f g budget (changed f g w p)

  lowest_more : (budget : ℕ) (w : List F) (o : Option ℕ) → lowest_ranked f g w ≡ o → lowest_picks f g (suc budget) w ≡ after_first budget w o
  unfolding lowest_picks
  lowest_more budget w None e = rw (e, lowest_picks)
  lowest_more budget w (Some p) e = rw (e, lowest_picks)

  lowest_is : (budget : ℕ) (w : List F) (picks : List ℕ) → LowestPicked f g budget w picks → lowest_picks f g budget w ≡ picks
  unfolding lowest_picks
  lowest_is zero w [] h = refl
  lowest_is zero w (p ∷ picks) h = absurd (omega (arith, h.0))
  lowest_is (suc budget) w [] h = lowest_more budget w None (lowest_only f g w None (h (omega arith)))
  lowest_is (suc budget) w (p ∷ picks) h =
      let less : suc budget - 1 ≡ budget = omega arith in
      lowest_more budget w (Some p) (lowest_only f g w (Some p) (h.1, h.2, h.3))
      ∙ ap (λ ps. p ∷ ps) (lowest_is budget (changed f g w p) picks (subst (λ b. LowestPicked f g b (changed f g w p) picks) less h.4))

  first_picked : (budget : ℕ) (w : List F) (o : Option ℕ) → MatchOption o (AllZero f g (symbols f w)) (FirstRanked f g w)
      → ((p : ℕ) → LowestPicked f g budget (changed f g w p) (lowest_picks f g budget (changed f g w p))) → LowestPicked f g (suc budget) w (after_first budget w o)
  first_picked budget w None none rest = λ some. none
  first_picked budget w (Some p) first rest =
      let less : budget ≡ suc budget - 1 = omega arith in
      (omega arith, first.0, first.1, first.2, subst (λ b. LowestPicked f g b (changed f g w p) (lowest_picks f g budget (changed f g w p))) less (rest p))

  lowest_picked : (budget : ℕ) (w : List F) → LowestPicked f g budget w (lowest_picks f g budget w)
  unfolding lowest_picks
  lowest_picked zero w = λ some. absurd (omega arith)
  lowest_picked (suc budget) w =
      subst (LowestPicked f g (suc budget) w) (sym (lowest_more budget w (lowest_ranked f g w) refl))
      (first_picked budget w (lowest_ranked f g w) (lowest_tells f g w) (λ p. lowest_picked budget (changed f g w p)))

  -- the lowest picks are legal
  lowest_legal : (budget : ℕ) (w : List F) (picks : List ℕ) → LowestPicked f g budget w picks → Picked f g budget w picks
  lowest_legal budget w [] h = h
  lowest_legal budget w (p ∷ picks) h = (h.0, h.1, h.2, lowest_legal (budget - 1) (changed f g w p) picks h.4)

  module _ (radix : ℕ) where
    -- the lowest picks of a call are its only picks by the lowest place, and they are legal
    by_lowest : (o : Option Fault) (a : Account F) (c : Call)
        → ByRepair f g radix (LowestPicked f g) o a c (call_picks f g o a c)
        × ((picks : List ℕ) → ByRepair f g radix (LowestPicked f g) o a c picks → (call_picks f g o a c ≡ picks) × ByRepair f g radix (Picked f g) o a c picks)
    by_lowest (Some e) a c = (refl, λ picks h. (sym h, h))
    by_lowest None a (survey s) = (refl, λ picks h. (sym h, h))
    by_lowest None a (load codes) = (refl, λ picks h. (sym h, h))
    by_lowest None a (overwrite p code) = (refl, λ picks h. (sym h, h))
    by_lowest None a (repair budget) = (lowest_picked budget a.word, λ picks h. (lowest_is budget a.word picks h, lowest_legal budget a.word picks h))
    by_lowest None a settle = (refl, λ picks h. (sym h, h))
    by_lowest None a (panel places) = (refl, λ picks h. (sym h, h))

    -- the steps of a run with the lowest picks
    abbrev LowestSteps : Account F → List Call → List Answer → Account F → Type 0
    LowestSteps = Steps (TakesBy f g radix (LowestPicked f g))

    steps : (a : Account F) (calls : List Call) → LowestSteps a calls (lowest_answers f g radix a calls) (lowest_end f g radix a calls)
    steps a [] = refl
    steps a (c ∷ calls) =
        let fault = fault_of f g radix a c in
        let after = (lowest_next f g radix a c).account in
        (after, (call_picks f g fault a c, (by_lowest fault a c).0, refl), steps after calls)

    fixed : (a : Account F) (calls : List Call) (answers : List Answer) (b : Account F) → LowestSteps a calls answers b
        → (lowest_answers f g radix a calls ≡ answers) × (lowest_end f g radix a calls ≡ b)
    fixed a [] [] b h = (refl, h)
    fixed a [] (r ∷ answers) b h = absurd h
    fixed a (c ∷ calls) [] b h = absurd h
    fixed a (c ∷ calls) (r ∷ answers) b h =
        let (picks, legal, e) = h.1 in
        let after : lowest_next f g radix a c ≡ record { account = h.0; answer = r } = ap (next f g radix a c) ((by_lowest (fault_of f g radix a c) a c).1 picks legal).0 ∙ e in
        let rest = fixed h.0 calls answers b h.2 in
        (rw after (ap (λ xs. r ∷ xs) rest.0), rw after rest.1)

    legal_run : (a : Account F) (calls : List Call) → Steps (Takes f g radix) a calls (lowest_answers f g radix a calls) (lowest_end f g radix a calls)
    legal_run a calls =
        steps_keep (TakesBy f g radix (LowestPicked f g)) (Takes f g radix) (λ x. Unit {0})
        (λ x c r b law h. ((h.0, ((by_lowest (fault_of f g radix x c) x c).1 h.0 h.1).1, h.2), tt))
        a calls (lowest_answers f g radix a calls) (lowest_end f g radix a calls) tt (steps a calls)

pub lowest_runs_are_functions_lem : (F : Type 0) → LowestRunsAreFunctions F
lowest_runs_are_functions_lem F f g radix a calls = record {
  fixed = λ answers b. (fixed f g radix a calls answers b, λ h. rw (← h.0, ← h.1) (steps f g radix a calls));
  legal = legal_run f g radix a calls;
}
