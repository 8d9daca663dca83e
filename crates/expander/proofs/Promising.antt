-- Every list of calls keeps the promise at each of its calls. Assumes nothing.
use Rattle.std.proofs.Common.{◌≡◌, ℕ, ◌+◌, ◌*◌, ◌<◌, ◌≤◌, true, not, ◌↔◌, List, length, Some, None, Option, sym, refl, ap, ◌∙◌, subst, ⊎_elim, arith}
use Rattle.std.proofs.lemmas.Bool.{false_from_ne_true, not-false, cases_lt}
use Rattle.refusals.specs.declared.faults.Fault.{Fault}
use Rattle.refusals.specs.declared.faults.Refusal.TheVariants.{WeightOutOfField}
use Rattle.refusals.specs.declared.faults.Layer.TheVariants.{Decoder}
use Rattle.firsts.proofs.Passes.{cond_none}
use Rattle.fields.specs.Models.{FieldModel}
use Rattle.graphs.specs.Models.{GraphModel, Valid}
use Rattle.expander.specs.declared.outcomes.Outcome.{Outcome}
use Rattle.expander.specs.declared.outcomes.Outcome.TheVariants.{Sure, Spent}
use Rattle.expander.specs.Words.{symbols, distance, open_row_count, Codeword, WeightsFit}
use Rattle.expander.specs.Votes.{AllZero}
use Rattle.expander.specs.Expansion.{AllExpand}
use Rattle.expander.specs.Accounts.{Call, survey, load, overwrite, repair, settle, panel, Answer, repaired, refused, Account, Next, new_account, open_of, distance_of, sure, weights_fit, spelled, Picked, outcome_of, report, call_faults, fault_of, granted, taken, next, ByRepair, Takes}
use Rattle.expander.specs.Repairs.{OutcomeSays}
use Rattle.expander.specs.Promises.{Says, errors, Near, SomeNear, Lawful, RepairPromise, SpelledByOnlyNear, AtCall, Promise, RefusalsLeaveTheAccount, OneCodewordIsNear, RunsKeepThePromise}
use Rattle.expander.proofs.Expanding.{errors_open, errors_rank}
use Rattle.expander.proofs.Distances.{triangle, distance_flip, no_distance}
use Rattle.expander.proofs.RepairResults.{SomeRank, rank_cases, rank_open, picked_ends, sure_tells, repairs_have_one_result_lem}
use Rattle.expander.proofs.LowestRuns.{steps_keep}
use Rattle.expander.proofs.Lawfulness.{NoFault, not_refused, weights_decide, after_repair, make_all, repair_closes, call_keeps, new_lawful}

module _ {F : Type 0} (f : FieldModel F) (g : GraphModel) (ok : Valid g) (fit : WeightsFit f g) where
  pub near_one : (a : Account F) → AllExpand g a.level → (x y : List F) → Codeword f g x → Codeword f g y → Near f g a x → Near f g a y → x ≡ y
  near_one a all x y cx cy nx ny =
      let apart = distance f g.places (symbols f x) (symbols f y) in
      let few = triangle f g.places (symbols f a.base) (symbols f x) (symbols f y) in
      ⊎_elim
      (λ (some : 0 < apart). absurd (omega (arith, errors_open f g ok fit (symbols f x) (symbols f y) cy.closed a.level all some (omega (arith, few)), cx.closed)))
      (λ (none : apart ≤ 0). no_distance f g.places x y cx.long cy.long (omega arith))
      (cases_lt 0 apart)

  -- where no place has a rank, a near codeword is the word, and the account is sure
  at_rest : (b : Account F) → Lawful f g b → AllZero f g (symbols f b.word) → (x : List F) → Codeword f g x → Near f g b x
      → (b.word ≡ x) × ((open_of f g b ≡ 0) × (2 * (distance_of f g b + b.overwrites) ≤ b.level))
  at_rest b law none x code near =
      let apart = distance f g.places (symbols f b.word) (symbols f x) in
      let few = law.within x b.level code law.expanding near in
      let is : b.word ≡ x = ⊎_elim
      (λ (some : 0 < apart).
      let r = errors_rank f g ok fit (symbols f b.word) (symbols f x) code.closed b.level law.expanding some few in
      absurd (omega (arith, r.2, none r.0 r.1)))
      (λ (zero : apart ≤ 0). no_distance f g.places b.word x law.word_long code.long (omega arith))
      (cases_lt 0 apart) in
      let base = symbols f b.base in
      let away : distance_of f g b ≡ errors f g b x = ap (λ w. distance f g.places (symbols f w) base) is ∙ distance_flip f g.places (symbols f x) base in
      (is, (ap (λ w. open_row_count f g (symbols f w)) is ∙ code.closed, omega (arith, away)))

  module _ (a : Account F) (law : Lawful f g a) (budget : ℕ) (picks : List ℕ) (legal : Picked f g budget a.word picks) where
    abbrev b : Account F
    b = after_repair f g ok fit a picks

    abbrev r : Answer
    r = repaired (report f g (length picks) b)

    b_lawful : Lawful f g b
    b_lawful = make_all f g ok fit budget a picks law legal

    -- the answer says what holds
    says : (o : Outcome) → OutcomeSays f g budget (length picks) b o → Says r o
    says o h = (report f g (length picks) b, refl, sym ((repairs_have_one_result_lem F f g ok budget a.word picks).only b refl legal o h))

    -- a place with a rank is left only where the budget is used up
    used_up : SomeRank f g b.word → length picks ≡ budget
    used_up s = ⊎_elim (λ all. all) (λ none. absurd (omega (arith, s.2, none s.0 s.1))) (picked_ends f g budget a.word picks legal).1

    sure_at_rest : AllZero f g (symbols f b.word) → (x : List F) → Codeword f g x → Near f g a x → (b.word ≡ x) × Says r Sure
    sure_at_rest none x code near = let rest = at_rest b b_lawful none x code near in (rest.0, says Sure rest.1)

    finds : (x : List F) → Codeword f g x → Near f g a x → g.degree * (errors f g a x + a.overwrites) ≤ budget → (b.word ≡ x) × Says r Sure
    finds x code near enough =
        ⊎_elim
        (λ some.
        let s = some.1 in
        let left = rank_open f g ok (symbols f b.word) s.0 s.1 s.2 in
        absurd (omega (arith, used_up s, left, repair_closes f g ok fit budget a.word picks law.word_long legal, law.bounded x code)))
        (λ none. sure_at_rest none.1 x code near)
        (rank_cases f g b.word)

    -- the word of a sure account is a near codeword
    is_near : Says r Sure → SomeNear f g a
    is_near s =
        let out : outcome_of f g b ≡ Sure = let (rep, e, o) = s in cc in
        let h = subst (OutcomeSays f g budget (length picks) b) out ((repairs_have_one_result_lem F f g ok budget a.word picks).says b refl legal) in
        (b.word, record { long = b_lawful.word_long; closed = h.0 }, omega (arith, h.1, distance_flip f g.places (symbols f b.word) (symbols f a.base)))

    pub repair_promise : RepairPromise f g a budget r b
    repair_promise = record {
      finds = finds;
      exactly = λ not-spent. (
        is_near,
        λ n.
            ⊎_elim
            (λ some. absurd (not-spent (says Spent (some.1, used_up some.1))))
            (λ none. (sure_at_rest none.1 n.0 n.1 n.2).1)
            (rank_cases f g b.word),
      );
    }

  -- what a sure account shows is spelled by its word, the only near codeword
  shows : (radix : ℕ) (a : Account F) (places : List ℕ) → Lawful f g a → sure f g a ≡ true
      → SpelledByOnlyNear f g radix a places (spelled f radix (symbols f a.word) places)
  shows radix a places law s =
      let (closed, few) = sure_tells f g a s in
      let code : Codeword f g a.word = record { long = law.word_long; closed = closed } in
      let near : Near f g a a.word = omega (arith, few, distance_flip f g.places (symbols f a.word) (symbols f a.base)) in
      record { word = a.word; codeword = code; near = near; only = λ y cy ny. near_one a law.expanding y a.word cy code ny near; spells = refl }

  module _ (radix : ℕ) where
    panel_sure : (a : Account F) (places : List ℕ) → NoFault (call_faults f g radix a (panel places)) → sure f g a ≡ true
    panel_sure a places none = not-false (sure f g a) (cond_none (not (sure f g a)) _ none.1.1.0)

    -- a repair is not refused
    repair_granted : (a : Account F) (budget : ℕ) → fault_of f g radix a (repair budget) ≡ None
    repair_granted a budget = rw ((weights_decide f g).1 fit)

    -- what is promised at a call whose fault is o
    promised : (o : Option Fault) (a : Account F) (c : Call) (picks : List ℕ) → fault_of f g radix a c ≡ o → Lawful f g a → ByRepair f g radix (Picked f g) o a c picks
        → AtCall f g radix a c (taken f g radix o a c picks).answer (taken f g radix o a c picks).account
    promised o a (survey s) picks is law legal = tt
    promised o a (load codes) picks is law legal = tt
    promised o a (overwrite p code) picks is law legal = tt
    promised (Some e) a (repair budget) picks is law legal = cc (repair_granted a budget)
    promised None a (repair budget) picks is law legal = repair_promise a law budget picks legal
    promised o a settle picks is law legal = tt
    promised (Some e) a (panel places) picks is law legal = λ t h. cc
    promised None a (panel places) picks is law legal = λ t h.
        let total : spelled f radix (symbols f a.word) places ≡ t = cc in
        subst (SpelledByOnlyNear f g radix a places) total (shows radix a places law (panel_sure a places (not_refused f g radix a (panel places) is)))

    call_promise : (a : Account F) (c : Call) (r : Answer) (b : Account F) → Lawful f g a → Takes f g radix a c r b → Promise f g radix a c r b
    call_promise a c r b law t = record {
      bound = (call_keeps f g ok fit radix a c r b law t).bounded;
      at_call = subst (λ (n : Next F). AtCall f g radix a c n.answer n.account) t.2 (promised (fault_of f g radix a c) a c t.0 refl law t.1);
    }

pub one_codeword_is_near_lem : (F : Type 0) → OneCodewordIsNear F
one_codeword_is_near_lem F f g ok fit a all x y cx cy nx ny = near_one f g ok fit a all x y cx cy nx ny

pub runs_keep_the_promise_lem : (F : Type 0) → RunsKeepThePromise F
runs_keep_the_promise_lem F f g ok fit radix calls answers b h =
    steps_keep (Takes f g radix) (λ x c r m. Takes f g radix x c r m × Promise f g radix x c r m) (Lawful f g)
    (λ x c r m law t. ((t, call_promise f g ok fit radix x c r m law t), call_keeps f g ok fit radix x c r m law t))
    (new_account f g) calls answers b (new_lawful f g ok fit) h

module _ {F : Type 0} (f : FieldModel F) (g : GraphModel) (radix : ℕ) where
  -- what is granted answers no fault
  no_refusal : (a : Account F) (c : Call) (picks : List ℕ) (e : Fault) → (granted f g radix a c picks).answer ≡ refused e → ⊥
  no_refusal a (survey s) picks e h = cc
  no_refusal a (load codes) picks e h = cc
  no_refusal a (overwrite p code) picks e h = cc
  no_refusal a (repair budget) picks e h = cc
  no_refusal a settle picks e h = cc
  no_refusal a (panel places) picks e h = cc

  refusal : (o : Option Fault) (a : Account F) (c : Call) (picks : List ℕ) (e : Fault)
      → (((taken f g radix o a c picks).answer ≡ refused e) ↔ (o ≡ Some e)) × ((taken f g radix o a c picks).answer ≡ refused e → (taken f g radix o a c picks).account ≡ a)
  refusal (Some d) a c picks e = ((λ h. cc, λ h. cc), λ h. refl)
  refusal None a c picks e = ((λ h. absurd (no_refusal a c picks e h), λ h. cc), λ h. absurd (no_refusal a c picks e h))

  misfit : (WeightsFit f g → ⊥) → (a : Account F) (c : Call) → fault_of f g radix a c ≡ Some (record { refusal = WeightOutOfField; layer = Decoder; position = 0 })
  misfit apart a c = rw (false_from_ne_true (weights_fit f g) (λ t. apart ((weights_decide f g).0 t)))

pub refusals_leave_the_account_lem : (F : Type 0) → RefusalsLeaveTheAccount F
refusals_leave_the_account_lem F f g radix a c r b t =
    let answer : (next f g radix a c t.0).answer ≡ r = ap (λ n. n.answer) t.2 in
    let account : (next f g radix a c t.0).account ≡ b = ap (λ n. n.account) t.2 in
    let told = refusal f g radix (fault_of f g radix a c) a c t.0 in (
      λ e. (λ h. (told e).0.0 (answer ∙ h), λ h. sym answer ∙ (told e).0.1 h),
      λ e h. sym account ∙ (told e).1 (answer ∙ h),
      λ apart. sym answer ∙ (told _).0.1 (misfit f g radix apart a c),
    )
