-- Every call keeps the law of the account. Assumes nothing.
use Rattle.std.proofs.Common.{◌≡◌, ℕ, suc, ◌+◌, ◌-◌, ◌*◌, ◌<◌, ◌≤◌, Bool, not, eqb, ltb, leb, List, [], ◌∷◌, map, length, set, Some, None, Option, sym, refl, ap, ◌∙◌, subst, ⊎_elim, add-zero, mul-le-mul_left, mul-zero, arith, length-set}
use lib.ListN.{length-replicate}
use Rattle.std.proofs.Math.Nat.{lt_of_mul-lt-mul_left}
use Rattle.std.proofs.lemmas.List.{length-map}
use Rattle.std.proofs.lemmas.Bool.{not-false, leb-false, eqb-true, cases_lt}
use Rattle.std.specs.Bool.{Decides}
use Rattle.std.proofs.lemmas.Bool.Decides.{Decides-ltb, Decides-below_and}
use Rattle.refusals.specs.declared.faults.Fault.{Fault}
use Rattle.refusals.specs.declared.faults.Refusal.TheVariants.{WeightOutOfField}
use Rattle.refusals.specs.declared.faults.Layer.TheVariants.{Decoder}
use Rattle.firsts.proofs.Passes.{cond_none}
use Rattle.fields.specs.Models.{FieldModel}
use Rattle.fields.specs.Checked.{passes}
use Rattle.graphs.specs.Models.{GraphModel, Valid}
use Rattle.expander.specs.Words.{symbols, distance, open_row_count, WeightsFit}
use Rattle.expander.specs.Votes.{rank, change, changed}
use Rattle.expander.specs.Expansion.{AllExpand}
use Rattle.expander.specs.Accounts.{Call, survey, load, overwrite, repair, settle, panel, Answer, Account, zeros, new_account, weights_fit, fault_if, Picked, after_picks, first_fault, call_faults, fault_of, granted, taken, ByRepair, Takes}
use Rattle.expander.specs.Promises.{errors, Lawful, CallsKeepTheLaw}
use Rattle.expander.proofs.OpenRows.{open_errors, few_opened, changes_close_rows_lem}
use Rattle.expander.proofs.Expanding.{errors_open}
use Rattle.expander.proofs.Surveys.{surveys_tell}
use Rattle.expander.proofs.Distances.{one_more, put_others}
use Rattle.expander.proofs.RepairResults.{ranked_by}

-- none of the faults is there
abbrev pub NoFault : List (Option Fault) → Type 0
NoFault [] = Unit {0}
NoFault (x ∷ faults) = (x ≡ None) × NoFault faults

pub no_fault : (faults : List (Option Fault)) → first_fault faults ≡ None → NoFault faults
no_fault [] e = tt
no_fault (None ∷ faults) e = (refl, no_fault faults e)
no_fault (Some a ∷ faults) e = cc

module _ {F : Type 0} (f : FieldModel F) (g : GraphModel) where
  pub weights_decide : Decides (weights_fit f g) (WeightsFit f g)
  unfolding passes
  weights_decide =
      let fits : ℕ → ℕ → Bool = λ i k. ltb (g.weight i k) f.size in
      let each = λ (i : ℕ). Decides-below_and (fits i) (λ k. g.weight i k < f.size) (passes (fits i)) (λ k. Decides-ltb (g.weight i k) f.size) refl (λ n. refl) g.degree in
      let all = Decides-below_and (λ i. passes (fits i) g.degree) (λ i. (k : ℕ) → k < g.degree → g.weight i k < f.size)
      (passes (λ i. passes (fits i) g.degree)) each refl (λ n. refl) g.places in
      (λ e i k hi hk. all.0 e i hi k hk, λ fit. all.1 (λ i hi k hk. fit i k hi hk))

  pub not_refused : (radix : ℕ) (a : Account F) (c : Call) → fault_of f g radix a c ≡ None → NoFault (call_faults f g radix a c)
  not_refused radix a c e = (no_fault (fault_if (not (weights_fit f g)) WeightOutOfField Decoder ∷ call_faults f g radix a c) e).1

module _ {F : Type 0} (f : FieldModel F) (g : GraphModel) (ok : Valid g) (fit : WeightsFit f g) where
  -- a word that is its own base
  fresh : (w : List F) (level : ℕ) → length w ≡ g.places → AllExpand g level → Lawful f g (record { base = w; word = w; overwrites = 0; changes = 0; level = level })
  fresh w level long all = record {
    base_long = long;
    word_long = long;
    expanding = all;
    bounded = λ x code. omega (arith, open_errors f g ok (symbols f w) (symbols f x) code.closed);
    within = λ x t code up near. omega arith;
  }

  -- where few rows are open, the word differs from a codeword in fewer places than the sets that expand have
  room : (w x : ℕ → F) → open_row_count f g x ≡ 0 → (t most : ℕ) → AllExpand g t → open_row_count f g w ≤ g.degree * most → 2 * most ≤ t → 1 ≤ t → distance f g.places w x ≤ t
      → distance f g.places w x < t
  room w x code t most all few twice some le =
      ⊎_elim (λ less. less)
      (λ (full : t ≤ distance f g.places w x).
      absurd (omega (arith, errors_open f g ok fit w x code t all (omega arith) le, mul-le-mul_left g.degree twice, mul-le-mul_left g.degree full)))
      (cases_lt (distance f g.places w x) t)

  -- a symbol is put at a place
  put : (a : Account F) → Lawful f g a → (p : ℕ) (s : F) → p < g.places
      → Lawful f g (record { base = a.base; word = set a.word p s; overwrites = a.overwrites + 1; changes = a.changes; level = a.level })
  put a law p s hp =
      let w = symbols f a.word in
      let v = symbols f (set a.word p s) in
      let others = put_others f g.places a.word p s in
      record {
        base_long = law.base_long;
        word_long = length-set a.word p s ∙ law.word_long;
        expanding = law.expanding;
        bounded = λ x code. omega (arith, law.bounded x code, few_opened f g ok w v p hp others);
        within = λ x t code up near.
            let before = law.within x t code up (omega arith) in
            let less = room w (symbols f x) code.closed t (errors f g a x + a.overwrites) up (omega (arith, law.bounded x code)) (omega arith) (omega arith) before in
            omega (arith, less, one_more f g.places w v (symbols f x) p hp others);
      }

  -- the change of a place of a rank above 0 closes a row
  pub change_closes : (w : List F) (p : ℕ) → length w ≡ g.places → p < g.places → 0 < rank f g (symbols f w) p
      → open_row_count f g (symbols f (changed f g w p)) < open_row_count f g (symbols f w)
  change_closes w p long hp some = (changes_close_rows_lem F f g ok fit w p _ _ long hp (ranked_by f g ok (symbols f w) p hp some)).1

  -- the account with another word and another number of changes
  abbrev moved : Account F → List F → ℕ → Account F
  moved a w k = record { base = a.base; word = w; overwrites = a.overwrites; changes = k; level = a.level }

  -- the account after one change
  abbrev after_change : Account F → ℕ → Account F
  after_change a p = moved a (changed f g a.word p) (a.changes + 1)

  make : (a : Account F) → Lawful f g a → (p : ℕ) → p < g.places → 0 < rank f g (symbols f a.word) p → Lawful f g (after_change a p)
  make a law p hp some =
      let w = symbols f a.word in
      let s = f.plus (w p) (change f g w p) in
      let fewer = change_closes a.word p law.word_long hp some in
      record {
        base_long = law.base_long;
        word_long = length-set a.word p s ∙ law.word_long;
        expanding = law.expanding;
        bounded = λ x code. omega (arith, law.bounded x code, fewer);
        within = λ x t code up near.
            let bound = law.bounded x code in
            let some : 0 < errors f g a x + a.overwrites = lt_of_mul-lt-mul_left g.degree (omega (arith, bound, fewer, mul-zero g.degree)) in
            let less = room w (symbols f x) code.closed t (errors f g a x + a.overwrites) up (omega (arith, bound)) near (omega (arith, some)) (law.within x t code up near) in
            omega (arith, less, one_more f g.places w (symbols f (set a.word p s)) (symbols f x) p hp (put_others f g.places a.word p s));
      }

  -- the account after the changes of the picks
  abbrev pub after_repair : Account F → List ℕ → Account F
  after_repair a picks = moved a (after_picks f g a.word picks) (a.changes + length picks)

  pub make_all : (budget : ℕ) (a : Account F) (picks : List ℕ) → Lawful f g a → Picked f g budget a.word picks → Lawful f g (after_repair a picks)
  make_all budget a [] law h = subst (λ k. Lawful f g (moved a a.word k)) (sym (add-zero a.changes)) law
  make_all budget a (p ∷ picks) law h =
      let same : a.changes + 1 + length picks ≡ a.changes + suc (length picks) = omega arith in
      subst (λ k. Lawful f g (moved a (after_picks f g (changed f g a.word p) picks) k)) same (make_all (budget - 1) (after_change a p) picks (make a law p h.1 h.2) h.3)

  -- every change of a repair closes a row
  pub repair_closes : (budget : ℕ) (w : List F) (picks : List ℕ) → length w ≡ g.places → Picked f g budget w picks
      → length picks + open_row_count f g (symbols f (after_picks f g w picks)) ≤ open_row_count f g (symbols f w)
  repair_closes budget w [] long h = omega arith
  repair_closes budget w (p ∷ picks) long h =
      omega (arith, change_closes w p long h.1 h.2, repair_closes (budget - 1) (changed f g w p) picks (length-set w p _ ∙ long) h.3)

  module _ (radix : ℕ) where
    grants : (a : Account F) (c : Call) (picks : List ℕ) → NoFault (call_faults f g radix a c) → Lawful f g a → ByRepair f g radix (Picked f g) None a c picks
        → Lawful f g (granted f g radix a c picks).account
    grants a (survey s) picks e law legal = record {
      base_long = law.base_long;
      word_long = law.word_long;
      expanding = (surveys_tell g s).all;
      bounded = law.bounded;
      within = law.within;
    }
    grants a (load codes) picks e law legal =
        let long = eqb-true (length codes) g.places (not-false (eqb (length codes) g.places) (cond_none (not (eqb (length codes) g.places)) _ e.0)) in
        fresh (map f.element codes) a.level (length-map codes f.element ∙ long) law.expanding
    grants a (overwrite p code) picks e law legal = put a law p (f.element code) (leb-false g.places p (cond_none (leb g.places p) _ e.0))
    grants a (repair budget) picks e law legal = make_all budget a picks law legal
    grants a settle picks e law legal = fresh a.word a.level law.word_long law.expanding
    grants a (panel places) picks e law legal = law

    keeps : (o : Option Fault) (a : Account F) (c : Call) (picks : List ℕ) → fault_of f g radix a c ≡ o → Lawful f g a → ByRepair f g radix (Picked f g) o a c picks
        → Lawful f g (taken f g radix o a c picks).account
    keeps (Some e) a c picks is law legal = law
    keeps None a c picks is law legal = grants a c picks (not_refused f g radix a c is) law legal

    pub call_keeps : (a : Account F) (c : Call) (r : Answer) (b : Account F) → Lawful f g a → Takes f g radix a c r b → Lawful f g b
    call_keeps a c r b law t = subst (Lawful f g) (ap (λ n. n.account) t.2) (keeps (fault_of f g radix a c) a c t.0 refl law t.1)

  pub new_lawful : Lawful f g (new_account f g)
  new_lawful = fresh (zeros f g) 0 (length-replicate g.places (f.element 0)) (λ V set. absurd (omega (arith, set.some, set.few)))

pub calls_keep_the_law_lem : (F : Type 0) → CallsKeepTheLaw F
calls_keep_the_law_lem F f g ok fit = (new_lawful f g ok fit, λ radix a c r b law t. call_keeps f g ok fit radix a c r b law t)
