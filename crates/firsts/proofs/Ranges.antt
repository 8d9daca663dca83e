-- A search over a range of numbers finds the first answer, or the first number that passes, and a check of each fails with the first fault.
-- Assumes nothing.
use denote.Param.Members.{Mut, Called}
use denote.Ref.{Bor}
use Rattle.std.proofs.Common.{◌≡◌, ℕ, ◌+◌, ◌-◌, ◌<◌, ◌≤◌, Bool, true, false, Some, None, Option, Ok, Err, Result, MatchOption, IsSomeAnd, IfSome, IsTrue, refl, sym, ap, ap₂, ◌∙◌, subst, arith}
use Rattle.std.proofs.lemmas.Iterator.{first_from_Range}
use Rattle.std.specs.Bool.{MatchBool}
use Rattle.std.specs.Fn.{CalledAt}
use Rattle.std.specs.Iterator.{FindsItem}
use Rattle.std.specs.Option.{option_map}
use Rattle.std.specs.Result.{IsErr, IsErrAnd, result_err, result_from_control_flow}
use Rattle.std.specs.declared.ops.Range.{Range}
use Rattle.std.specs.Iterator.Runs.{Run, SomeRun, AllItems, AllItemsBelow, AllItemsGive, IsFirstToGive, IsTryForEachRun, CallKeepsClosure}
use Rattle.std.proofs.iter.Yields.{nat_range_steps}
use Rattle.std.proofs.iter.runs.Sources.{range_runs}
use Rattle.firsts.specs.First.{first, first_where, FirstAt, NoAnswer}
use Rattle.firsts.proofs.Firsts.{some≢none, cases_map, first_only}
use Rattle.firsts.proofs.Passes.{where_only}

some_same : {A : Type 0} (o : Option A) (x : A) → option_map (λ y. y) o ≡ Some x → o ≡ Some x
some_same None x h = absurd (some≢none x (sym h))
some_same (Some y) x h = h

-- the item at place k of a run over a range
item_is : (p : Run nat_range_steps) (k : ℕ) → k < p.len → p.at k ≡ Some (p.from.start + k)
item_is p k l = some_same (p.at k) _ ((range_runs p p.seen).3 k l)

-- r is the first answer over the numbers of the range
abbrev Tells : {A : Type 0} → (ℕ → Option A) → Range ℕ → Option A → Type 0
Tells answer s r = MatchOption r (NoAnswer answer s.start (s.end - s.start)) (FirstAt answer s.start (s.end - s.start))

tells_first : {A : Type 0} (answer : ℕ → Option A) (s : Range ℕ) (r : Option A) (k n : ℕ) → s.start ≡ k → s.end - k ≡ n → Tells answer s r → r ≡ first answer k n
tells_first answer s r k n from long tells =
    let e : s.end - s.start ≡ n = omega (arith, from, long) in
    first_only answer s.start (s.end - s.start) r tells ∙ ap₂ (first answer) from e

-- a search asks of each number of a range in its turn, and ends at the first that answers
module _ {A : Type 0} (Asked : ℕ → Option A → Type 0) (answer : ℕ → Option A) (s : Range ℕ) where
  abbrev Gives : Type 0
  Gives = (x : ℕ) (o : Option A) → s.start ≤ x → x < s.end → Asked x o → o ≡ answer x

  module _ (gives : Gives) (p : Run nat_range_steps) (begun : p.from ≡ s) where
    begins : p.from.start ≡ s.start
    begins = ap (λ (t : Range ℕ). t.start) begun

    ends : p.from.end ≡ s.end
    ends = ap (λ (t : Range ℕ). t.end) begun

    item : (k : ℕ) → k < p.len → p.at k ≡ Some (s.start + k)
    item k l = item_is p k l ∙ ap (λ n. Some (n + k)) begins

    no_answer : IsTrue p.whole → AllItems p (λ x. Asked x None) → NoAnswer answer s.start (s.end - s.start)
    no_answer whole all x low high =
        let up = range_runs p p.seen in
        let k = x - s.start in
        let long : k < p.len = omega (arith, up.1 whole, begins, ends) in
        let same : s.start + k ≡ x = omega (arith, low) in
        sym (gives x None low (omega arith) (subst (λ o. IfSome o (λ z. Asked z None)) (item k long ∙ ap Some same) (all k)))

    first_at : (y : A) (i : ℕ) → p.len ≡ i + 1 → IsSomeAnd (p.at i) (λ x. Asked x (Some y)) → AllItemsBelow p i (λ x. Asked x None) → FirstAt answer s.start (s.end - s.start) y
    first_at y i long hit misses =
        let up = range_runs p p.seen in
        let few : i < s.end - s.start = omega (arith, up.0, long, begins, ends) in
        record {
          at = s.start + i;
          from = omega arith;
          within = omega (arith, few);
          here = sym (gives (s.start + i) (Some y) (omega arith) (omega (arith, few)) (subst (λ o. IsSomeAnd o (λ z. Asked z (Some y))) (item i (omega (arith, long))) hit));
          before = λ x low high.
              let k = x - s.start in
              let below : k < i = omega (arith, low, high) in
              let same : s.start + k ≡ x = omega (arith, low) in
              sym (gives x None low (omega (arith, few, high)) (subst (λ o. IsSomeAnd o (λ z. Asked z None)) (item k (omega (arith, below, long)) ∙ ap Some same) (misses k below)));
        }

module _ {A F : Type 0} (g : Mut F (ℕ × Unit {0}) (Option A)) (f : F) (answer : ℕ → Option A) (s : Range ℕ) where
  -- what `find_map` ensures of its answer r
  abbrev pub FindsInRange : Option A → Type 0
  FindsInRange r = SomeRun nat_range_steps s (λ p. MatchOption r (IsTrue p.whole × AllItemsGive p g f None) (λ y. (i : ℕ) × (i < p.len) × (p.len ≡ i + 1) × IsFirstToGive p g f (Some y) None i))

  -- the closure gives `answer` of each number of the range
  abbrev pub GivesInRange : Type 0
  GivesInRange = (x : ℕ) (o : Option A) → s.start ≤ x → x < s.end → Called g f (x, tt) o f → o ≡ answer x

  module _ (keeps : CallKeepsClosure g f) (gives : GivesInRange) where
    abbrev Asked-find_map : ℕ → Option A → Type 0
    Asked-find_map x o = Called g f (x, tt) o f

    found : (r : Option A) → FindsInRange r → Tells answer s r
    found None (p, e, (whole, all)) = no_answer Asked-find_map answer s gives p e whole (all keeps)
    found (Some y) (p, e, (i, l, long, h)) = first_at Asked-find_map answer s gives p e y i long (h keeps).0 (h keeps).1

    -- a `find_map` over the n numbers from k on finds the first answer
    pub first_by_find_map : (k n : ℕ) (r : Option A) → s.start ≡ k → s.end - k ≡ n → FindsInRange r → r ≡ first answer k n
    first_by_find_map k n r from long h = tells_first answer s r k n from long (found r h)

either_way : {P Q R : Type 0} (w : Bool) → MatchBool w P Q → (IsTrue w → P → R) → (Q → R) → R
either_way true h p q = p refl h
either_way false h p q = q h

-- the result that a check with this fault has
abbrev outcome : {E : Type 0} → Option E → Result (Unit {0}) E
outcome None = Ok tt
outcome (Some e) = Err e

fault_of : {E : Type 0} (o : Option E) (v : Result (Unit {0}) E) → v ≡ outcome o → o ≡ result_err v
fault_of None v h = ap result_err (sym h)
fault_of (Some e) v h = ap result_err (sym h)

module _ {E F : Type 0} (g : Mut F (ℕ × Unit {0}) (Result (Unit {0}) E)) (f : F) (answer : ℕ → Option E) (s : Range ℕ) where
  -- what `try_for_each` ensures of its result r
  abbrev pub ChecksRange : Result (Unit {0}) E → Type 0
  ChecksRange r = SomeRun nat_range_steps s (λ p. IsTryForEachRun p g f (λ v c. v ≡ result_from_control_flow c) (λ e v. IsErr v × IsErrAnd v (λ x. x ≡ e.0)) r)

  -- the closure fails with `answer` of each number of the range
  abbrev pub FailsInRange : Type 0
  FailsInRange = (x : ℕ) (v : Result (Unit {0}) E) → s.start ≤ x → x < s.end → Called g f (x, tt) v f → result_err v ≡ answer x

  module _ (keeps : CallKeepsClosure g f) (fails : FailsInRange) where
    abbrev Asked-try_for_each : ℕ → Option E → Type 0
    Asked-try_for_each x o = (v : Result (Unit {0}) E) × Called g f (x, tt) v f × (v ≡ outcome o)

    gives : Gives Asked-try_for_each answer s
    gives x o low high (v, called, same) = fault_of o v same ∙ fails x v low high called

    module _ (p : Run nat_range_steps) (begun : p.from ≡ s) where
      passed : (r : Result (Unit {0}) E) → p.whole ≡ true → r ≡ Ok tt → AllItems p (λ x. Asked-try_for_each x None) → Tells answer s (result_err r)
      passed r whole ok all = subst (λ v. Tells answer s (result_err v)) (sym ok) (no_answer Asked-try_for_each answer s gives p begun whole all)

      failed : (r : Result (Unit {0}) E) (e : E) (i : ℕ) → IsErrAnd r (λ x. x ≡ e) → p.len ≡ i + 1 → IsSomeAnd (p.at i) (λ x. Asked-try_for_each x (Some e)) → AllItemsBelow p i (λ x. Asked-try_for_each x None) → Tells answer s (result_err r)
      failed (Ok u) e i h long hit misses = absurd h
      failed (Err a) e i h long hit misses = subst (λ x. Tells answer s (Some x)) (sym h) (first_at Asked-try_for_each answer s gives p begun e i long hit misses)

    checked : (r : Result (Unit {0}) E) → ChecksRange r → Tells answer s (result_err r)
    checked r (p, begun, run) =
        either_way p.whole run
        (λ whole t. passed p begun r whole t.0 (t.1 keeps))
        (λ (e, i, h, long, t). failed p begun r e.0 i h.1 long (t keeps).0 (t keeps).1)

    -- a `try_for_each` over the n numbers from k on fails with the first answer
    pub first_by_try_for_each : (k n : ℕ) (r : Result (Unit {0}) E) → s.start ≡ k → s.end - k ≡ n → ChecksRange r → result_err r ≡ first answer k n
    first_by_try_for_each k n r from long h = tells_first answer s (result_err r) k n from long (checked r h)

module _ {F : Type 0} (g : Mut F (Bor ℕ × Unit {0}) Bool) (f : F) (test : ℕ → Bool) (s u : Range ℕ) where
  -- a call that answers no leaves the closure as it was
  abbrev pub NoKeepsClosure : Type 0
  NoKeepsClosure = (x : ℕ) (q : F) → CalledAt g f x false q → q ≡ f

  -- the closure answers by `test` for each number of the range
  abbrev pub TestsInRange : Type 0
  TestsInRange = (x : ℕ) (b : Bool) (q : F) → s.start ≤ x → x < s.end → CalledAt g f x b q → b ≡ test x

  -- a `find` over a range of numbers finds the first that passes
  pub first_where_by_find : NoKeepsClosure → TestsInRange → (r : Option ℕ) → FindsItem nat_range_steps g s f r u → r ≡ first_where test s.start (s.end - s.start)
  first_where_by_find keeps tests r h =
      let inside : Bool → ℕ → Type 0 = λ b x. s.start ≤ x → x < s.end → test x ≡ b in
      where_only test s.start (s.end - s.start) r
      (cases_map r
      (λ none k low high. none k low (omega arith) low (omega arith))
      (λ k p. record {
        from = p.0;
        within = omega (arith, p.0, p.1);
        here = p.2 p.0 p.1;
        before = λ i low high. p.3 i low high low (omega (arith, p.1));
      })
      (first_from_Range s u f r (inside true) (inside false) h (λ x q k low high. sym (tests x true q low high k)) (λ x q k. (keeps x q k, λ low high. sym (tests x false q low high k)))))
