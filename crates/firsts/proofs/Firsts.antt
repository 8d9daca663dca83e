-- What the first answer tells. Assumes nothing.
use Rattle.std.proofs.Common.{◌≡◌, ℕ, zero, suc, ◌+◌, ◌-◌, ◌<◌, ◌≤◌, false, is_some, Some, None, Option, sym, refl, ap, ap₂, ◌∙◌, ⊎_elim, add-zero, zero-add, add-one, arith, MatchOption}
use Rattle.std.proofs.lemmas.Bool.{cases_eq, cases_order}
use Rattle.firsts.specs.First.{or_else, first, FirstAt, NoAnswer, FirstAnswers}

pub some≢none : {A : Type 0} (x : A) → Some x ≡ None → ⊥
some≢none x h = cc

pub none_from : {A : Type 0} (o : Option A) → is_some o ≡ false → o ≡ None
none_from None h = refl
none_from (Some x) h = cc

pub cases_map : {A : Type 0} (o : Option A) {P P' : Type 0} {Q Q' : A → Type 0} → (P → P') → ((a : A) → Q a → Q' a) → MatchOption o P Q → MatchOption o P' Q'
cases_map None p q h = p h
cases_map (Some a) p q h = q a h

module _ {A : Type 0} (f : ℕ → Option A) where
  on_from : (k : ℕ) → f k ≡ None → (i : ℕ) → k ≤ i → (suc k ≤ i → f i ≡ None) → f i ≡ None
  on_from k e i low later = ⊎_elim (λ (same : i ≡ k). cc) (λ other. later (omega arith)) (cases_eq i k)

  one_more : (k n : ℕ) (o : Option A) → f k ≡ o → MatchOption (first f (suc k) n) (NoAnswer f (suc k) n) (FirstAt f (suc k) n) → MatchOption (or_else o (first f (suc k) n)) (NoAnswer f k (suc n)) (FirstAt f k (suc n))
  one_more k n None e h =
      cases_map (first f (suc k) n)
      (λ none i low high. on_from k e i low (λ l. none i l (omega arith)))
      (λ a at. record {
        at = at.at;
        from = omega (arith, at.from);
        within = omega (arith, at.within);
        here = at.here;
        before = λ i low high. on_from k e i low (λ l. at.before i l high);
      })
      h
  one_more k n (Some a) e h = record {
    at = k;
    from = omega arith;
    within = omega arith;
    here = e;
    before = λ i low high. absurd (omega arith);
  }

  pub first_tells : (k n : ℕ) → MatchOption (first f k n) (NoAnswer f k n) (FirstAt f k n)
  first_tells k zero = λ i low high. absurd (omega arith)
  first_tells k (suc n) = one_more k n (f k) refl (first_tells (suc k) n)

  module _ (k n : ℕ) where
    abbrev Tells : Option A → Type 0
    Tells r = MatchOption r (NoAnswer f k n) (FirstAt f k n)

    only : (r s : Option A) → Tells r → Tells s → r ≡ s
    only None None p q = refl
    only None (Some b) p q = cc (p q.at q.from q.within)
    only (Some a) None p q = cc (q p.at p.from p.within)
    only (Some a) (Some b) p q =
        ⊎_elim (λ (same : p.at ≡ q.at). cc)
        (⊎_elim (λ (less : p.at < q.at). cc (q.before p.at p.from less)) (λ (more : q.at < p.at). cc (p.before q.at q.from more)))
        (cases_order p.at q.at)

    pub first_only : (r : Option A) → Tells r → r ≡ first f k n
    first_only r p = only r (first f k n) p (first_tells k n)

  pub first_all_none : (k n : ℕ) → NoAnswer f k n → first f k n ≡ None
  first_all_none k n h = sym (first_only k n None h)

  pub all_none_first : (k n : ℕ) → first f k n ≡ None → NoAnswer f k n
  all_none_first k n e = rw e at (first_tells k n)

  or_else_assoc : (o p q : Option A) → or_else o (or_else p q) ≡ or_else (or_else o p) q
  or_else_assoc None p q = refl
  or_else_assoc (Some a) p q = refl

  -- the first answer over two ranges, one behind the other
  pub first_append : (k m n : ℕ) → first f k (m + n) ≡ or_else (first f k m) (first f (k + m) n)
  first_append k zero n = ap₂ (first f) (sym (add-zero k)) (zero-add n)
  first_append k (suc m) n =
      let more : suc m + n ≡ suc (m + n) = omega arith in
      let on : suc k + m ≡ k + suc m = omega arith in
      ap (first f k) more ∙ ap (or_else (f k)) (first_append (suc k) m n ∙ ap (λ i. or_else (first f (suc k) m) (first f i n)) on)
      ∙ or_else_assoc (f k) (first f (suc k) m) (first f (k + suc m) n)

  module _ (k n : ℕ) where
    -- the first answer is that of k or, where k has none, the first after it
    pub first_step : k < n → first f k (n - k) ≡ or_else (f k) (first f (k + 1) (n - (k + 1)))
    first_step h =
        let more : n - k ≡ suc (n - (k + 1)) = omega arith in
        ap (first f k) more ∙ ap (λ m. or_else (f k) (first f m (n - (k + 1)))) (sym (add-one k))

    pub first_skip : k < n → f k ≡ None → first f k (n - k) ≡ first f (k + 1) (n - (k + 1))
    first_skip h e = first_step h ∙ ap (λ o. or_else o (first f (k + 1) (n - (k + 1)))) e

    pub first_here : (a : A) → k < n → f k ≡ Some a → first f k (n - k) ≡ Some a
    first_here a h e = first_step h ∙ ap (λ o. or_else o (first f (k + 1) (n - (k + 1)))) e

    pub first_end : n ≤ k → first f k (n - k) ≡ None
    first_end h = let none : n - k ≡ 0 = omega arith in ap (first f k) none

pub first_answers : (A : Type 0) → FirstAnswers A
first_answers A f k n r = (λ e. rw e (first_tells f k n), first_only f k n r)
