-- The place with which too few rows are met is that of the first set that does not expand. Assumes nothing.
use Rattle.std.proofs.Common.{◌≡◌, ℕ, suc, ◌+◌, ◌-◌, ◌*◌, ◌<◌, ◌≤◌, Bool, not, ◌||◌, ltb, List, [], ◌∷◌, ◌++◌, length, get_or, Some, None, Option, sym, subst, refl, ap, ◌∙◌, ap₂, nat_lt, nat_le, IfSome, arith}
use Rattle.std.proofs.lemmas.List.{length-append}
use Rattle.std.proofs.lemmas.Bool.Decides.{nat_tests}
use Rattle.std.specs.List.{AllPass}
use Rattle.bitsets.specs.declared.sets.BitSet.{BitSet}
use Rattle.bitsets.specs.Bits.{count}
use Rattle.bitsets.specs.Sets.{has}
use Rattle.firsts.specs.First.{first_where, FirstPass, NonePass}
use Rattle.firsts.proofs.Passes.{where_tells}
use Rattle.graphs.specs.Models.{GraphModel, Valid}
use Rattle.expander.specs.Expansion.{meetings, expands, seen, FailsFirst}
use Rattle.expander.proofs.Surveys.{seen_all, seen_first}
use Rattle.surveys.specs.declared.tables.RowTable.{RowTable}
use Rattle.surveys.specs.Tables.{TableOf}
use Rattle.surveys.specs.Answers.{extended, Looked, short_at}
use Rattle.surveys.proofs.RowsMet.{joined-count, joined_more}
use Rattle.surveys.proofs.Searched.{one_length, one_at}

-- the first number that passes is one of those that are tested
pub where_bounds : (test : ℕ → Bool) (k n : ℕ) (r : Option ℕ) → r ≡ first_where test k n → IfSome r (λ p. (k ≤ p) × (p < k + n))
where_bounds test k n None e = tt
where_bounds test k n (Some p) e = let first : FirstPass test k n p = rw (← e) at (where_tells test k n) in (first.from, first.within)

more_not_few : (m n : ℕ) → nat_lt m n ≡ not (nat_le n m)
more_not_few m n = grind (arith, nat_tests)

module _ (g : GraphModel) (ok : Valid g) (t : RowTable) (table : TableOf g t) (V : List ℕ) (joined : BitSet) (looked : Looked g V joined) (bound : ℕ) (limit : bound ≡ 3 * t.degree * (length V + 1)) where
  -- a set with one more place expands if that place is not short
  short_tells : (p : ℕ) → p < g.places → expands g (V ++ p ∷ []) ≡ not (short_at t joined bound p)
  short_tells p l =
      let bits : ℕ → Bool = λ j. has joined j || has (get_or t.rows.items p joined) j in
      let more : (j : ℕ) → bits j ≡ ltb 0 (meetings g (V ++ p ∷ []) j) = joined_more g t table V p joined l joined bits looked (λ j. refl) in
      let size : length (V ++ p ∷ []) ≡ length V + 1 = length-append V (p ∷ []) in
      let least : 3 * g.degree * length (V ++ p ∷ []) ≡ bound = ap₂ (λ c k. 3 * c * k) (sym table.degree) size ∙ sym limit in
      ap₂ (λ m n. nat_lt m (4 * n)) least (sym (joined-count g ok (V ++ p ∷ []) bits more)) ∙ more_not_few bound (4 * count 512 bits)

  module _ (low rest : ℕ) (long : low + rest ≡ g.places) where
    -- set k expands if its last place is not short
    set_tells : (k : ℕ) (d : List ℕ) → k < rest → expands g (get_or (extended V low rest 1) k d) ≡ not (short_at t joined bound (low + k))
    set_tells k d l = ap (expands g) (one_at V low rest k d l) ∙ short_tells (low + k) (omega arith)

    pub none_short : None ≡ first_where (short_at t joined bound) low rest → seen (expands g) (extended V low rest 1) ≡ record { sets = rest; failing = [] }
    none_short e =
        let none : NonePass (short_at t joined bound) low rest = rw (← e) at (where_tells (short_at t joined bound) low rest) in
        let number = one_length V low rest in
        let pass : AllPass (expands g) (extended V low rest 1) = λ k d l. let inside : k < rest = omega (arith, number) in set_tells k d inside ∙ ap not (none (low + k) (omega arith) (omega arith)) in
        seen_all (expands g) (extended V low rest 1) pass ∙ ap (λ n. record { sets = n; failing = [] }) number

    pub first_is_short : (p : ℕ) → Some p ≡ first_where (short_at t joined bound) low rest → seen (expands g) (extended V low rest 1) ≡ record { sets = suc (p - low); failing = V ++ p ∷ [] }
    first_is_short p e =
        let first : FirstPass (short_at t joined bound) low rest p = rw (← e) at (where_tells (short_at t joined bound) low rest) in
        let number = one_length V low rest in
        let here : low + (p - low) ≡ p = omega (arith, first.from) in
        let inside : p - low < rest = omega (arith, first.within, first.from) in
        let fails : FailsFirst (expands g) (extended V low rest 1) (p - low) = record {
          within = omega arith;
          before = λ i l. set_tells i [] (omega arith) ∙ ap not (first.before (low + i) (omega arith) (omega arith));
          fails = set_tells (p - low) [] inside ∙ ap not (ap (short_at t joined bound) here ∙ first.here);
        } in
        seen_first (expands g) (extended V low rest 1) (p - low) fails
        ∙ ap (λ W. record { sets = suc (p - low); failing = W }) (one_at V low rest (p - low) [] inside ∙ ap (λ q. V ++ q ∷ []) here)

-- the bits of one more place, read from the table, joined to those of a set
pub looked_more : (g : GraphModel) (t : RowTable) → TableOf g t → (V W : List ℕ) (joined both row : BitSet) (place : ℕ) → place < length t.rows.items → W ≡ V ++ place ∷ []
    → row ≡ get_or t.rows.items place row → ((k : ℕ) → has both k ≡ (has joined k || has row k)) → Looked g V joined → Looked g W both
looked_more g t table V W joined both row place inside added read join looked =
    let inside' : place < g.places = omega (arith, table.places) in
    subst (λ X. Looked g X both) (sym added)
    (joined_more g t table V place row inside' joined (has both) looked (λ j. join j ∙ ap (λ b. has joined j || has b j) read))
