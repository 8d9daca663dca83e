-- The members of the joined row bits of a set of places are the rows that the set meets. Assumes nothing.
use Rattle.std.proofs.Common.{◌≡◌, ℕ, zero, suc, ◌+◌, ◌-◌, ◌<◌, ◌≤◌, Bool, true, false, cond, ◌||◌, ltb, List, [], ◌∷◌, ◌++◌, get_or, sym, refl, ap, ◌∙◌, ap₂, ⊎_elim, arith}
use Rattle.std.proofs.lemmas.Bool.{false_from_ne_true, ltb-true, cases_lt}
use Rattle.std.proofs.lemmas.Bool.Decides.{nat_tests}
use Rattle.bitsets.specs.declared.sets.BitSet.{BitSet}
use Rattle.bitsets.specs.Bits.{count}
use Rattle.bitsets.specs.Sets.{has}
use Rattle.bitsets.proofs.Counts.{count_same, count_add}
use Rattle.graphs.specs.Models.{GraphModel, Valid}
use Rattle.expander.specs.Words.{meets}
use Rattle.expander.specs.Expansion.{meetings, rows_met}
use Rattle.expander.proofs.Edges.{edge_of}
use Rattle.surveys.specs.declared.tables.RowTable.{RowTable}
use Rattle.surveys.specs.Tables.{TableOf}

-- no number passes a test that fails at each
count_none : (n : ℕ) (p : ℕ → Bool) → ((k : ℕ) → k < n → p k ≡ false) → count n p ≡ 0
unfolding count
count_none zero p h = refl
count_none (suc n) p h = let last = h n (omega arith) in let rest = count_none n p (λ k l. h k (omega arith)) in cc

-- of n numbers only those below m pass
count_below : (m n : ℕ) (p : ℕ → Bool) → m ≤ n → ((k : ℕ) → p k ≡ true → k < m) → count n p ≡ count m p
count_below m n p l low =
    let none = count_none (n - m) (λ k. p (m + k)) (λ k h. false_from_ne_true (p (m + k)) (λ t. absurd (omega (arith, low (m + k) t)))) in
    let whole : m + (n - m) ≡ n = omega arith in
    omega (arith, count_add m (n - m) p, none, ap (λ k. count k p) whole)

-- a row met by a place or by others
met_or : (b : Bool) (m : ℕ) → ltb 0 (m + (cond b 1 0 + 0)) ≡ (ltb 0 m || b)
met_or b m = grind (arith, nat_tests)

module _ (g : GraphModel) where
  -- a row meets two sets together as often as each of them
  pub meetings-append : (V W : List ℕ) (j : ℕ) → meetings g (V ++ W) j ≡ meetings g V j + meetings g W j
  unfolding meetings
  meetings-append [] W j = omega arith
  meetings-append (p ∷ V) W j = omega (arith, meetings-append V W j)

  module _ (ok : Valid g) where
    -- what meets a place is a row
    meets_below : (j p : ℕ) → meets g j p ≡ true → j < g.rows
    meets_below j p h =
        let (w, e, (hp, (k, hk, er, ew))) = edge_of g j p h in
        omega (arith, ok.row_below p k hp hk)

    -- what meets a set is a row
    pub meetings_below : (V : List ℕ) (j : ℕ) → 0 < meetings g V j → j < g.rows
    unfolding meetings
    meetings_below [] j h = absurd (omega arith)
    meetings_below (p ∷ V) j h =
        ⊎_elim
        (λ (later : 0 < meetings g V j). meetings_below V j later)
        (λ (none : meetings g V j ≤ 0). meets_below j p (grind (arith, nat_tests)))
        (cases_lt 0 (meetings g V j))

    -- the joined bits of a set's places count the rows that the set meets
    pub joined-count : (V : List ℕ) (joined : ℕ → Bool) → ((j : ℕ) → joined j ≡ ltb 0 (meetings g V j)) → count 512 joined ≡ rows_met g V
    joined-count V joined h =
        count_below g.rows 512 joined ok.sizes.few_rows (λ j t. meetings_below V j (ltb-true 0 (meetings g V j) (sym (h j) ∙ t)))
        ∙ count_same g.rows _ _ (λ j l. h j)

  -- the bits of one more place, joined to those of a set
  pub joined_more : (t : RowTable) → TableOf g t → (V : List ℕ) (p : ℕ) (d : BitSet) → p < g.places → (joined : BitSet) (more : ℕ → Bool)
      → ((j : ℕ) → has joined j ≡ ltb 0 (meetings g V j))
      → ((j : ℕ) → more j ≡ (has joined j || has (get_or t.rows.items p d) j))
      → (j : ℕ) → more j ≡ ltb 0 (meetings g (V ++ p ∷ []) j)
  unfolding meetings
  joined_more t table V p d l joined more known join j =
      join j ∙ ap₂ ◌||◌ (known j) (table.rows p j d l) ∙ sym (ap (ltb 0) (meetings-append V (p ∷ []) j) ∙ met_or (meets g j p) (meetings g V j))
