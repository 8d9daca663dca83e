-- At most one element has a majority at a place, and rank and change are read off it. Assumes nothing.
use Rattle.std.proofs.Common.{◌≡◌, ℕ, ◌+◌, ◌*◌, ◌<◌, ◌≤◌, ◌↔◌, Bool, true, ◌&&◌, ltb, Some, None, Option, sym, refl, ap, ◌∙◌, subst, ⊎_elim, arith, MatchOption}
use Rattle.std.proofs.lemmas.Bool.{true_from_ne_false, and_parts, ltb-true, lt-ltb, cases_lt}
use Rattle.std.proofs.lemmas.Option.{cond_some}
use Rattle.firsts.specs.First.{first}
use Rattle.firsts.proofs.Firsts.{cases_map, first_tells}
use Rattle.bitsets.specs.Bits.{count}
use Rattle.fields.specs.Models.{FieldModel}
use Rattle.graphs.specs.Models.{GraphModel, Valid}
use Rattle.expander.specs.Words.{meets, same, is_open}
use Rattle.expander.specs.Votes.{proposal, proposes, votes, Majority, voted, majority, votes_of, rank, Ranked, Unranked, offers, or_zero, RankFixed, RanksAreFixed}
use Rattle.expander.proofs.Sums.{bit, bit-and, count-sum, count_le, count_pair, sum_same, counted}
use Rattle.expander.proofs.FieldLaws.{same_true, true_same}
use Rattle.expander.proofs.Edges.{edge_of, degree_counts, rows_of_place, coefficient_edge}

module _ {F : Type 0} (f : FieldModel F) (g : GraphModel) (w : ℕ → F) (i : ℕ) where
  pub proposed : (d : F) (j : ℕ) → proposes f g w i d j ≡ true → (meets g j i ≡ true) × (is_open f g w j ≡ true) × (proposal f g w j i ≡ d)
  proposed d j h =
      let a = and_parts (meets g j i) (is_open f g w j && same f (proposal f g w j i) d) h in
      let b = and_parts (is_open f g w j) (same f (proposal f g w j i) d) a.1 in
      (a.0, b.0, same_true f (proposal f g w j i) d b.1)

  -- who has a majority is proposed by the row of some edge
  by_edge : (d : F) → Majority f g w i d → (k : ℕ) × (k < g.degree) × (proposal f g w (g.row i k) i ≡ d)
  by_edge d most =
      let c = counted g.rows (proposes f g w i d) (omega arith) in
      let p = proposed d c.0 c.2 in
      let (k, hk, er, ew) = (edge_of g c.0 i p.0).2.1 in
      (k, hk, ap (λ j. proposal f g w j i) er ∙ p.2)

  pub majority_tells : MatchOption (majority f g w i) (Unranked f g w i) (Majority f g w i)
  unfolding majority
  majority_tells =
      cases_map (first (voted f g w i) 0 g.degree)
      (λ none d. ⊎_elim
      (λ (most : g.degree < 2 * votes f g w i d).
      let e = by_edge d most in
      let here : voted f g w i e.0 ≡ Some d = rw (e.2, lt-ltb g.degree (2 * votes f g w i d) most) in
      cc (none e.0 (omega arith) (omega (arith, e.1))))
      (λ few. few)
      (cases_lt g.degree (2 * votes f g w i d)))
      (λ d at.
      let k = at.at in
      let s = cond_some (ltb g.degree (2 * votes f g w i (proposal f g w (g.row i k) i))) (proposal f g w (g.row i k) i) d at.here in
      subst (Majority f g w i) s.1 (ltb-true g.degree _ s.0))
      (first_tells (voted f g w i) 0 g.degree)

  module _ (ok : Valid g) (hi : i < g.places) where
    -- different elements share the rows of a place
    shared : (d e : F) → (d ≡ e → ⊥) → votes f g w i d + votes f g w i e ≤ g.degree
    shared d e apart =
        let both = count_pair g.rows (proposes f g w i d) (proposes f g w i e) (λ j. meets g j i)
        (λ j l. (λ t. (proposed d j t).0, λ u. (proposed e j u).0, λ t u. apart (sym (proposed d j t).2 ∙ (proposed e j u).2))) in
        omega (arith, degree_counts g ok i hi, both)

    pub one_majority : (d e : F) → Majority f g w i d → Majority f g w i e → d ≡ e
    one_majority d e p q = same_true f d e (true_from_ne_false (same f d e) (λ t. omega (arith, shared d e (λ z. cc (t, true_same f d e z)))))

    pub few_votes : (d : F) → votes f g w i d ≤ g.degree
    few_votes d = omega (arith, degree_counts g ok i hi, count_le g.rows (proposes f g w i d) (λ j. meets g j i) (λ j l t. (proposed d j t).0))

    -- the law of rank and change, read off what has the majority
    fixed : (o : Option F) → MatchOption o (Unranked f g w i) (Majority f g w i) → (v : ℕ) (d : F)
        → Ranked f g w i v d ↔ ((0 < v) × (votes_of f g w i o ≡ v) × (or_zero f o ≡ d))
    fixed None none v d = (λ r. absurd (omega (arith, none d, r.by, r.most)), λ h. absurd (omega (arith, h.0, h.1)))
    fixed (Some e) most v d = (
      λ r.
          let one = one_majority e d most (omega (arith, r.by, r.most)) in
          (omega (arith, r.most), ap (votes f g w i) one ∙ r.by, one),
      λ h. record { by = ap (votes f g w i) (sym h.2) ∙ h.1; most = omega (arith, h.1, most) },
    )

    none_fixed : (o : Option F) → MatchOption o (Unranked f g w i) (Majority f g w i) → Unranked f g w i ↔ (votes_of f g w i o ≡ 0)
    none_fixed None none = (λ h. refl, λ h. none)
    none_fixed (Some e) most = (λ h. absurd (omega (arith, h e, most)), λ h. absurd (omega (arith, h, most)))

    low_votes : (o : Option F) → votes_of f g w i o ≤ g.degree
    low_votes None = omega arith
    low_votes (Some d) = few_votes d

    by_edges : (d : F) → votes f g w i d ≡ count g.degree (offers f g w i d)
    by_edges d =
        let agrees : ℕ → Bool = λ j. is_open f g w j && same f (proposal f g w j i) d in
        count-sum g.rows (proposes f g w i d) ∙ sum_same g.rows _ _ (λ j l. bit-and (meets g j i) (agrees j)) ∙ rows_of_place g ok i (λ j. bit (agrees j)) hi
        ∙ sum_same g.degree _ _ (λ k hk. rw (coefficient_edge f g ok i k hi hk, proposal))
        ∙ sym (count-sum g.degree (offers f g w i d))

    pub rank_fixed : RankFixed f g w i
    rank_fixed = record {
      ranked = fixed (majority f g w i) majority_tells;
      unranked = none_fixed (majority f g w i) majority_tells;
      single = one_majority;
      low = low_votes (majority f g w i);
      by_edges = by_edges;
    }

    -- where an element has a majority, the rank is above 0
    pub majority_ranks : (d : F) → Majority f g w i d → 0 < rank f g w i
    majority_ranks d most =
        let r = (rank_fixed.ranked (votes f g w i d) d).0 (record { by = refl; most = most }) in
        omega (arith, r.0, r.1)

pub ranks_are_fixed_lem : (F : Type 0) → RanksAreFixed F
ranks_are_fixed_lem F f g ok w i hi = rank_fixed f g w i ok hi
