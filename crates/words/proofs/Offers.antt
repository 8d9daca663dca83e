-- The first vote that an edge of a place brings is the place's rank and change. Assumes nothing.
use Rattle.std.proofs.Common.{◌≡◌, ℕ, ◌*◌, ◌<◌, ⊎_elim, true, nat_lt, Some, None, Option, MatchOption, IfSome, refl, sym, ap, ◌∙◌, subst, arith}
use Rattle.std.proofs.lemmas.Bool.{cases_lt, lt-ltb, ltb-true, and_parts}
use Rattle.std.proofs.lemmas.Option.{cond_some}
use Rattle.firsts.specs.First.{first, FirstAt, NoAnswer}
use Rattle.firsts.proofs.Firsts.{cases_map, first_tells, some≢none}
use Rattle.fields.specs.Models.{FieldModel}
use Rattle.graphs.specs.Models.{GraphModel, Valid}
use Rattle.expander.specs.Words.{same, is_open, row_sum}
use Rattle.expander.specs.Votes.{offers, votes, rank, change, Ranked, Unranked}
use Rattle.expander.proofs.Sums.{counted}
use Rattle.expander.proofs.FieldLaws.{same_true}
use Rattle.expander.proofs.Majorities.{rank_fixed}
use Rattle.words.specs.declared.votes.Vote.{Vote}
use Rattle.words.specs.Offers.{offer, offered, vote_for, vote_of}

module _ {F : Type 0} (f : FieldModel F) (g : GraphModel) (w : ℕ → F) (i : ℕ) where
  -- an edge that is counted for d proposes d
  offer_is : (d : F) (k : ℕ) → offers f g w i d k ≡ true → offer f g w i k ≡ Some d
  offer_is d k h =
      let x : F = f.times (f.negated (row_sum f g w (g.row i k))) (f.inverse (f.element (g.weight i k))) in
      let s = and_parts (is_open f g w (g.row i k)) (same f x d) h in
      let e : x ≡ d = same_true f x d s.1 in
      rw s.0 (ap (λ (y : F). Some y) e)

  -- a vote is for what more than half of the edges propose
  voted_for : (o : Option F) (v : Vote F) → vote_for f g w i o ≡ Some v → (offered f g w i v.change ≡ v.rank) × (g.degree < 2 * v.rank)
  voted_for None v h = absurd (some≢none v (sym h))
  voted_for (Some d) v h =
      let s = cond_some (nat_lt g.degree (2 * offered f g w i d)) (record { rank = offered f g w i d; change = d }) v h in
      (subst (λ (u : Vote F). offered f g w i u.change ≡ u.rank) s.1 refl, subst (λ (u : Vote F). g.degree < 2 * u.rank) s.1 (ltb-true g.degree _ s.0))

  module _ (ok : Valid g) (hi : i < g.places) where
    vote_ranks : (v : Vote F) → FirstAt (vote_of f g w i) 0 g.degree v → Ranked f g w i v.rank v.change
    vote_ranks v at =
        let p = voted_for (offer f g w i at.at) v at.here in
        record { by = (rank_fixed f g w i ok hi).by_edges v.change ∙ p.0; most = p.1 }

    unranked : NoAnswer (vote_of f g w i) 0 g.degree → Unranked f g w i
    unranked none d =
        ⊎_elim
        (λ (most : g.degree < 2 * votes f g w i d).
        let same : votes f g w i d ≡ offered f g w i d = (rank_fixed f g w i ok hi).by_edges d in
        let c = counted g.degree (offers f g w i d) (omega (arith, same)) in
        let here : vote_of f g w i c.0 ≡ Some (record { rank = offered f g w i d; change = d }) = rw (offer_is d c.0 c.2, lt-ltb g.degree (2 * offered f g w i d) (omega (arith, same, most))) in
        absurd (some≢none _ (sym here ∙ none c.0 (omega arith) (omega (arith, c.1)))))
        (λ few. few)
        (cases_lt g.degree (2 * votes f g w i d))

    -- a vote tells the rank and the change
    told : (v : Vote F) → FirstAt (vote_of f g w i) 0 g.degree v → (0 < v.rank) × (rank f g w i ≡ v.rank) × (change f g w i ≡ v.change)
    told v at = ((rank_fixed f g w i ok hi).ranked v.rank v.change).0 (vote_ranks v at)

    module _ (r : Option (Vote F)) (e : r ≡ first (vote_of f g w i) 0 g.degree) where
      tells : MatchOption r (NoAnswer (vote_of f g w i) 0 g.degree) (FirstAt (vote_of f g w i) 0 g.degree)
      tells = rw e (first_tells (vote_of f g w i) 0 g.degree)

      -- what the first vote tells of the rank
      pub first_vote_ranks : MatchOption r (rank f g w i ≡ 0) (λ v. v.rank ≡ rank f g w i)
      first_vote_ranks = cases_map r (λ none. (rank_fixed f g w i ok hi).unranked.0 (unranked none)) (λ v at. sym (told v at).1) tells

      -- and of the change
      pub first_vote_changes : IfSome r (λ v. v.change ≡ change f g w i)
      first_vote_changes = cases_map r (λ none. tt) (λ v at. sym (told v at).2) tells
