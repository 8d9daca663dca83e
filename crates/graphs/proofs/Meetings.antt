-- The question by row answers the nearest edge. Assumes nothing.
use Rattle.std.proofs.Common.{◌≡◌, ℕ, ◌-◌, ◌&&◌, eqb, ltb, Some, None, Option, sym, refl, ap, ◌∙◌, subst, arith}
use Rattle.std.specs.Option.{option_map}
use Rattle.std.proofs.lemmas.Bool.{and_parts, and_from, ltb-true, lt-ltb, eqb-true, eq-eqb}
use Rattle.std.proofs.lemmas.Option.{MatchOption-at_some, cond_some}
use Rattle.graphs.specs.declared.traits.Meeting.{Meeting}
use Rattle.firsts.proofs.Firsts.{some≢none, cases_map, first_tells, all_none_first}
use Rattle.graphs.specs.Models.{GraphModel, HasEdge, when, weight_to, weight_between, meeting, next_meeting, Nearest, NearestOrNone}

mapped_none : {A B : Type 0} (f : A → B) (o : Option A) → option_map f o ≡ None → o ≡ None
mapped_none f None h = refl
mapped_none f (Some a) h = absurd (some≢none (f a) h)

mapped_some : {A B : Type 0} (f : A → B) (o : Option A) (b : B) → option_map f o ≡ Some b → (a : A) × (o ≡ Some a) × (f a ≡ b)
mapped_some f None b h = absurd (some≢none b (sym h))
mapped_some f (Some a) b h = (a, refl, cc)

module _ (g : GraphModel) (j : ℕ) where
  pub found : (i w : ℕ) → weight_between g j i ≡ Some w → HasEdge g i j w
  found i w e =
      let at = MatchOption-at_some _ _ w e (first_tells (weight_to g j i) 0 g.degree) in
      let s = cond_some (ltb i g.places && eqb (g.row i at.at) j) (g.weight i at.at) w at.here in
      let t = and_parts (ltb i g.places) (eqb (g.row i at.at) j) s.0 in
      (ltb-true i g.places t.0, (at.at, omega (arith, at.within), eqb-true (g.row i at.at) j t.1, s.1))

  -- an edge between them shows in the weight
  pub shown : (i w : ℕ) → weight_between g j i ≡ None → HasEdge g i j w → ⊥
  shown i w e (hi, (k, hk, er, ew)) =
      let none = all_none_first (weight_to g j i) 0 g.degree e k (omega arith) (omega arith) in
      let t = and_from (ltb i g.places) (eqb (g.row i k) j) (lt-ltb i g.places hi) (eq-eqb (g.row i k) j er) in
      let some : weight_to g j i k ≡ Some (g.weight i k) = ap (λ b. when b (g.weight i k)) t in
      some≢none (g.weight i k) (sym some ∙ none)

  next_nearest : (p : ℕ) → NearestOrNone g j p (next_meeting g j p)
  next_nearest p =
      cases_map (next_meeting g j p)
      (λ none i w low e. let inside = e.0 in shown i w (mapped_none _ (weight_between g j i) (none i low (omega arith))) e)
      (λ m at.
      let s = mapped_some _ (weight_between g j at.at) m at.here in
      subst (Nearest g j p) s.2 (record {
        reached = at.from;
        edge = found at.at s.0 s.1;
        none_before = λ i w low high e. shown i w (mapped_none _ (weight_between g j i) (at.before i low high)) e;
      }))
      (first_tells (meeting g j) p (g.places - p))

  pub nearest : (p : ℕ) (r : Option Meeting) → r ≡ next_meeting g j p → NearestOrNone g j p r
  nearest p r e = subst (NearestOrNone g j p) (sym e) (next_nearest p)
