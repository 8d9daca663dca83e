-- The edges of all places, one place after another. Assumes nothing.
use Rattle.std.proofs.Common.{◌≡◌, ℕ, ◌+◌, ◌*◌, ◌/◌, ◌%◌, ◌<◌, ◌≤◌, Bool, true, false, List, length, map, get_or, sym, refl, ap, ap₂, ◌∙◌, subst, mod-lt, arith}
use Rattle.std.proofs.Math.Arith.{digits_lt, digits_div, digits_mod}
use Rattle.std.proofs.lemmas.Bool.Decides.{nat_tests, same_from_decides}
use Rattle.std.proofs.lemmas.List.FromFn.{length-range_with_len, get_or-range_with_len, length-map-range_with_len, get_or-map-range_with_len}
use Rattle.std.proofs.lemmas.Nat.{div_below}
use Rattle.std.specs.Bool.{MatchBool}
use Rattle.std.specs.List.{range_with_len, AllWithin, HoldsAt}
use Rattle.fields.specs.Models.{FieldModel}
use Rattle.graphs.specs.Models.{GraphModel}
use Rattle.expander.specs.Words.{WeightsFit}
use Rattle.expander.specs.Accounts.{weights_fit}
use Rattle.expander.proofs.Lawfulness.{weights_decide}
use Rattle.words.specs.declared.links.Link.{Link}
use Rattle.words.specs.EdgeLinks.{link_at}
use Rattle.words.specs.Tables.{Linked}

module _ {F : Type 0} (f : FieldModel F) (g : GraphModel) where
  row_here : (i k : ℕ) → i < g.places → k < g.degree → (link_at f g i k).row ≡ g.row i k
  row_here i k hi hk = grind (arith, nat_tests)

  weight_here : (i k : ℕ) → i < g.places → k < g.degree → g.weight i k < f.size → (link_at f g i k).weight ≡ f.element (g.weight i k)
  weight_here i k hi hk fit = grind (arith, nat_tests)

  -- the link that stands at a position
  abbrev pub link_in_turn : ℕ → Link F
  link_in_turn at = link_at f g (at / g.degree) (at % g.degree)

  -- the links in their turn hold edge k of place i at i × degree + k
  in_turn : (i k : ℕ) (d : Link F) → i < g.places → k < g.degree → get_or (map link_in_turn (range_with_len 0 (g.places * g.degree))) (i * g.degree + k) d ≡ link_at f g i k
  in_turn i k d hi hk =
      let at = i * g.degree + k in
      get_or-map-range_with_len link_in_turn 0 (g.places * g.degree) at at d (digits_lt hi hk) (omega arith) ∙ ap₂ (link_at f g) (digits_div i hk) (digits_mod i hk)

  pub linked : (links : List (Link F)) → links ≡ map link_in_turn (range_with_len 0 (g.places * g.degree)) → Linked f g links
  linked links e = subst (Linked f g) (sym e) (record {
    long = length-map-range_with_len link_in_turn 0 (g.places * g.degree);
    rows = λ i k d hi hk. ap (λ (l : Link F). l.row) (in_turn i k d hi hk) ∙ row_here i k hi hk;
    weights = λ fit i k d hi hk. ap (λ (l : Link F). l.weight) (in_turn i k d hi hk) ∙ weight_here i k hi hk (fit i k hi hk);
  })

  -- the weight at a position is a code of the field, and is none
  abbrev pub FitsAt : ℕ → Type 0
  FitsAt at = g.weight (at / g.degree) (at % g.degree) < f.size

  abbrev pub UnfitAt : ℕ → Type 0
  UnfitAt at = f.size ≤ g.weight (at / g.degree) (at % g.degree)

  -- the positions of the edges of all places
  abbrev positions : List ℕ
  positions = range_with_len 0 (g.places * g.degree)

  position : (at : ℕ) → at < length positions → get_or positions at 0 ≡ at
  position at low = omega (arith, get_or-range_with_len 0 (g.places * g.degree) at 0 (omega (arith, length-range_with_len 0 (g.places * g.degree))))

  fits_in_turn : WeightsFit f g → 1 ≤ g.degree → (at : ℕ) → at < length positions → FitsAt at
  fits_in_turn fit some at low =
      let inside : at < g.places * g.degree = omega (arith, length-range_with_len 0 (g.places * g.degree)) in
      fit (at / g.degree) (at % g.degree) (div_below at g.degree g.places some inside) (mod-lt at some)

  fits_by_place : ((at : ℕ) → at < length positions → FitsAt at) → WeightsFit f g
  fits_by_place fit i k hi hk =
      let inside : i * g.degree + k < g.places * g.degree = digits_lt hi hk in
      subst (λ x. x < f.size) (ap₂ g.weight (digits_div i hk) (digits_mod i hk)) (fit (i * g.degree + k) (omega (arith, length-range_with_len 0 (g.places * g.degree))))

  -- whether every position fits, or one does not, is the test of all weights
  pub fits_told : (r : Bool) → 1 ≤ g.degree → MatchBool r (AllWithin FitsAt positions 0 (length positions)) ((at : ℕ) × (at < length positions) × HoldsAt UnfitAt positions at) → r ≡ weights_fit f g
  fits_told true some all =
      same_from_decides true (weights_fit f g)
      (λ t. fits_by_place (λ at low. subst FitsAt (position at low) (all at 0 (omega arith) low)), λ fit. refl) (weights_decide f g)
  fits_told false some (at, low, unfit) =
      let above : UnfitAt at = subst UnfitAt (position at low) (unfit 0) in
      same_from_decides false (weights_fit f g) (λ t. cc, λ fit. absurd (omega (arith, fits_in_turn fit some at low))) (weights_decide f g)
