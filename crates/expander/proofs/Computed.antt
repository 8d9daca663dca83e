-- The worked examples are computed. Assumes nothing.
use Rattle.std.proofs.Common.{◌≡◌, ℕ, ◌-◌, ◌<◌, true, ◌||◌, eqb, leb, List, [], ◌∷◌, refl, ap, ◌∙◌, subst, ⊎_elim, arith, lit<}
use Rattle.std.proofs.lemmas.Bool.{or_cases, leb-true, eqb-true}
use Rattle.bitsets.specs.Bits.{count}
use Rattle.firsts.specs.First.{first_where}
use Rattle.fields.specs.Checked.{passes, passed}
use Rattle.fields.specs.Elements.{element}
use Rattle.fields.specs.Models.{FieldModel}
use Rattle.fields.specs.Fields.{bits}
use Rattle.graphs.specs.Models.{GraphModel}
use Rattle.expander.specs.Words.{total, symbols}
use Rattle.expander.specs.Votes.{majority, rank, changed}
use Rattle.expander.specs.Sets.{sets_from, sets_up_to, choose, number_of_sets}
use Rattle.expander.specs.Expansion.{meetings, seen}
use Rattle.expander.specs.Accounts.{Picked, after_picks}
use Rattle.expander.specs.Repairs.{lowest_picks}
use Rattle.expander.specs.Examples.{seven, word, EndsIfFirst, Examples}

-- where q alone has a rank, and no place has one after its change, every repair makes that change and ends
module _ {F : Type 0} (f : FieldModel F) (g : GraphModel) (w : List F) (q : ℕ) (inside : q < g.places) (some : 0 < rank f g (symbols f w) q)
    (alone : passes (λ p. leb (rank f g (symbols f w) p) 0 || eqb p q) g.places ≡ true)
    (done : passes (λ p. leb (rank f g (symbols f (changed f g w q)) p) 0) g.places ≡ true) where
  is_alone : (p : ℕ) → p < g.places → 0 < rank f g (symbols f w) p → p ≡ q
  is_alone p l h =
      ⊎_elim (λ none. absurd (omega (arith, h, leb-true (rank f g (symbols f w) p) 0 none))) (eqb-true p q)
      (or_cases (leb (rank f g (symbols f w) p) 0) (eqb p q) (passed (λ a. leb (rank f g (symbols f w) a) 0 || eqb a q) g.places alone p l))

  is_done : (p : ℕ) → p < g.places → rank f g (symbols f (changed f g w q)) p ≡ 0
  is_done p l =
      let none = leb-true (rank f g (symbols f (changed f g w q)) p) 0 (passed (λ a. leb (rank f g (symbols f (changed f g w q)) a) 0) g.places done p l) in
      omega (arith, none)

  ends : (budget : ℕ) (picks : List ℕ) → Picked f g budget (changed f g w q) picks → after_picks f g (changed f g w q) picks ≡ changed f g w q
  ends budget [] h = refl
  ends budget (p ∷ picks) h = absurd (omega (arith, h.2, is_done p h.1))

  legal : (budget : ℕ) → 0 < budget → Picked f g budget w (q ∷ [])
  legal budget lasts = (lasts, inside, some, λ left p l. is_done p l)

  one_change : (budget : ℕ) (picks : List ℕ) → 0 < budget → Picked f g budget w picks → after_picks f g w picks ≡ changed f g w q
  one_change budget [] lasts h = absurd (omega (arith, some, h lasts q inside))
  one_change budget (p ∷ picks) lasts h =
      let same = is_alone p h.1 h.2 in
      ap (λ a. after_picks f g (changed f g w a) picks) same ∙ ends (budget - 1) picks (subst (λ a. Picked f g (budget - 1) (changed f g w a) picks) same h.3)

-- a repair that may pick p first, then q alone, and then nothing
two_changes : (start end : List ℕ) (p q : ℕ)
    → let w = changed bits seven (word start) p in
    p < 7 → 0 < rank bits seven (symbols bits (word start)) p → q < 7 → 0 < rank bits seven (symbols bits w) q
    → passes (λ a. leb (rank bits seven (symbols bits w) a) 0 || eqb a q) 7 ≡ true → passes (λ a. leb (rank bits seven (symbols bits (changed bits seven w q)) a) 0) 7 ≡ true
    → changed bits seven w q ≡ word end → EndsIfFirst start p end
two_changes start end p q hp first hq second alone done is =
    let w = changed bits seven (word start) p in
    record {
      some = λ budget enough. (q ∷ [], (omega arith, hp, first, legal bits seven w q hq second alone done (budget - 1) (omega arith)));
      all = λ budget picks enough h. one_change bits seven w q hq second alone done (budget - 1) picks (omega arith) h.3 ∙ is;
    }

pub examples_compute_lem : Examples
unfolding count total majority seen meetings sets_up_to sets_from number_of_sets choose lowest_picks first_where passes element
examples_compute_lem = record {
  survey_2 = refl;
  survey_3 = refl;
  survey_two = refl;
  sets_of_4 = refl;
  codeword = refl;
  ranked = refl;
  first_0 = two_changes (1 ∷ 0 ∷ 1 ∷ 1 ∷ 0 ∷ 1 ∷ 0 ∷ []) (0 ∷ 1 ∷ 1 ∷ 1 ∷ 0 ∷ 1 ∷ 0 ∷ []) 0 1 (lit< tt) (lit< tt) (lit< tt) (lit< tt) refl refl refl;
  first_2 = two_changes (1 ∷ 0 ∷ 1 ∷ 1 ∷ 0 ∷ 1 ∷ 0 ∷ []) (1 ∷ 0 ∷ 0 ∷ 1 ∷ 1 ∷ 1 ∷ 0 ∷ []) 2 4 (lit< tt) (lit< tt) (lit< tt) (lit< tt) refl refl refl;
  stuck = refl;
  spent = refl;
  story = refl;
  refusals = record {
    lengths = refl;
    codes = refl;
    weights = refl;
    sizes = refl;
    many_sets = refl;
    overwrites = refl;
    last_overwrite = refl;
    open_row = refl;
    lists = refl;
    listed = refl;
    recent_overwrite = refl;
    digits = refl;
  };
}
