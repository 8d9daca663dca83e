-- The sets that extend a set by places above it, and what a search over one list and then another sees. Assumes nothing.
use Rattle.std.proofs.Common.{◌≡◌, ℕ, zero, suc, ◌+◌, ◌-◌, ◌<◌, ◌≤◌, Bool, true, false, List, [], ◌∷◌, ◌++◌, map, length, get_or, sym, refl, ap, ◌∙◌, ap₂, ⊎_elim, append_assoc, append-nil, zero-add, add_assoc, add-one, subst, nat_lt, arith}
use Rattle.std.specs.List.{All}
use Rattle.std.proofs.lemmas.List.{length-append, length-map, map-append}
use Rattle.std.proofs.lemmas.List.Elements.{All-nil, All-head, All-tail, All-append, All-map}
use Rattle.std.proofs.lemmas.Bool.{cases_Bool}
use Rattle.std.proofs.lemmas.Bool.Decides.{nat_tests}
use Rattle.expander.specs.Sets.{sets_from, choose}
use Rattle.expander.specs.Expansion.{Seen, seen}
use Rattle.expander.proofs.SetLists.{length_from}
use Rattle.expander.proofs.Surveys.{one_more, seen_next, seen_fail}
use Rattle.surveys.specs.Answers.{extended}

-- a set has a place
abbrev pub HasPlace : List ℕ → Type 0
HasPlace V = 1 ≤ length V

abbrev at_last : ℕ → List ℕ → Seen
at_last n V = record { sets = n; failing = V }

-- a set was found exactly where one has members
pub found_some : (found : Bool) (n : ℕ) → found ≡ nat_lt 0 n → found ≡ true → 1 ≤ n
found_some found n told h = grind (arith, nat_tests)

pub none_found : (found : Bool) (n : ℕ) → found ≡ nat_lt 0 n → found ≡ false → n ≡ 0
none_found found n told h = grind (arith, nat_tests)

-- k sets were looked at before
abbrev pub after : ℕ → Seen → Seen
after k r = record { sets = k + r.sets; failing = r.failing }

module _ (test : List ℕ → Bool) where
  -- a set that fails ends the search
  pub seen_stops : (Vs Ws : List (List ℕ)) → 1 ≤ length (seen test Vs).failing → seen test (Vs ++ Ws) ≡ seen test Vs
  unfolding seen
  seen_stops [] Ws h = absurd (omega arith)
  seen_stops (V ∷ Vs) Ws h =
      ⊎_elim
      (λ pass.
      let here = seen_next test V Vs pass in
      let later = seen_stops Vs Ws (omega (arith, ap (λ (r : Seen). length r.failing) here)) in
      seen_next test V (Vs ++ Ws) pass ∙ ap one_more later ∙ sym here)
      (λ fail. seen_fail test V (Vs ++ Ws) fail ∙ sym (seen_fail test V Vs fail))
      (cases_Bool (test V))

  -- where none fails, the search goes on
  pub seen_goes_on : (Vs Ws : List (List ℕ)) → All HasPlace Vs → length (seen test Vs).failing ≡ 0 → seen test (Vs ++ Ws) ≡ after (seen test Vs).sets (seen test Ws)
  unfolding seen
  seen_goes_on [] Ws some h = ap (λ n. at_last n (seen test Ws).failing) (sym (zero-add (seen test Ws).sets))
  seen_goes_on (V ∷ Vs) Ws some h =
      ⊎_elim
      (λ pass.
      let here = seen_next test V Vs pass in
      let later = seen_goes_on Vs Ws (All-tail HasPlace V Vs some) (omega (arith, ap (λ (r : Seen). length r.failing) here)) in
      let more : suc ((seen test Vs).sets + (seen test Ws).sets) ≡ suc (seen test Vs).sets + (seen test Ws).sets = omega arith in
      seen_next test V (Vs ++ Ws) pass ∙ ap one_more later ∙ ap (λ n. at_last n (seen test Ws).failing) more
      ∙ ap (λ (r : Seen). after r.sets (seen test Ws)) (sym here))
      (λ fail. absurd (omega (arith, All-head HasPlace V Vs some, ap (λ (r : Seen). length r.failing) (seen_fail test V Vs fail))))
      (cases_Bool (test V))

-- V before each set that begins with low
begun : (V : List ℕ) (low : ℕ) (Ws : List (List ℕ)) → map (λ W. V ++ W) (map (λ W. low ∷ W) Ws) ≡ map (λ W. (V ++ low ∷ []) ++ W) Ws
begun V low [] = refl
begun V low (W ∷ Ws) = ap₂ (λ x xs. x ∷ xs) (sym (append_assoc V (low ∷ []) W)) (begun V low Ws)

-- the sets that extend V by some of the places from low on: first those with low, then those without
pub extended_next : (V : List ℕ) (low rest k : ℕ) → extended V low (suc rest) (suc k) ≡ extended (V ++ low ∷ []) (suc low) rest k ++ extended V (suc low) rest (suc k)
unfolding sets_from
extended_next V low rest k =
    let with_low = sets_from (suc low) rest k in
    map-append (λ W. V ++ W) (map (λ W. low ∷ W) with_low) (sets_from (suc low) rest (suc k))
    ∙ ap (λ xs. xs ++ extended V (suc low) rest (suc k)) (begun V low with_low)

-- there are none where no place is left
pub extended_end : (V : List ℕ) (low k : ℕ) → extended V low 0 (suc k) ≡ []
unfolding sets_from
extended_end V low k = refl

-- the set alone, where no place is added
extended_none : (V : List ℕ) (low rest : ℕ) → extended V low rest 0 ≡ V ∷ []
unfolding sets_from
extended_none V low zero = ap (λ W. W ∷ []) (append-nil V)
extended_none V low (suc rest) = ap (λ W. W ∷ []) (append-nil V)

-- each of them has a place
from_some : (low rest k : ℕ) → All HasPlace (sets_from low rest (suc k))
unfolding sets_from
from_some low zero k = All-nil HasPlace
from_some low (suc rest) k =
    All-append HasPlace (map (λ V. low ∷ V) (sets_from (suc low) rest k)) (sets_from (suc low) rest (suc k))
    (All-map HasPlace (λ V. low ∷ V) (sets_from (suc low) rest k) (λ i d l. omega arith))
    (from_some (suc low) rest k)

pub extended_some : (V : List ℕ) (low rest k : ℕ) → All HasPlace (extended V low rest (suc k))
extended_some V low rest k =
    All-map HasPlace (λ W. V ++ W) (sets_from low rest (suc k)) (λ i d l. omega (arith, from_some low rest k i d l, length-append V (get_or (sets_from low rest (suc k)) i d)))

-- those with one more place: the first of them, and the others
one_next : (V : List ℕ) (low rest : ℕ) → extended V low (suc rest) 1 ≡ (V ++ low ∷ []) ∷ extended V (suc low) rest 1
one_next V low rest = extended_next V low rest 0 ∙ ap (λ xs. xs ++ extended V (suc low) rest 1) (extended_none (V ++ low ∷ []) (suc low) rest)

pub one_length : (V : List ℕ) (low rest : ℕ) → length (extended V low rest 1) ≡ rest
one_length V low zero = ap length (extended_end V low 0)
one_length V low (suc rest) = ap length (one_next V low rest) ∙ ap suc (one_length V (suc low) rest)

pub one_at : (V : List ℕ) (low rest k : ℕ) (d : List ℕ) → k < rest → get_or (extended V low rest 1) k d ≡ V ++ (low + k) ∷ []
one_at V low zero k d h = absurd (omega arith)
one_at V low (suc rest) zero d h = ap (λ xs. get_or xs 0 d) (one_next V low rest) ∙ ap (λ p. V ++ p ∷ []) (omega arith)
one_at V low (suc rest) (suc k) d h =
    ap (λ xs. get_or xs (suc k) d) (one_next V low rest) ∙ one_at V (suc low) rest k d (omega arith) ∙ ap (λ p. V ++ p ∷ []) (omega arith)

pub choose_one : (low rest : ℕ) → choose rest 1 ≡ rest
choose_one low rest = sym (length_from low rest 1) ∙ sym (length-map (sets_from low rest 1) (λ W. [] ++ W)) ∙ one_length [] low rest

-- what stands before a search that goes on
pub after-after : (m n : ℕ) (r : Seen) → after m (after n r) ≡ after (m + n) r
after-after m n r = ap (λ k. at_last k r.failing) (sym (add_assoc m n r.sets))

-- the sets with `more` places of which `place` is the next that may be added
module _ (place n more : ℕ) (inside : place < n) (some : 1 ≤ more) where
  abbrev later : ℕ
  later = n - (place + 1)

  left : n - place ≡ suc later
  left = omega arith

  more_one : more ≡ suc (more - 1)
  more_one = omega arith

  -- as many sets are left as there are with the place and without it
  pub choose_next : choose (n - place) more ≡ choose (n - (place + 1)) (more - 1) + choose (n - (place + 1)) more
  unfolding choose
  choose_next =
      let step : choose (suc later) (suc (more - 1)) ≡ choose later (more - 1) + choose later (suc (more - 1)) = refl in
      ap₂ choose left more_one ∙ step ∙ ap (λ k. choose later (more - 1) + choose later k) (sym more_one)

  module _ (test : List ℕ → Bool) (V : List ℕ) where
    abbrev pub with_place : List (List ℕ)
    with_place = extended (V ++ place ∷ []) (place + 1) (n - (place + 1)) (more - 1)

    abbrev pub without_place : List (List ℕ)
    without_place = extended V (place + 1) (n - (place + 1)) more

    both : extended V place (n - place) more ≡ with_place ++ without_place
    both =
        ap₂ (extended V place) left more_one ∙ extended_next V place later (more - 1)
        ∙ ap₂ (λ p k. extended (V ++ place ∷ []) p later (more - 1) ++ extended V p later k) (sym (add-one place)) (sym more_one)

    with_some : 2 ≤ more → All HasPlace with_place
    with_some two =
        let size : suc (more - 2) ≡ more - 1 = omega arith in
        subst (λ k. All HasPlace (extended (V ++ place ∷ []) (place + 1) later k)) size (extended_some (V ++ place ∷ []) (place + 1) later (more - 2))

    -- a set with the place fails
    pub stops_here : (s : Seen) → s ≡ seen test with_place → 1 ≤ length s.failing → seen test (extended V place (n - place) more) ≡ s
    stops_here s e found = ap (seen test) both ∙ seen_stops test with_place without_place (omega (arith, ap (λ (r : Seen). length r.failing) e)) ∙ sym e

    -- none with the place fails
    pub goes_past : 2 ≤ more → (s : Seen) → s ≡ seen test with_place → length s.failing ≡ 0 → seen test (extended V place (n - place) more) ≡ after s.sets (seen test without_place)
    goes_past two s e none =
        ap (seen test) both ∙ seen_goes_on test with_place without_place (with_some two) (omega (arith, ap (λ (r : Seen). length r.failing) e))
        ∙ ap (λ (r : Seen). after r.sets (seen test without_place)) (sym e)

-- where no place is left, no set is
pub none_left : (test : List ℕ → Bool) (V : List ℕ) (place n more : ℕ) → n ≤ place → 1 ≤ more → seen test (extended V place (n - place) more) ≡ record { sets = 0; failing = [] }
unfolding seen
none_left test V place n more past some =
    let least : more ≡ suc (more - 1) = omega arith in
    ap₂ (λ r k. seen test (extended V place r k)) {x = n - place} {y = 0} (omega arith) least ∙ ap (seen test) (extended_end V place (more - 1))
