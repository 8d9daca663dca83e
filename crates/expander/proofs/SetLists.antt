-- The list of the sets of at most s places holds each of them once, in order, and how long it is. Assumes nothing.
use Rattle.std.proofs.Common.{◌≡◌, ℕ, zero, suc, ◌+◌, ◌<◌, ◌≤◌, List, [], ◌∷◌, ◌++◌, map, length, get_or, sym, refl, ap, ◌∙◌, subst, ap₂, inl, inr, ⊎_elim, arith}
use Rattle.std.specs.List.{All, AllPairs, Contains}
use Rattle.std.proofs.lemmas.List.Elements.{All-nil, All-cons, All-head, All-tail, All-append, All-map, Contains-append_left, Contains-append_right, at_from_Contains}
use Rattle.std.proofs.lemmas.List.Kept.{AllPairs-cons}
use Rattle.std.proofs.lemmas.List.{length-append, length-map, get_or-map}
use Rattle.std.proofs.lemmas.Bool.{cases_lt}
use Rattle.expander.specs.Sets.{Rising, SetUpTo, sets_from, sets_up_to, choose, number_of_sets, Lexicographic, Before, SetsInOrder}

-- lists in order, joined, and mapped by what keeps the order
module _ {X : Type 0} (R : X → X → Type 0) where
  pub AllPairs-append : (xs ys : List X) → AllPairs R xs → AllPairs R ys → All (λ x. All (R x) ys) xs → AllPairs R (xs ++ ys)
  AllPairs-append [] ys p q h = q
  AllPairs-append (x ∷ xs) ys p q h =
      AllPairs-cons R x (xs ++ ys)
      (All-append (R x) xs ys (λ k d l. p 0 (suc k) d (omega arith) (omega arith)) (All-head (λ y. All (R y) ys) x xs h))
      (AllPairs-append xs ys (λ i k d l b. p (suc i) (suc k) d (omega arith) (omega arith)) q (All-tail (λ y. All (R y) ys) x xs h))

  pub AllPairs-map : (f : X → X) → ((x y : X) → R x y → R (f x) (f y)) → (xs : List X) → AllPairs R xs → AllPairs R (map f xs)
  AllPairs-map f keeps xs p i k d l b =
      let inside : k < length xs = omega (arith, length-map xs f) in
      rw (get_or-map f xs i d d (omega arith), get_or-map f xs k d d inside) (keeps (get_or xs i d) (get_or xs k d) (p i k d l inside))

-- what f makes of an element of the list is in the mapped list
pub Contains-map : {X Y : Type 0} (f : X → Y) (xs : List X) (x : X) → Contains xs x → Contains (map f xs) (f x)
Contains-map f xs x h = (h.0, omega (arith, length-map xs f, h.1), get_or-map f xs h.0 x (f x) h.1 ∙ ap f h.2)

-- places that ascend from low on ascend from anything lower on
pub rising_lower : (low' low n : ℕ) (V : List ℕ) → low' ≤ low → Rising low n V → Rising low' n V
rising_lower low' low n [] l h = tt
rising_lower low' low n (p ∷ V) l h = (omega arith, h.1, h.2)

-- places that ascend below n ascend below anything higher
pub rising_higher : (low n n' : ℕ) (V : List ℕ) → n ≤ n' → Rising low n V → Rising low n' V
rising_higher low n n' [] l h = tt
rising_higher low n n' (p ∷ V) l h = (h.0, omega arith, rising_higher (suc p) n n' V l h.2)

-- A set of k places from low on and below n.
pub record SetOf (low n k : ℕ) (V : List ℕ) : Type 0 where
  pub size : length V ≡ k
  pub rising : Rising low n V

-- low and a set above it
pub set_with : (low n k : ℕ) (V : List ℕ) → low < n → SetOf (suc low) n k V → SetOf low n (suc k) (low ∷ V)
set_with low n k V l h = record { size = ap suc h.size; rising = (omega arith, l, h.rising) }

pub set_lower : (low n k : ℕ) (V : List ℕ) → SetOf (suc low) n k V → SetOf low n k V
set_lower low n k V h = record { size = h.size; rising = rising_lower low (suc low) n V (omega arith) h.rising }

-- the bound on the size is any that holds
pub resized : (n s t : ℕ) (V : List ℕ) → length V ≤ t → SetUpTo n s V → SetUpTo n t V
resized n s t V l h = record { rising = h.rising; some = h.some; few = l }

-- the order stays where both sets get the same first place
pub before_cons : (p : ℕ) (V W : List ℕ) → Before V W → Before (p ∷ V) (p ∷ W)
before_cons p V W (inl l) = inl (omega arith)
before_cons p V W (inr h) = inr (ap suc h.0, inr (refl, h.1))

-- a set that begins with low comes before one as large from above low
lowest_first : (low n k : ℕ) (V W : List ℕ) → length V ≡ k → SetOf (suc low) n (suc k) W → Before (low ∷ V) W
lowest_first low n k V [] e h = absurd (omega arith)
lowest_first low n k V (q ∷ W) e h = inr (omega arith, inl (omega arith))

not_lexicographic : (V : List ℕ) → Lexicographic V V → ⊥
not_lexicographic [] h = h
not_lexicographic (p ∷ V) (inl l) = omega arith
not_lexicographic (p ∷ V) (inr h) = not_lexicographic V h.1

-- no set comes before itself
pub not_before : (V : List ℕ) → Before V V → ⊥
not_before V (inl l) = omega arith
not_before V (inr h) = not_lexicographic V h.1

-- there are as many sets as are chosen
pub length_from : (low rest k : ℕ) → length (sets_from low rest k) ≡ choose rest k
unfolding sets_from choose
length_from low zero zero = refl
length_from low zero (suc k) = refl
length_from low (suc rest) zero = refl
length_from low (suc rest) (suc k) = simp (length-append, length-map) (ap₂ (λ m n. m + n) (length_from (suc low) rest k) (length_from (suc low) rest (suc k)))

module _ (low rest k : ℕ) where
  -- the sets of one more than k places that begin with low, and those that begin above it
  abbrev beginning : List (List ℕ)
  beginning = map (λ V. low ∷ V) (sets_from (suc low) rest k)

  abbrev above : List (List ℕ)
  above = sets_from (suc low) rest (suc k)

-- the empty set is the one set of no places
empty_sound : (low n : ℕ) → All (SetOf low n 0) ([] ∷ [])
empty_sound low n = All-cons (SetOf low n 0) [] [] (record { size = refl; rising = tt }) (All-nil (SetOf low n 0))

-- every list that sets-from holds is a set
pub from_sound : (low rest n k : ℕ) → low + rest ≡ n → All (SetOf low n k) (sets_from low rest k)
unfolding sets_from
from_sound low zero n zero e = empty_sound low n
from_sound low zero n (suc k) e = All-nil (SetOf low n (suc k))
from_sound low (suc rest) n zero e = empty_sound low n
from_sound low (suc rest) n (suc k) e =
    All-append (SetOf low n (suc k)) (beginning low rest k) (above low rest k)
    (All-map (SetOf low n (suc k)) (λ V. low ∷ V) (sets_from (suc low) rest k)
    (λ i d l. set_with low n k _ (omega arith) (from_sound (suc low) rest n k (omega arith) i d l)))
    (λ i d l. set_lower low n (suc k) _ (from_sound (suc low) rest n (suc k) (omega arith) i d l))

-- sets-from holds every set
pub from_complete : (low rest n k : ℕ) (V : List ℕ) → low + rest ≡ n → SetOf low n k V → Contains (sets_from low rest k) V
unfolding sets_from
from_complete low zero n zero [] e h = (0, omega arith, refl)
from_complete low zero n zero (p ∷ V) e h = absurd (omega arith)
from_complete low zero n (suc k) [] e h = absurd (omega arith)
from_complete low zero n (suc k) (p ∷ V) e h = absurd (omega arith)
from_complete low (suc rest) n zero [] e h = (0, omega arith, refl)
from_complete low (suc rest) n zero (p ∷ V) e h = absurd (omega arith)
from_complete low (suc rest) n (suc k) [] e h = absurd (omega arith)
from_complete low (suc rest) n (suc k) (p ∷ V) e h =
    ⊎_elim
    (λ higher.
    let set : SetOf (suc low) n (suc k) (p ∷ V) = record { size = h.size; rising = (higher, h.rising.1, h.rising.2) } in
    Contains-append_right (beginning low rest k) (above low rest k) (p ∷ V) (from_complete (suc low) rest n (suc k) (p ∷ V) (omega arith) set))
    (λ here.
    let same : low ≡ p = omega arith in
    let others : SetOf (suc low) n k V = record { size = omega arith; rising = subst (λ x. Rising (suc x) n V) (sym same) h.rising.2 } in
    let begins = Contains-map (λ W. low ∷ W) (sets_from (suc low) rest k) V (from_complete (suc low) rest n k V (omega arith) others) in
    Contains-append_left (beginning low rest k) (above low rest k) (p ∷ V) (subst (λ x. Contains (beginning low rest k) (x ∷ V)) same begins))
    (cases_lt low p)

-- a set that begins with low comes before all that begin above it
before_above : (low rest n k : ℕ) (V : List ℕ) → low + suc rest ≡ n → SetOf (suc low) n k V → All (Before (low ∷ V)) (above low rest k)
before_above low rest n k V e h i d l = lowest_first low n k V _ h.size (from_sound (suc low) rest n (suc k) (omega arith) i d l)

-- sets-from holds the sets in order
pub from_ordered : (low rest n k : ℕ) → low + rest ≡ n → AllPairs Before (sets_from low rest k)
unfolding sets_from
from_ordered low zero n zero e = λ i j d l b. absurd (omega arith)
from_ordered low zero n (suc k) e = λ i j d l b. absurd (omega arith)
from_ordered low (suc rest) n zero e = λ i j d l b. absurd (omega arith)
from_ordered low (suc rest) n (suc k) e =
    AllPairs-append Before (beginning low rest k) (above low rest k)
    (AllPairs-map Before (λ V. low ∷ V) (before_cons low) (sets_from (suc low) rest k) (from_ordered (suc low) rest n k (omega arith)))
    (from_ordered (suc low) rest n (suc k) (omega arith))
    (All-map (λ V. All (Before V) (above low rest k)) (λ V. low ∷ V) (sets_from (suc low) rest k)
    (λ i d l. before_above low rest n k _ e (from_sound (suc low) rest n k (omega arith) i d l)))

module _ (n : ℕ) where
  pub length-up-to : (s : ℕ) → length (sets_up_to n s) ≡ number_of_sets n s
  unfolding sets_up_to number_of_sets
  length-up-to zero = refl
  length-up-to (suc s) = length-append (sets_up_to n s) (sets_from 0 n (suc s)) ∙ ap₂ (λ m k. m + k) (length-up-to s) (length_from 0 n (suc s))

  -- the sets of k places
  abbrev sized : ℕ → List (List ℕ)
  sized k = sets_from 0 n k

  sized_sound : (k : ℕ) → All (SetOf 0 n k) (sized k)
  sized_sound k = from_sound 0 n n k (omega arith)

  -- every list that sets-up-to holds is a set
  pub up_to_sound : (s : ℕ) → All (SetUpTo n s) (sets_up_to n s)
  unfolding sets_up_to
  up_to_sound zero = All-nil (SetUpTo n 0)
  up_to_sound (suc s) =
      All-append (SetUpTo n (suc s)) (sets_up_to n s) (sized (suc s))
      (λ i d l. let h = up_to_sound s i d l in resized n s (suc s) _ (omega (arith, h.few)) h)
      (λ i d l. let h = sized_sound (suc s) i d l in record { rising = h.rising; some = omega (arith, h.size); few = omega (arith, h.size) })

  -- sets-up-to holds every set
  pub up_to_complete : (s : ℕ) (V : List ℕ) → SetUpTo n s V → Contains (sets_up_to n s) V
  unfolding sets_up_to
  up_to_complete zero V h = absurd (omega arith)
  up_to_complete (suc s) V h =
      ⊎_elim
      (λ fewer. Contains-append_left (sets_up_to n s) (sized (suc s)) V (up_to_complete s V (resized n (suc s) s V (omega arith) h)))
      (λ full. Contains-append_right (sets_up_to n s) (sized (suc s)) V (from_complete 0 n n (suc s) V (omega arith) (record { size = omega arith; rising = h.rising })))
      (cases_lt (length V) (suc s))

  -- sets-up-to holds the sets in order
  pub up_to_ordered : (s : ℕ) → AllPairs Before (sets_up_to n s)
  unfolding sets_up_to
  up_to_ordered zero = λ i k d l b. absurd (omega arith)
  up_to_ordered (suc s) =
      AllPairs-append Before (sets_up_to n s) (sized (suc s)) (up_to_ordered s) (from_ordered 0 n n (suc s) (omega arith))
      (λ i d l k e b. inl (omega (arith, (up_to_sound s i d l).few, (sized_sound (suc s) k e b).size)))

-- every set of at most s places stands once in the list, in order
pub sets_in_order : SetsInOrder
sets_in_order n s =
    let ordered = λ (i k : ℕ). up_to_ordered n s i k [] in
    record {
      sound = λ k l. up_to_sound n s k [] l;
      complete = λ V h. let at = at_from_Contains (sets_up_to n s) V (up_to_complete n s V h) in (at.0, at.1, at.2 []);
      in_order = ordered;
      once = λ i k l h e. not_before (get_or (sets_up_to n s) k []) (subst (λ V. Before V (get_or (sets_up_to n s) k [])) e (ordered i k l h));
      number = length-up-to n s;
    }
