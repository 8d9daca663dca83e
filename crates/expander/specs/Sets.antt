-- Sets of places as ascending lists, all of them in order, and how many there are. Assumes nothing.
use Rattle.std.specs.Prelude.{◌≡◌, ℕ, zero, suc, ◌+◌, ◌<◌, ◌≤◌, ◌⊎◌, List, [], ◌∷◌, ◌++◌, map, length, ◌≢◌, slice_index_or}

-- the places of the list ascend, from low on and below n
abbrev pub Rising : ℕ → ℕ → List ℕ → Type 0
Rising low n [] = Unit {0}
Rising low n (p ∷ V) = (low ≤ p) × (p < n) × Rising (suc p) n V

-- A set of at least one and at most s of n places.
pub record SetUpTo (n s : ℕ) (V : List ℕ) : Type 0 where
  pub rising : Rising 0 n V
  pub some : 1 ≤ length V
  pub few : length V ≤ s

-- the sets of k places among the `rest` places from low on, in lexicographic order
unfoldable pub sets_from : ℕ → ℕ → ℕ → List (List ℕ)
sets_from low zero zero = [] ∷ []
sets_from low zero (suc k) = []
sets_from low (suc rest) zero = [] ∷ []
sets_from low (suc rest) (suc k) = map (λ V. low ∷ V) (sets_from (suc low) rest k) ++ sets_from (suc low) rest (suc k)

-- the sets of at least one and at most s of n places, smaller sets first
unfoldable pub sets_up_to : ℕ → ℕ → List (List ℕ)
sets_up_to n zero = []
sets_up_to n (suc s) = sets_up_to n s ++ sets_from 0 n (suc s)

-- the number of sets of k among n places
unfoldable pub choose : ℕ → ℕ → ℕ
choose zero zero = 1
choose zero (suc k) = 0
choose (suc n) zero = 1
choose (suc n) (suc k) = choose n k + choose n (suc k)

-- the number of sets of at least one and at most s among n places
unfoldable pub number_of_sets : ℕ → ℕ → ℕ
number_of_sets n zero = 0
number_of_sets n (suc s) = number_of_sets n s + choose n (suc s)

-- the lexicographic order of lists of one length
abbrev pub Lexicographic : List ℕ → List ℕ → Type 0
Lexicographic [] [] = ⊥
Lexicographic [] (q ∷ W) = ⊥
Lexicographic (p ∷ V) [] = ⊥
Lexicographic (p ∷ V) (q ∷ W) = (p < q) ⊎ ((p ≡ q) × Lexicographic V W)

-- V comes before W: it is smaller, or as large and before it in lexicographic order
abbrev pub Before : List ℕ → List ℕ → Type 0
Before V W = (length V < length W) ⊎ ((length V ≡ length W) × Lexicographic V W)

-- The list holds the sets of at most s of n places, each once, in order.
pub record AllInOrder (n s : ℕ) (sets : List (List ℕ)) : Type 0 where
  pub sound : (k : ℕ) → k < length sets → SetUpTo n s (slice_index_or sets k [])
  pub complete : (V : List ℕ) → SetUpTo n s V → (k : ℕ) × (k < length sets) × (slice_index_or sets k [] ≡ V)
  pub in_order : (i k : ℕ) → i < k → k < length sets → Before (slice_index_or sets i []) (slice_index_or sets k [])
  pub once : (i k : ℕ) → i < k → k < length sets → slice_index_or sets i [] ≢ slice_index_or sets k []
  pub number : length sets ≡ number_of_sets n s

abbrev pub SetsInOrder : Type 0
SetsInOrder = (n s : ℕ) → AllInOrder n s (sets_up_to n s)
