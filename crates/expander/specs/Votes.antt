-- What open rows propose to a place, the place's rank and its change. Assumes nothing.
use Rattle.std.specs.Prelude.{◌≡◌, ℕ, ◌*◌, ◌<◌, ◌≤◌, Bool, ◌&&◌, ◌↔◌, List, Some, None, Option, nat_lt, slice_set}
use Rattle.bitsets.specs.Bits.{count}
use Rattle.firsts.specs.First.{first}
use Rattle.fields.specs.Models.{FieldModel}
use Rattle.graphs.specs.Models.{GraphModel, Valid, when}
use Rattle.expander.specs.Words.{meets, same, coefficient, row_sum, is_open, symbols}

module _ {F : Type 0} (f : FieldModel F) (g : GraphModel) (w : ℕ → F) where
  -- what row j proposes to place i: the negated row sum times the inverse of the weight
  abbrev pub proposal : ℕ → ℕ → F
  proposal j i = f.times (f.negated (row_sum f g w j)) (f.inverse (coefficient f g j i))

  -- row j is open, meets place i and proposes the element d to it
  abbrev pub proposes : ℕ → F → ℕ → Bool
  proposes i d j = meets g j i && (is_open f g w j && same f (proposal j i) d)

  -- how many rows propose d to place i
  abbrev pub votes : ℕ → F → ℕ
  votes i d = count g.rows (proposes i d)

  -- more than half of the rows of place i propose d
  abbrev pub Majority : ℕ → F → Type 0
  Majority i d = g.degree < 2 * votes i d

  -- what edge k of place i brings, if a majority proposes it
  abbrev pub voted : ℕ → ℕ → Option F
  voted i k = when (nat_lt g.degree (2 * votes i (proposal (g.row i k) i))) (proposal (g.row i k) i)

  -- the element that a majority proposes to place i
  unfoldable pub majority : ℕ → Option F
  majority i = first (voted i) 0 g.degree

  -- the votes for what is voted for, 0 if nothing is
  abbrev pub votes_of : ℕ → Option F → ℕ
  votes_of i None = 0
  votes_of i (Some d) = votes i d

  abbrev pub rank : ℕ → ℕ
  rank i = votes_of i (majority i)

  -- Place i has the rank v and the change d: v of its rows propose d, and these are a majority.
  pub record Ranked (i v : ℕ) (d : F) : Type 0 where
    pub by : votes i d ≡ v
    pub most : g.degree < 2 * v

  -- no element has a majority at place i
  abbrev pub Unranked : ℕ → Type 0
  Unranked i = (d : F) → 2 * votes i d ≤ g.degree

  -- edge k of place i leads to an open row that proposes d, by the weight of the edge
  abbrev pub offers : ℕ → F → ℕ → Bool
  offers i d k =
      let j = g.row i k in
      is_open f g w j && same f (f.times (f.negated (row_sum f g w j)) (f.inverse (f.element (g.weight i k)))) d

  -- every place has rank 0
  abbrev pub AllZero : Type 0
  AllZero = (i : ℕ) → i < g.places → rank i ≡ 0

-- an element, or zero where there is none
abbrev pub or_zero : {F : Type 0} → FieldModel F → Option F → F
or_zero f None = f.element 0
or_zero f (Some d) = d

module _ {F : Type 0} (f : FieldModel F) (g : GraphModel) where
  -- the change of place i
  abbrev pub change : (ℕ → F) → ℕ → F
  change w i = or_zero f (majority f g w i)

  -- the word after the change of place i
  abbrev pub changed : List F → ℕ → List F
  changed w i = slice_set w i (f.plus (symbols f w i) (change (symbols f w) i))

-- Rank and change of place i are the ones that the rows' proposals fix, the rank is at most c, and the votes are those of the edges of i.
pub record RankFixed {F : Type 0} (f : FieldModel F) (g : GraphModel) (w : ℕ → F) (i : ℕ) : Type 0 where
  pub ranked : (v : ℕ) (d : F) → Ranked f g w i v d ↔ ((0 < v) × (rank f g w i ≡ v) × (change f g w i ≡ d))
  pub unranked : Unranked f g w i ↔ (rank f g w i ≡ 0)
  pub single : (d e : F) → Majority f g w i d → Majority f g w i e → d ≡ e
  pub low : rank f g w i ≤ g.degree
  pub by_edges : (d : F) → votes f g w i d ≡ count g.degree (offers f g w i d)

abbrev pub RanksAreFixed : Type 0 → Type 0
RanksAreFixed F = (f : FieldModel F) (g : GraphModel) → Valid g → (w : ℕ → F) (i : ℕ) → i < g.places → RankFixed f g w i
