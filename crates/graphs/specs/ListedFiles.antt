-- The listed file: its faults, the graph that it means, and the edges of that graph. Assumes nothing.
use Rattle.std.specs.Prelude.{◌≡◌, ℕ, ◌+◌, ◌*◌, ◌/◌, ◌%◌, ◌<◌, ◌≤◌, false, ◌↔◌, List, length, is_some, None, Option, refl}
use Rattle.std.proofs.Common.{sym, ap, subst, ◌∙◌, inl, ⊎_elim, mul-one, div-one, arith}
use Rattle.std.proofs.Math.Path.{transport}
use Rattle.std.proofs.Math.Nat.{mod-one}
use Rattle.refusals.specs.Numbers.{u16_at}
use Rattle.refusals.specs.declared.faults.Fault.{Fault}
use Rattle.graphs.specs.declared.records.Form.TheVariants.{Listed}
use Rattle.graphs.specs.declared.records.Shape.{Shape}
use Rattle.graphs.specs.Models.{GraphModel, Sizes, Valid, HasEdge}
use Rattle.graphs.specs.Files.{Octets, entry_of, record_of, row_of, file_fault, file_model, Describes, FileEdge}
use Rattle.graphs.specs.FileLaws.{describes_from, describes_to, valid_granted, edge_in_file, edge_of_file}

-- n places, m rows, degree c: a lift of size 1
abbrev pub listed_shape : ℕ → ℕ → ℕ → Shape
listed_shape n m c = record { form = Listed; bases = m; columns = n; lift = 1; degree = c; single = refl }

-- what is wrong with a listed file, if anything
abbrev pub listed_fault : List ℕ → ℕ → ℕ → ℕ → Option Fault
listed_fault bytes n m c = file_fault bytes (listed_shape n m c)

-- the place, the row and the weight of record k
abbrev pub place_at : List ℕ → ℕ → ℕ
place_at bytes k = u16_at bytes (6 * k)

abbrev pub row_at : List ℕ → ℕ → ℕ
row_at bytes k = u16_at bytes (6 * k + 2)

abbrev pub weight_at : List ℕ → ℕ → ℕ
weight_at bytes k = u16_at bytes (6 * k + 4)

-- edge k of place i is record i × c + k
abbrev pub listed_model : List ℕ → ℕ → ℕ → ℕ → GraphModel
listed_model bytes n m c = record {
  places = n;
  rows = m;
  degree = c;
  row = λ i k. row_at bytes (i * c + k);
  weight = λ i k. weight_at bytes (i * c + k);
}

-- The bytes describe a graph with n places, m rows and degree c.
pub record DescribesListed (bytes : List ℕ) (n m c : ℕ) : Type 0 where
  pub sizes : Sizes n m c
  pub long : length bytes ≡ 6 * (n * c)
  pub place : (k : ℕ) → k < n * c → place_at bytes k ≡ k / c
  pub ascend : (i j k : ℕ) → i < n → j < k → k < c → row_at bytes (i * c + j) < row_at bytes (i * c + k)
  pub row : (k : ℕ) → k < n * c → row_at bytes k < m
  pub weight : (k : ℕ) → k < n * c → 1 ≤ weight_at bytes k

-- a record has place i, row j and weight w
abbrev pub ListedEdge : List ℕ → ℕ → ℕ → ℕ → ℕ → ℕ → Type 0
ListedEdge bytes n c i j w = (r : ℕ) × (r < n * c) × (place_at bytes r ≡ i) × (row_at bytes r ≡ j) × (weight_at bytes r ≡ w)

-- a listed file has no fault exactly when it describes a graph
abbrev pub ListedGranted : Type 0
ListedGranted = (bytes : List ℕ) (n m c : ℕ) → (listed_fault bytes n m c ≡ None) ↔ DescribesListed bytes n m c

-- and then the edges of its graph are those that the records list
abbrev pub ListedEdges : Type 0
ListedEdges = (bytes : List ℕ) (n m c : ℕ) → DescribesListed bytes n m c → (i j w : ℕ) → HasEdge (listed_model bytes n m c) i j w ↔ ListedEdge bytes n c i j w

-- and the graph of its shape is the one whose edge k of place i is record i × c + k
abbrev pub ListedModels : Type 0
ListedModels = (bytes : List ℕ) (n m c : ℕ) → file_model bytes (listed_shape n m c) ≡ listed_model bytes n m c

module _ (bytes : List ℕ) (n m c : ℕ) where
  same_sizes : Sizes (n * 1) (m * 1) c ≡ Sizes n m c
  same_sizes = λ p. Sizes (mul-one n p) (mul-one m p) c

  listed_from : Describes bytes (listed_shape n m c) → DescribesListed bytes n m c
  listed_from d = record {
    sizes = transport same_sizes d.sizes;
    long = d.long;
    place = d.column;
    ascend = λ i j k hi hj hk. ⊎_elim (λ h. h) (λ h. absurd (omega arith)) (d.ascend i j k hi hj hk);
    row = d.base;
    weight = d.weight;
  }

  listed_to : DescribesListed bytes n m c → Describes bytes (listed_shape n m c)
  listed_to d = record {
    sizes = transport (sym same_sizes) d.sizes;
    long = d.long;
    column = d.place;
    ascend = λ i j k hi hj hk. inl (d.ascend i j k hi hj hk);
    base = d.row;
    shift = λ k h. omega arith;
    weight = d.weight;
  }

  abbrev as_lift : GraphModel
  as_lift = file_model bytes (listed_shape n m c)

  record_is : (i k : ℕ) → record_of (listed_shape n m c) i k ≡ i * c + k
  record_is i k = ap (λ x. x * c + k) (div-one i)

  row_is : (i k : ℕ) → as_lift.row i k ≡ row_at bytes (i * c + k)
  row_is i k =
      let none = mod-one (i % 1 + 0) in
      ap (λ r. row_of (listed_shape n m c) (entry_of Listed bytes r) (i % 1)) (record_is i k) ∙ omega arith

  same_model : as_lift ≡ listed_model bytes n m c
  same_model = λ p. record {
    places = mul-one n p;
    rows = mul-one m p;
    degree = c;
    row = λ i k. row_is i k p;
    weight = λ i k. weight_at bytes (record_is i k p);
  }

  plain : (i j w : ℕ) → FileEdge bytes (listed_shape n m c) i j w → ListedEdge bytes n c i j w
  plain i j w (r, t, hr, ht, ei, ej, ew) = (r, hr, omega arith, omega arith, ew)

  lifted : (i j w : ℕ) → ListedEdge bytes n c i j w → FileEdge bytes (listed_shape n m c) i j w
  lifted i j w (r, hr, ei, ej, ew) = (r, 0, hr, omega arith, omega arith, omega arith, ew)

  edges_of : DescribesListed bytes n m c → (i j w : ℕ) → HasEdge (listed_model bytes n m c) i j w ↔ ListedEdge bytes n c i j w
  edges_of d i j w =
      let f = listed_to d in (
        λ h. plain i j w (edge_in_file bytes (listed_shape n m c) f i j w (subst (λ g. HasEdge g i j w) (sym same_model) h)),
        λ h. subst (λ g. HasEdge g i j w) same_model (edge_of_file bytes (listed_shape n m c) f i j w (lifted i j w h)),
      )

pub listed_granted : ListedGranted
listed_granted bytes n m c = (
  λ none. listed_from bytes n m c (describes_from bytes (listed_shape n m c) none),
  λ d. describes_to bytes (listed_shape n m c) (listed_to bytes n m c d),
)

pub listed_edges : ListedEdges
listed_edges bytes n m c d = edges_of bytes n m c d

pub listed_models : ListedModels
listed_models = same_model

pub valid_listed : (bytes : List ℕ) (n m c : ℕ) → Octets bytes → is_some (listed_fault bytes n m c) ≡ false → Valid (listed_model bytes n m c)
valid_listed bytes n m c o none = subst Valid (listed_models bytes n m c) (valid_granted bytes (listed_shape n m c) o none)
