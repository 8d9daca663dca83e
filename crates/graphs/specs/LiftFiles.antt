-- The lift: its faults, the graph that it means, and the edges of that graph. Assumes nothing.
use Rattle.std.specs.Prelude.{◌≡◌, ℕ, false, ◌↔◌, List, is_some, None, Option, refl}
use Rattle.refusals.specs.declared.faults.Fault.{Fault}
use Rattle.graphs.specs.declared.records.Form.TheVariants.{Lift}
use Rattle.graphs.specs.declared.records.Shape.{Shape}
use Rattle.graphs.specs.Models.{GraphModel, Valid, HasEdge}
use Rattle.graphs.specs.Files.{Octets, file_fault, file_model, Describes, FileEdge}
use Rattle.graphs.specs.FileLaws.{describes_from, describes_to, valid_granted, edge_in_file, edge_of_file}

-- a base rows, b base columns, lift size l, degree c
abbrev pub lift_shape : ℕ → ℕ → ℕ → ℕ → Shape
lift_shape a b l c = record { form = Lift; bases = a; columns = b; lift = l; degree = c; single = refl }

-- what is wrong with a lift, if anything
abbrev pub lift_fault : List ℕ → ℕ → ℕ → ℕ → ℕ → Option Fault
lift_fault bytes a b l c = file_fault bytes (lift_shape a b l c)

abbrev pub lift_model : List ℕ → ℕ → ℕ → ℕ → ℕ → GraphModel
lift_model bytes a b l c = file_model bytes (lift_shape a b l c)

-- the bytes describe a lift with these numbers
abbrev pub DescribesLift : List ℕ → ℕ → ℕ → ℕ → ℕ → Type 0
DescribesLift bytes a b l c = Describes bytes (lift_shape a b l c)

-- a record means an edge of weight w from place i to row j
abbrev pub LiftEdge : List ℕ → ℕ → ℕ → ℕ → ℕ → ℕ → ℕ → ℕ → Type 0
LiftEdge bytes a b l c i j w = FileEdge bytes (lift_shape a b l c) i j w

-- a lift has no fault exactly when it describes a graph
abbrev pub LiftGranted : Type 0
LiftGranted = (bytes : List ℕ) (a b l c : ℕ) → (lift_fault bytes a b l c ≡ None) ↔ DescribesLift bytes a b l c

-- and then the edges of its graph are those that the records mean
abbrev pub LiftEdges : Type 0
LiftEdges = (bytes : List ℕ) (a b l c : ℕ) → DescribesLift bytes a b l c → (i j w : ℕ) → HasEdge (lift_model bytes a b l c) i j w ↔ LiftEdge bytes a b l c i j w

-- and the graph of its shape is the lift's
abbrev pub LiftModels : Type 0
LiftModels = (bytes : List ℕ) (a b l c : ℕ) → file_model bytes (lift_shape a b l c) ≡ lift_model bytes a b l c

pub valid_lift : (bytes : List ℕ) (a b l c : ℕ) → Octets bytes → is_some (lift_fault bytes a b l c) ≡ false → Valid (lift_model bytes a b l c)
valid_lift bytes a b l c o none = valid_granted bytes (lift_shape a b l c) o none

pub lift_granted : LiftGranted
lift_granted bytes a b l c = (describes_from bytes (lift_shape a b l c), describes_to bytes (lift_shape a b l c))

pub lift_edges : LiftEdges
lift_edges bytes a b l c d i j w = (edge_in_file bytes (lift_shape a b l c) d i j w, edge_of_file bytes (lift_shape a b l c) d i j w)

pub lift_models : LiftModels
lift_models bytes a b l c = refl
