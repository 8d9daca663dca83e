-- An edge as a link over a field. Assumes nothing.
use Rattle.std.specs.Prelude.{ℕ, Some, None, Option}
use Rattle.std.specs.Option.{unwrap_or}
use Rattle.fields.specs.Models.{FieldModel, of_code}
use Rattle.graphs.specs.Models.{GraphModel, edge_at}
use Rattle.graphs.specs.declared.traits.Edge.{Edge}
use Rattle.words.specs.declared.links.Link.{Link}

-- the row of an edge and its weight as an element; zero stands for a weight that is no code, and for no edge
abbrev pub link_of_edge : {F : Type 0} → FieldModel F → Option Edge → Link F
link_of_edge f None = record { row = 0; weight = f.element 0 }
link_of_edge f (Some e) = record { row = e.row.0; weight = unwrap_or (of_code f e.weight) (f.element 0) }

-- edge k of place i
abbrev pub link_at : {F : Type 0} → FieldModel F → GraphModel → ℕ → ℕ → Link F
link_at f g i k = link_of_edge f (edge_at g i k)
