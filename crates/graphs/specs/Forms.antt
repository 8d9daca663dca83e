-- The lift sizes of the two forms of graph file. Assumes nothing.
use Rattle.std.specs.Prelude.{ℕ, Bool, true, ◌==◌}
use Rattle.graphs.specs.declared.records.Form.{Form}
use Rattle.graphs.specs.declared.records.Form.TheVariants.{Listed, Lift}

-- a listed file is a lift of size 1
abbrev pub lift_fits : Form → ℕ → Bool
lift_fits Listed l = l == 1
lift_fits Lift l = true
