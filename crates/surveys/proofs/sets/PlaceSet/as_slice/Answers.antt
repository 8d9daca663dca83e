use Rattle.std.specs.List.{take-map}
use Rattle.surveys.proofs.sets.PlaceSet.as_slice.Goals as goal

pub returns : goal.returns
returns c = simp take-map
