use Rattle.graphs.specs.LiftFiles.{lift_granted, lift_edges, lift_models}
use Rattle.graphs.proofs.files.lifts_describe_graphs.Goals as goal

pub returns : goal.returns
returns c = record { granted = lift_granted; edges = lift_edges; models = lift_models }
