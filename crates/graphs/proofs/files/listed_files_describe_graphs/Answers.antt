use Rattle.graphs.specs.ListedFiles.{listed_granted, listed_edges, listed_models}
use Rattle.graphs.proofs.files.listed_files_describe_graphs.Goals as goal

pub returns : goal.returns
returns c = record { granted = listed_granted; edges = listed_edges; models = listed_models }
