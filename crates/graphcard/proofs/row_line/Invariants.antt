use Rattle.std.proofs.Common.{◌-◌}
use Rattle.graphcard.proofs.row_line.Given as goal

abbrev pub decreases-loop-meeting : goal.decreases-loop-meeting
decreases-loop-meeting g l = (g.G.Graph.model l.graph).places - l.from.0
