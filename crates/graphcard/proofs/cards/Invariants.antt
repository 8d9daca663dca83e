use Rattle.std.proofs.Common.{length}
use Rattle.graphcard.proofs.cards.Given as goal

abbrev pub decreases-loop-first : goal.decreases-loop-first
decreases-loop-first l = length l.words
