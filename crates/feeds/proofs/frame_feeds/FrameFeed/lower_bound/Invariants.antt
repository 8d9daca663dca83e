use Rattle.std.proofs.Common.{◌-◌, ◌<◌, ◌≤◌}
use Rattle.feeds.specs.Frames.{records, place_at}
use Rattle.feeds.proofs.frame_feeds.FrameFeed.lower_bound.Given as goal

abbrev pub invariant-loop-low : goal.invariant-loop-low
invariant-loop-low l =
    (l.low ≤ l.high) × (l.high ≤ records l.self.frame.now) × (0 < l.low → place_at l.self.frame.now (l.low - 1) < l.place)
    × (l.high < records l.self.frame.now → l.place ≤ place_at l.self.frame.now l.high)

abbrev pub decreases-loop-low : goal.decreases-loop-low
decreases-loop-low l = l.high - l.low
