use Rattle.std.proofs.Common.{◌-◌, arith}
use Rattle.feeds.proofs.Granting.{ascends}
use Rattle.feeds.proofs.frame_feeds.FrameFeed.lower_bound.Goals as goal

pub returns-clause-before : goal.returns-clause-before
returns-clause-before c = λ k below. let up = ascends c.args.self.now k (c.loop-low.low - 1) in grind arith

pub returns-clause-after : goal.returns-clause-after
returns-clause-after c = λ k above lt. let up = ascends c.args.self.now c.loop-low.low k in grind arith
