use Rattle.std.proofs.Common.{rules, of_calls, ◌≡◌, ◌<◌, ◌≤◌, List, ℕ, length, get_or, [], arith}
use Rattle.refusals.specs.Numbers.{u16_at}
use Rattle.feeds.proofs.Granting.{ascends}
use Rattle.feeds.proofs.Codes.{code_found, code_missing}
use Rattle.feeds.proofs.frame_feeds.FrameFeed.code_of.Goals as goal

pub returns-in-Some : goal.returns-in-Some
returns-in-Some c =
    let k = c.lower_bound-k.result in
    let rows : List (List ℕ) = c.records.result.now in
    let read : (k < length rows) × (c.in-Some.record.place ≡ u16_at (get_or rows k []) 0) × (c.in-Some.record.code ≡ u16_at (get_or rows k []) 2) = search (rules, of_calls) in
    let found = code_found c.args.self.now.frame.now c.args.place k (ascends c.args.self.now) in
    grind (arith, c.records.ensures.places k [], c.records.ensures.codes k [])

pub returns-in_default : goal.returns-in_default
returns-in_default c =
    let k = c.lower_bound-k.result in
    let rows : List (List ℕ) = c.records.result.now in
    let read : c.in-Some.record.place ≡ u16_at (get_or rows k []) 0 = search (rules, of_calls) in
    let missing = code_missing c.args.self.now.frame.now c.args.place k (ascends c.args.self.now) c.lower_bound-k.ensures.before c.lower_bound-k.ensures.after in
    grind (arith, c.records.ensures.places k [])

pub returns-in_default-2 : goal.returns-in_default-2
returns-in_default-2 c =
    let k = c.lower_bound-k.result in
    let end : length c.records.result.now ≤ k = search (rules, of_calls) in
    let missing = code_missing c.args.self.now.frame.now c.args.place k (ascends c.args.self.now) c.lower_bound-k.ensures.before c.lower_bound-k.ensures.after in
    grind arith
