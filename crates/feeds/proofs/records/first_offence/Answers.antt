use Rattle.std.proofs.Common.{rules, of_calls, ◌≡◌, ℕ, ◌-◌, ◌<◌, length, Bool, not, [], ap, ◌∙◌, arith}
use Rattle.std.proofs.lemmas.Bool.Decides.{nat_tests}
use Rattle.feeds.specs.Frames.{records, in_order}
use Rattle.firsts.specs.First.{first_where}
use Rattle.firsts.proofs.Ranges.{first_where_by_find}
use Rattle.feeds.proofs.records.first_offence.Goals as goal

pub returns : goal.returns
returns c =
    let offends : ℕ → Bool = λ k. not (in_order c.args.frame.now c.args.places k) in
    let many : length c.records-records.result.now - 0 ≡ records c.args.frame.now = omega arith in
    first_where_by_find _ _ offends _ _ (λ x q k. search (rules, of_calls)) (λ x b q low high k.
    let inside : x < records c.args.frame.now = omega arith in
    let here = c.records-records.ensures.places x [] inside in
    let last = c.records-records.ensures.places (x - 1) [] (omega arith) in
    grind (arith, nat_tests))
    c.find.result c.find.ensures.ran ∙ ap (first_where offends 0) many
