use Rattle.std.proofs.Common.{rules, of_calls, ◌≡◌, ◌-◌, ◌<◌, length, ap, ◌∙◌, arith}
use Rattle.firsts.specs.First.{first_where}
use Rattle.firsts.proofs.Ranges.{first_where_by_find}
use Rattle.surveys.specs.Answers.{short_at}
use Rattle.surveys.proofs.searches.first_short.Goals as goal

pub returns-clause-first : goal.returns-clause-first
returns-clause-first c =
    let short = short_at c.args.table.now c.args.joined c.args.bound in
    let many : c.len.result - c.args.low ≡ length c.args.table.now.rows.items - c.args.low = omega arith in
    first_where_by_find _ _ short _ _ (λ x q k. search (rules, of_calls)) (λ x b q low high k.
    let inside : x < length c.args.table.now.rows.items = omega arith in
    search (rules, of_calls))
    c.find.result c.find.ensures.ran ∙ ap (first_where short c.args.low) many
