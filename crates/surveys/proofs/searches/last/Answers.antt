use Rattle.std.proofs.Common.{◌≡◌, ℕ, ◌+◌, ◌-◌, ◌*◌, List, length, sym, ap, ap₂, ◌∙◌, arith}
use Rattle.expander.specs.Expansion.{Seen}
use Rattle.surveys.specs.Members.{members}
use Rattle.surveys.proofs.Shorts.{none_short, first_is_short}
use Rattle.surveys.proofs.searches.last.Goals as goal
use Rattle.surveys.proofs.searches.last.Goals.{in-Some, in-None}

pub returns-clause-seen : goal.returns-clause-seen
returns-clause-seen c = λ g ok table looked.
    let limit = ap (λ n. 3 * c.args.table.now.degree * (n + 1)) c.len.ensures in
    let rest = length c.args.table.now.rows.items - c.args.low in
    let long : c.args.low + rest ≡ g.places = omega (arith, table.places) in
    let read : ℕ → List ℕ → Seen = λ n V. record { sets = n; failing = V } in
    elim c.match-first_short.branch [
      | in-Some w ↦
          ap₂ read (omega (arith, ap (λ r. r.0) w.result-is)) (ap (λ r. members r.1.1.0) w.result-is ∙ w.with.ensures.added)
          ∙ sym (first_is_short g ok c.args.table.now table (members c.args.chosen) c.args.joined looked _ limit c.args.low rest long w.in-Some.place w.in-Some.ensures.first)
      | in-None w ↦
          ap₂ read (omega (arith, ap (λ r. r.0) w.result-is)) (ap (λ r. members r.1.1.0) w.result-is ∙ w.empty.ensures)
          ∙ sym (none_short g ok c.args.table.now table (members c.args.chosen) c.args.joined looked _ limit c.args.low rest long w.in-None.ensures.first)
    ]
