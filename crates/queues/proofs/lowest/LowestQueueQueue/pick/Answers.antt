use Rattle.std.proofs.Common.{◌≡◌, ◌<◌, sym, ap, ◌∙◌, subst, rules, arith}
use Rattle.std.specs.Option.{option_map}
use Rattle.firsts.specs.First.{first_where}
use Rattle.firsts.proofs.Firsts.{cases_map}
use Rattle.firsts.proofs.Passes.{where_within}
use Rattle.bitsets.specs.Sets.{has}
use Rattle.queues.proofs.Fronts.{lowest_tells, first_marked}
use Rattle.queues.specs.Ranks.{lowest, LowestOrNone}
use Rattle.queues.specs.Lowest.{ranks_of}
use Rattle.queues.proofs.lowest.LowestQueueQueue.pick.Goals as goal

pub map-requires : goal.map-requires
map-requires c = λ x e _ _.
    let small : x < 512 = omega (arith, where_within (has c.args.self.now.positive) _ _ x (sym e ∙ c.first_from.ensures)) in
    search rules

pub returns : goal.returns
returns c =
    let q = c.args.self.now in
    let first : c.first_from.result ≡ first_where (has q.positive) 0 512 = search rules in
    let mapped : c.map.result ≡ option_map (λ i. record { 0 = i }) c.first_from.result = search rules in
    let is : lowest (ranks_of q) ≡ c.map.result = sym (mapped ∙ ap (option_map (λ i. record { 0 = i })) (first ∙ first_marked q)) in
    let cases = subst (LowestOrNone (ranks_of q)) is (lowest_tells (ranks_of q)) in
    record { picks = cases_map c.map.result (λ zeros. zeros) (λ place lowest. lowest.positive) cases; value = sym is; cases = cases }
