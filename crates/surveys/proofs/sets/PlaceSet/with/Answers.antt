use Rattle.std.proofs.Common.{map, arith}
use Rattle.std.proofs.lemmas.List.{length-map, map-set, take_more_set}
use Rattle.surveys.proofs.sets.PlaceSet.with.Goals as goal

pub returns-clause-added : goal.returns-clause-added
returns-clause-added c =
    let numbers = map (λ p. p.0) c.args.self.places in
    rw map-set (take_more_set numbers c.args.self.count c.args.place.0 (omega (arith, length-map c.args.self.places (λ p. p.0))))
