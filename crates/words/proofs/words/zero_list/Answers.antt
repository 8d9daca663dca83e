use Rattle.std.proofs.Common.{rules, tests, arith}
use Rattle.std.specs.List.{range_with_len}
use Rattle.std.proofs.lemmas.Iterator.{YieldsList-from_range, YieldsList-from_map, items_from_collect}
use Rattle.std.proofs.lemmas.List.FromFn.{length-range_with_len}
use Rattle.std.proofs.lemmas.Simd.{splat_is_map}
use Rattle.words.proofs.words.zero_list.Goals as goal

pub returns : goal.returns
returns g c =
    let zero = g.F.Field.field.element 0 in
    rw (splat_is_map (range_with_len 0 c.args.len) c.args.len zero (length-range_with_len 0 c.args.len))
    (items_from_collect _ c.collect.ensures.ran (YieldsList-from_map _ (λ _. zero) (YieldsList-from_range 0 c.args.len c.args.len c.map.ensures.source (omega arith)) c.map.ensures.closure (λ x r q k. search (rules, tests))))
