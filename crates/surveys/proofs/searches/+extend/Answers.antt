use Rattle.std.proofs.Common.{rules, ◌+◌, ◌-◌, ◌<◌, ◌≤◌, length, sym, ap, ◌∙◌, ap₂, zero-add, arith}
use Rattle.expander.specs.Sets.{choose}
use Rattle.expander.specs.Expansion.{expands, seen}
use Rattle.surveys.specs.Members.{members}
use Rattle.surveys.specs.Answers.{extended, seen_of}
use Rattle.surveys.proofs.Searched.{after, found_some, none_found, choose_one, choose_next, after-after, stops_here, goes_past, none_left}
use Rattle.surveys.proofs.Shorts.{looked_more}
use Rattle.surveys.proofs.searches.+extend.Goals as goal

pub returns-then-more-eq1-clause-few : goal.returns-then-more-eq1-clause-few
returns-then-more-eq1-clause-few t c =
    let rest = length c.args.table.now.rows.items - c.args.low in
    omega (arith, choose_one c.args.low rest, ap (choose rest) c.if-more-eq1.true)

pub loop-place-init : goal.loop-place-init
loop-place-init t c = record {
  few = omega arith;
  rest = λ g ok table looked. ap (λ n. record { sets = n; failing = (seen (expands g) (extended (members c.args.chosen) c.args.low (length c.args.table.now.rows.items - c.args.low) c.args.more)).failing }) (sym (zero-add _));
}

pub extend-search-requires : goal.extend-search-requires
extend-search-requires t c =
    let n = length c.args.table.now.rows.items in
    let inside : c.loop-place.place < n = omega arith in
    let next = choose_next c.loop-place.place n c.args.more inside c.requires.some in
    (search rules, (omega arith, (omega arith, (omega arith, omega arith))))

pub overflow_add-sets : goal.overflow_add-sets
overflow_add-sets t c =
    let n = length c.args.table.now.rows.items in
    let inside : c.loop-place.place < n = omega arith in
    let next = choose_next c.loop-place.place n c.args.more inside c.requires.some in
    omega arith

pub returns-then-search-clause-few : goal.returns-then-search-clause-few
returns-then-search-clause-few t c =
    let n = length c.args.table.now.rows.items in
    let inside : c.loop-place.place < n = omega arith in
    let next = choose_next c.loop-place.place n c.args.more inside c.requires.some in
    omega arith

pub returns-then-search-clause-seen : goal.returns-then-search-clause-seen
returns-then-search-clause-seen t c = λ g ok table looked.
    let V = members c.args.chosen in
    let n = length c.args.table.now.rows.items in
    let p = c.loop-place.place in
    let inside : p < n = omega arith in
    let there = looked_more g c.args.table.now table V (members c.with.result) c.args.joined c.join.result c.index.result.now p inside c.with.ensures.added c.index.ensures c.join.ensures looked in
    let sought = c.extend-search.ensures.seen g ok table there ∙ ap (λ W. seen (expands g) (extended W (p + 1) (n - (p + 1)) (c.args.more - 1))) c.with.ensures.added in
    let some = found_some _ _ c.extend-search.result.told c.if-search.true in
    let stops = stops_here p n c.args.more inside c.requires.some (expands g) V (seen_of c.extend-search.result) sought some in
    sym (c.loop-place.invariant.rest g ok table looked ∙ ap (after c.loop-place.sets) stops)

pub loop-place-preserved : goal.loop-place-preserved
loop-place-preserved t c =
    let n = length c.args.table.now.rows.items in
    let inside : c.loop-place.place < n = omega arith in
    let next = choose_next c.loop-place.place n c.args.more inside c.requires.some in
    record {
      few = omega arith;
      rest = λ g ok table looked.
          let V = members c.args.chosen in
          let n = length c.args.table.now.rows.items in
          let p = c.loop-place.place in
          let inside : p < n = omega arith in
          let there = looked_more g c.args.table.now table V (members c.with.result) c.args.joined c.join.result c.index.result.now p inside c.with.ensures.added c.index.ensures c.join.ensures looked in
          let sought = c.extend-search.ensures.seen g ok table there ∙ ap (λ W. seen (expands g) (extended W (p + 1) (n - (p + 1)) (c.args.more - 1))) c.with.ensures.added in
          let none = none_found _ _ c.extend-search.result.told c.if-search.false in
          let goes = goes_past p n c.args.more inside c.requires.some (expands g) V (omega arith) (seen_of c.extend-search.result) sought none in
          c.loop-place.invariant.rest g ok table looked ∙ ap (after c.loop-place.sets) goes ∙ after-after c.loop-place.sets c.extend-search.result.sets _;
    }

pub returns-clause-few : goal.returns-clause-few
returns-clause-few t c = omega arith

pub returns-clause-seen : goal.returns-clause-seen
returns-clause-seen t c = λ g ok table looked.
    let V = members c.args.chosen in
    let n = length c.args.table.now.rows.items in
    let past : n ≤ c.loop-place.place = omega arith in
    let end = none_left (expands g) V c.loop-place.place n c.args.more past c.requires.some in
    sym (c.loop-place.invariant.rest g ok table looked ∙ ap (after c.loop-place.sets) end ∙ ap₂ (λ k W. record { sets = k; failing = W }) (omega arith) (sym c.empty.ensures))
