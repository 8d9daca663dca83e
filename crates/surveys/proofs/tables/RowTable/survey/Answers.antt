use Rattle.std.proofs.Common.{◌≡◌, ℕ, ◌+◌, List, length, sym, subst, refl, ap, ◌∙◌, add-one, arith}
use Rattle.expander.specs.Sets.{sets_up_to}
use Rattle.expander.specs.Expansion.{Seen, expands, seen, level_of, Surveyed}
use Rattle.expander.proofs.Surveys.{surveys_tell}
use Rattle.surveys.specs.Members.{members}
use Rattle.surveys.specs.Answers.{Looked, seen_of}
use Rattle.surveys.proofs.Searched.{found_some, none_found}
use Rattle.surveys.proofs.Levels.{not_refused, looked_none, more_sets, sets_next, no_members, level_seen, answer_is, next_level, last_level, level_is}
use Rattle.surveys.proofs.tables.RowTable.survey.Goals as goal

pub loop-level-init : goal.loop-level-init
unfolding seen sets_up_to
loop-level-init c = record { few = omega arith; passed = λ g ok table. refl }

pub extend-search-requires-clause-few : goal.extend-search-requires-clause-few
extend-search-requires-clause-few c =
    let n = length c.args.self.now.rows.items in
    let granted = not_refused n c.args.size c.check_size.result c.is_err.result c.check_size.ensures c.is_err.ensures.value c.if-is_err.false in
    let next = sets_next n c.loop-level.level in
    let bound = more_sets n (c.loop-level.level + 1) c.args.size (omega arith) in
    omega arith

pub overflow_add-sets : goal.overflow_add-sets
overflow_add-sets c =
    let n = length c.args.self.now.rows.items in
    let granted = not_refused n c.args.size c.check_size.result c.is_err.result c.check_size.ensures c.is_err.ensures.value c.if-is_err.false in
    let next = sets_next n c.loop-level.level in
    let bound = more_sets n (c.loop-level.level + 1) c.args.size (omega arith) in
    omega arith

pub returns-then-search-clause-answer : goal.returns-then-search-clause-answer
returns-then-search-clause-answer c = λ g ok table granted.
    let n = length c.args.self.now.rows.items in
    let k = c.loop-level.level in
    let looked = subst (λ W. Looked g W c.empty-in-loop-level.result) (sym c.empty-in-loop-level-2.ensures) (looked_none g c.empty-in-loop-level.result c.empty-in-loop-level.ensures) in
    let passed = c.loop-level.invariant.passed g ok table in
    let now = level_seen (expands g) n k (members c.empty-in-loop-level-2.result) (seen_of c.extend-search.result) c.empty-in-loop-level-2.ensures (c.extend-search.ensures.seen g ok table looked) in
    let some = found_some _ _ c.extend-search.result.told c.if-search.true in
    let whole = last_level (expands g) n k c.loop-level.sets (seen_of c.extend-search.result) passed now some c.args.size (omega arith) in
    answer_is g n c.args.size k _ table.places whole (level_is (expands g) n k c.loop-level.sets (seen_of c.extend-search.result) passed now some c.args.size)

pub returns-then-search-clause-tells : goal.returns-then-search-clause-tells
returns-then-search-clause-tells c = λ g ok table granted.
    subst (Surveyed g c.args.size) (sym (returns-then-search-clause-answer c g ok table granted)) (surveys_tell g c.args.size)

pub loop-level-preserved : goal.loop-level-preserved
loop-level-preserved c =
    let n = length c.args.self.now.rows.items in
    let k = c.loop-level.level in
    let next = sets_next n k in
    record {
      few = omega arith;
      passed = λ g ok table.
          let looked = subst (λ W. Looked g W c.empty-in-loop-level.result) (sym c.empty-in-loop-level-2.ensures) (looked_none g c.empty-in-loop-level.result c.empty-in-loop-level.ensures) in
          let passed = c.loop-level.invariant.passed g ok table in
          let now = level_seen (expands g) n k (members c.empty-in-loop-level-2.result) (seen_of c.extend-search.result) c.empty-in-loop-level-2.ensures (c.extend-search.ensures.seen g ok table looked) in
          let none = no_members (members c.extend-search.result.failing) (none_found _ _ c.extend-search.result.told c.if-search.false) in
          ap (λ m. seen (expands g) (sets_up_to n m)) (add-one k) ∙ next_level (expands g) n k c.loop-level.sets (seen_of c.extend-search.result) passed now
          ∙ ap (λ V. record { sets = c.loop-level.sets + c.extend-search.result.sets; failing = V }) none;
    }

pub returns-clause-answer : goal.returns-clause-answer
returns-clause-answer c = λ g ok table granted.
    let n = length c.args.self.now.rows.items in
    let all : c.loop-level.level ≡ c.args.size = omega arith in
    let read : List ℕ → Seen = λ V. record { sets = c.loop-level.sets; failing = V } in
    let whole = ap (λ m. seen (expands g) (sets_up_to n m)) (sym all) ∙ c.loop-level.invariant.passed g ok table ∙ ap read (sym c.empty-2.ensures) in
    answer_is g n c.args.size c.args.size (read (members c.empty-2.result)) table.places whole (ap (level_of c.args.size) c.empty-2.ensures)

pub returns-clause-tells : goal.returns-clause-tells
returns-clause-tells c = λ g ok table granted.
    subst (Surveyed g c.args.size) (sym (returns-clause-answer c g ok table granted)) (surveys_tell g c.args.size)
