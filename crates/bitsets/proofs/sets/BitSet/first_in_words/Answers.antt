use Rattle.std.proofs.Common.{◌≡◌, ◌-◌, ◌*◌, ◌/◌, max, ap, ◌∙◌, arith, rules}
use Rattle.firsts.proofs.Ranges.{first_by_find_map}
use Rattle.bitsets.proofs.Searches.{first_near, in_word, first_by_words}
use Rattle.bitsets.proofs.sets.BitSet.first_in_words.Goals as goal

pub returns : goal.returns
returns c =
    let words = c.args.self.now.words in
    let n = 64 * c.args.word in
    first_by_find_map _ _ (in_word words n) _ (λ x o q k. search rules)
    (λ x o low high k. let e : 64 * x ≡ max n (64 * x) = omega arith in (search rules) ∙ ap (first_near words) e)
    (n / 64) (8 - n / 64) _ (omega arith) (omega arith) c.find_map.ensures.runs
    ∙ first_by_words words n
