use Rattle.std.proofs.Common.{bit_or, get_or, rules, arith}
use Rattle.bitsets.proofs.Arrays.{made_at}
use Rattle.bitsets.proofs.Laws.{join_members}
use Rattle.bitsets.proofs.sets.BitSet.join.Goals as goal

pub returns : goal.returns
returns c =
    let a = c.args.self in
    let b = c.args.other in
    join_members a.words b.words c.from_fn.result a.eight b.eight c.from_fn.ensures.items.long
    (λ i l. made_at _ _ (λ j. bit_or (get_or a.words j 0) (get_or b.words j 0)) c.from_fn.result (λ j y q k. search rules) 0 8 c.from_fn.ensures.items.each i (omega arith) l)
