use Rattle.std.proofs.Common.{arith, ◌∙◌, rules}
use Rattle.bitsets.proofs.Searches.{none_past, none_near, some_near}
use Rattle.bitsets.proofs.sets.BitSet.first_in_word.Goals as goal

pub returns-in_err-rest : goal.returns-in_err-rest
returns-in_err-rest c = c.from_residual.ensures ∙ none_past c.args.self.now.words c.args.n (search rules)

pub returns-then-rest-eq0 : goal.returns-then-rest-eq0
returns-then-rest-eq0 c = none_near c.args.self.now.words c.args.n _ (search rules) c.if-rest-eq0.true

pub returns-else-rest-eq0 : goal.returns-else-rest-eq0
returns-else-rest-eq0 c = let s = c.args.self.now in some_near s.words c.args.n _ (search rules) s.narrow (omega (arith, c.if-rest-eq0.false))
