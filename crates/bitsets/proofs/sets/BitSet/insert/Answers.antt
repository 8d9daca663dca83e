use Rattle.std.proofs.Common.{arith}
use Rattle.std.proofs.lemmas.Nat.{or_lt}
use Rattle.std.proofs.lemmas.Bool.Decides.{nat_tests}
use Rattle.bitsets.proofs.Laws.{set_narrow, with_bit}
use Rattle.bitsets.proofs.sets.BitSet.insert.Goals as goal

pub invariant_of-self-clause-narrow : goal.invariant_of-self-clause-narrow
invariant_of-self-clause-narrow c = let s = c.args.self.now in set_narrow s.words _ _ (omega (arith, s.eight)) s.narrow (or_lt 64 _ _ (s.narrow _) (omega arith))

pub returns-then-n-lt512 : goal.returns-then-n-lt512
returns-then-n-lt512 c = λ k. let s = c.args.self.now in let e = with_bit s.words c.args.n (omega (arith, s.eight)) k in grind (arith, nat_tests)
