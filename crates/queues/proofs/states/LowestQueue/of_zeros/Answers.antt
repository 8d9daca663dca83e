use Rattle.std.proofs.Common.{ltb, sym, refl, ap, ◌∙◌, arith}
use Rattle.std.proofs.lemmas.List.{take-replicate}
use Rattle.queues.proofs.Fronts.{zeros_at}
use Rattle.queues.proofs.states.LowestQueue.of_zeros.Goals as goal

pub invariant_of-result : goal.invariant_of-result
invariant_of-result c = record {
  long = refl;
  few = c.requires;
  low = λ i. omega (arith, zeros_at 512 i);
  rest = λ i past. zeros_at 512 i;
  marked = λ i. c.empty.ensures i ∙ sym (ap (ltb 0) (zeros_at 512 i));
}

pub returns : goal.returns
returns c = take-replicate c.args.places 512 0 c.requires
