-- The ranks of the lowest queue. Assumes nothing.
use Rattle.std.specs.Prelude.{◌≡◌, ℕ, ◌≤◌, List, take, slice_index}
use Rattle.std.proofs.Common.{sym, ◌∙◌, subst, ⊎_elim, arith}
use Rattle.std.proofs.lemmas.List.{length-take, get_or-take, get_or_past}
use Rattle.std.proofs.lemmas.Bool.{cases_lt}
use Rattle.queues.specs.declared.states.LowestQueue.{LowestQueue}
use Rattle.queues.specs.Ranks.{Ranked}

-- the ranks of the queue's places stand first in its array
abbrev pub ranks_of : LowestQueue → List ℕ
ranks_of q = take q.places q.ranks

-- and nothing stands behind them
pub rank_at : (q : LowestQueue) (i : ℕ) → slice_index (ranks_of q) i ≡ slice_index q.ranks i
rank_at q i =
    ⊎_elim
    (λ inside. get_or-take q.places q.ranks i 0 inside)
    (λ (past : q.places ≤ i). get_or_past (ranks_of q) i 0 (simp length-take (omega arith)) ∙ sym (q.rest i past))
    (cases_lt i q.places)

pub ranked_of : (q : LowestQueue) → Ranked (ranks_of q)
ranked_of q = record {
  few = simp length-take (omega (arith, q.few));
  low = λ i. subst (λ rank. rank ≤ 16) (sym (rank_at q i)) (q.low i);
}
