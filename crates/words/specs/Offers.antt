-- What the edges of a place bring to its vote. Assumes nothing.
use Rattle.std.specs.Prelude.{◌*◌, ℕ, Option, Some, None, nat_lt}
use Rattle.bitsets.specs.Bits.{count}
use Rattle.fields.specs.Models.{FieldModel}
use Rattle.graphs.specs.Models.{GraphModel, when}
use Rattle.expander.specs.Words.{row_sum, is_open}
use Rattle.expander.specs.Votes.{offers}
use Rattle.words.specs.declared.votes.Vote.{Vote}

module _ {F : Type 0} (f : FieldModel F) (g : GraphModel) (w : ℕ → F) (i : ℕ) where
  -- what edge k of place i proposes, if it leads to an open row
  abbrev pub offer : ℕ → Option F
  offer k =
      let j = g.row i k in
      when (is_open f g w j) (f.times (f.negated (row_sum f g w j)) (f.inverse (f.element (g.weight i k))))

  -- how many edges of place i propose d
  abbrev pub offered : F → ℕ
  offered d = count g.degree (offers f g w i d)

  -- the element with its votes, if they are more than half of the edges of place i
  abbrev pub vote_for : Option F → Option (Vote F)
  vote_for None = None
  vote_for (Some d) = when (nat_lt g.degree (2 * offered d)) (record { rank = offered d; change = d })

  -- the vote for what edge k of place i proposes
  abbrev pub vote_of : ℕ → Option (Vote F)
  vote_of k = vote_for (offer k)
