use Rattle.std.proofs.Common.{◌<◌, ◌∙◌, ◌%◌, sym, subst, mod-lt, zero-add, lit≤}
use Rattle.std.proofs.lemmas.List.FromFn.{get_or-map-range_with_len}
use Rattle.std.proofs.lemmas.Nat.{pow-mod}
use Rattle.fields.specs.Remainders.{inverse}
use Rattle.fields.proofs.remainders.inverse_of.Goals as goal

pub returns : goal.returns
returns c =
    let is = c.from.ensures in
    get_or-map-range_with_len inverse 0 101 c.from.result (c.args.a % 101) 0 (subst (λ x. x < 101) (sym is) (mod-lt c.args.a (lit≤ tt))) (zero-add _ ∙ is) ∙ pow-mod c.args.a 99 101
