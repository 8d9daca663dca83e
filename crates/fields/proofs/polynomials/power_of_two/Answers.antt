use Rattle.std.proofs.Common.{◌∙◌, ◌%◌, mod-lt, zero-add, lit≤}
use Rattle.std.proofs.lemmas.List.FromFn.{get_or-map-range_with_len}
use Rattle.fields.specs.Polynomials.{power, doubled}
use Rattle.fields.proofs.Logarithms.{power_mod}
use Rattle.fields.proofs.polynomials.power_of_two.Goals as goal

pub returns : goal.returns
unfolding doubled
returns c =
    let k = c.args.exponent % 255 in
    get_or-map-range_with_len power 0 255 k k 0 (mod-lt c.args.exponent (lit≤ tt)) (zero-add _) ∙ power_mod c.args.exponent
