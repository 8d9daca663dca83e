use Rattle.std.proofs.Common.{Some, None, sym, ◌∙◌}
use Rattle.fields.proofs.Logarithms.{product_by_exponents}
use Rattle.fields.proofs.polynomials.product.Goals as goal

pub returns-in-Some : goal.returns-in-Some
returns-in-Some c =
    c.power_of_two.ensures
    ∙ sym (product_by_exponents c.args.a c.args.b _ _ c.logarithm_of.ensures c.logarithm_of-2.ensures (Some (c.in-Some.j, c.in-Some.k)) c.in-Some.ensures)

pub returns-in-None : goal.returns-in-None
returns-in-None c = sym (product_by_exponents c.args.a c.args.b _ _ c.logarithm_of.ensures c.logarithm_of-2.ensures None c.in-None.ensures)
