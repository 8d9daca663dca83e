use Rattle.std.proofs.Common.{sym, ap, ◌∙◌}
use Rattle.fields.specs.Polynomials.{inverse}
use Rattle.fields.specs.PolynomialLaws.{inverse-zero}
use Rattle.fields.proofs.Logarithms.{inverse_of_power}
use Rattle.fields.proofs.polynomials.inverse_of.Goals as goal

pub returns-in-Some : goal.returns-in-Some
returns-in-Some c = c.power_of_two.ensures ∙ inverse_of_power c.in-Some.k c.args.a c.in-Some.ensures.1 c.in-Some.ensures.0

pub returns-in-None : goal.returns-in-None
returns-in-None c = sym (ap inverse c.in-None.ensures ∙ inverse-zero)
