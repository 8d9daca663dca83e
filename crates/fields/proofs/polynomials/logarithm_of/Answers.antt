use Rattle.std.proofs.Common.{◌<◌, sym, ap, ◌∙◌, subst, zero-add, arith}
use Rattle.std.proofs.lemmas.List.FromFn.{get_or-map-range_with_len}
use Rattle.fields.specs.Polynomials.{power, logarithm, doublings}
use Rattle.fields.specs.PolynomialLaws.{power-logarithm, logarithm_below}
use Rattle.fields.proofs.polynomials.logarithm_of.Goals as goal

pub returns-else-a-eq0 : goal.returns-else-a-eq0
unfolding doublings
returns-else-a-eq0 c =
    let a = c.args.a in
    let is = c.from.ensures in
    let some : 0 < a = omega (arith, c.if-a-eq0.false) in
    let read = c.from-else-a-eq0.ensures ∙ get_or-map-range_with_len logarithm 0 256 c.from.result a 0 (subst (λ x. x < 256) (sym is) c.ranges.a.fits) (zero-add _ ∙ is) in
    (ap power read ∙ power-logarithm a some c.ranges.a.fits, subst (λ k. k < 255) (sym read) (logarithm_below a some c.ranges.a.fits))
