use Rattle.std.proofs.Common.{sym}
use Rattle.fields.specs.Elements.{same_code, code-element}
use Rattle.fields.proofs.elements.Element.of.Goals as goal

pub returns : goal.returns
returns g c = same_code _ g.C.Codes.codes _ _ (sym (code-element _ g.C.Codes.codes c.args.code c.requires))
