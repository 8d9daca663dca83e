use Rattle.std.proofs.Common.{◌*◌, sym, ap, rules}
use Rattle.graphs.specs.Files.{records_of}
use Rattle.graphs.proofs.Opening.{few_file_bytes}
use Rattle.graphs.proofs.records.Shape.check.Goals as goal

pub overflow_mul-width : goal.overflow_mul-width
overflow_mul-width c =
    let few = few_file_bytes c.args.self (sym c.if-not-fits.ensures) in
    let same = ap (λ w. w * records_of c.args.self) c.width.ensures in
    search rules
