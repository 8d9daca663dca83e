use Rattle.std.proofs.Common.{length, sym, subst, refl, rules, arith}
use Rattle.std.proofs.lemmas.List.{length_push}
use Rattle.std.proofs.lemmas.List.FromFn.{length-range_with_len}
use Rattle.std.proofs.lemmas.Fn.{fold_over}
use Rattle.std.proofs.lemmas.Iterator.{YieldsList-from_range}
use Rattle.std.proofs.iter.Yields.{nat_range_steps}
use Rattle.surveys.specs.PascalRows.{PascalRow}
use Rattle.surveys.proofs.PascalRows.{first_row}
use Rattle.surveys.proofs.counts.pascal_row.Goals as goal

pub returns : goal.returns
returns c =
    let n = c.args.places in
    subst (λ m. PascalRow m c.fold.result) (length-range_with_len 0 n)
    (fold_over nat_range_steps (λ x. x) _ (λ ys row. PascalRow (length ys) row) _
    (λ ys row x next f' h call. (subst (λ m. PascalRow m next) (sym (length_push ys x)) (call.met (length ys) h), search rules)) _ _ _ _
    (YieldsList-from_range 0 n n refl (omega arith)).runs first_row c.fold.ensures.ran)
