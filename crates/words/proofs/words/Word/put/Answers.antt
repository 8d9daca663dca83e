use Rattle.std.proofs.Common.{◌≡◌, List, length, get_or, set, Some, sym, ap, ap₂, ◌∙◌, subst}
use Rattle.std.specs.List.{slice_get}
use Rattle.fields.specs.Models.{FieldModel}
use Rattle.graphs.specs.Models.{GraphModel}
use Rattle.expander.specs.Words.{coefficient}
use Rattle.words.specs.Tables.{Summed}
use Rattle.words.proofs.Summings.{written, summed_put}
use Rattle.words.proofs.words.Word.put.Goals as goal

pub invariant_of-self : goal.invariant_of-self
invariant_of-self g c =
    let f : FieldModel g.row.F.Denot = g.F.Field.field in
    let graph : GraphModel = g.G.Graph.model c.args.self.now.table.graph in
    let word : List g.row.F.Denot = c.args.self.now.symbols.items in
    let before : List g.row.F.Denot = c.args.self.now.sums.items in
    let after : List g.row.F.Denot = c.add_to_rows.new.sums in
    let summed = c.args.self.now.summed in
    let same : length before ≡ c.args.self.now.sums.len = ap length (sym c.deref_mut.ensures.value) ∙ c.deref_mut.ensures.len in
    let is : Some c.in-Some.old ≡ slice_get word c.from-i.result = c.in-Some.ensures ∙ ap (slice_get word) (sym c.from-i.ensures) in
    let put = summed_put f graph word before after c.from-i.result c.in-Some.old c.args.symbol summed is c.add_to_rows.ensures.rows (λ fit j d hj.
    c.add_to_rows.ensures.sums fit j d hj
    ∙ ap₂ (λ (xs : List g.row.F.Denot) (x : g.row.F.Denot). f.plus (get_or xs j d) (f.times (coefficient f graph j c.from-i.result) x)) c.deref_mut.ensures.value
    (c.plus-change.ensures ∙ ap (λ x. f.plus x c.args.symbol) c.negated.ensures)) in
    record { summed = subst (Summed f graph (set word c.from-i.result c.args.symbol)) (sym (written c.args.self.now.sums.len before after same (c.add_to_rows.ensures.rows ∙ sym summed.long ∙ same))) put }
