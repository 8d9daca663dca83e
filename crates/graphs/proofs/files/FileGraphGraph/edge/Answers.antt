use Rattle.std.proofs.Common.{◌≡◌, ℕ, ◌+◌, ◌*◌, ◌%◌, ◌<◌, sym, ap, ◌∙◌, subst, arith, rules}
use Rattle.graphs.specs.declared.files.FileGraph.{FileGraph}
use Rattle.graphs.specs.declared.records.Entry.{Entry}
use Rattle.graphs.specs.Files.{records_of, record_of, row_of, entry_of, Describes}
use Rattle.firsts.proofs.Firsts.{none_from}
use Rattle.graphs.specs.FileLaws.{describes_from, in_file, valid_granted}
use Rattle.graphs.proofs.Opening.{record_inside}
use Rattle.graphs.proofs.files.FileGraphGraph.edge.Goals as goal

described : (g : FileGraph) → Describes g.file.bytes.now g.file.shape
described g = describes_from g.file.bytes.now g.file.shape (none_from _ g.file.sound)

row_small : (g : FileGraph) (i k r t : ℕ) (e : Entry) → i < g.places → k < g.file.shape.degree → r ≡ record_of g.file.shape i k → t ≡ i % g.file.shape.lift → e ≡ entry_of g.file.shape.form g.file.bytes.now r → row_of g.file.shape e t < 512
row_small g i k r t e hi hk at rest same =
    let s = g.file.shape in
    let v = valid_granted g.file.bytes.now s g.file.octets g.file.sound in
    let below = v.row_below i k (subst (λ n. i < n) g.all_places hi) hk in
    let whole : row_of s e t ≡ row_of s (entry_of s.form g.file.bytes.now (record_of s i k)) (i % s.lift) = λ p. row_of s ((same ∙ ap (entry_of s.form g.file.bytes.now) at) p) (rest p) in
    omega (arith, whole, below, v.sizes.few_rows)

pub entry-entry-requires : goal.entry-entry-requires
entry-entry-requires c =
    let g = c.args.self.now in
    let s = g.file.shape in
    let i = c.from-i.result in
    let same = ap (λ x. x * s.degree + c.args.k) c.column_of-column.ensures.column in
    let inside = in_file g.file.bytes.now s (described g) i c.args.k (subst (λ n. i < n) g.all_places c.if-i-self.false) c.if-k-shape.false in
    record_inside s.form g.file.bytes.now (records_of s) _ (described g).long (subst (λ r. r < records_of s) (sym same) inside)

pub overflow_cast-result : goal.overflow_cast-result
overflow_cast-result c =
    let same = ap (λ x. x * c.args.self.now.file.shape.degree + c.args.k) c.column_of-column.ensures.column in
    let small = row_small c.args.self.now c.from-i.result c.args.k _ _ c.entry-entry.result c.if-i-self.false c.if-k-shape.false same c.column_of-column.ensures.place c.entry-entry.ensures in
    search rules
