use Rattle.std.proofs.Common.{◌≡◌, suc, ◌-◌, rules, arith}
use Rattle.graphs.specs.Files.{records_of, record_fault, entry_of}
use Rattle.graphs.proofs.Opening.{record_inside}
use Rattle.graphs.proofs.Walks.{callable_along, first_by_try_fold}
use Rattle.graphs.proofs.records.Shape.check_records.Goals as goal

pub try_fold-requires-clause-callable : goal.try_fold-requires-clause-callable
try_fold-requires-clause-callable c =
    let s = c.args.self in
    callable_along _ _ (λ a v q k. search rules) _ _
    (λ b x low. let inside = record_inside s.form c.args.bytes.now (records_of s) x c.requires.long low in search rules)

pub returns : goal.returns
returns c =
    let s = c.args.self in
    let bytes = c.args.bytes.now in
    let found = first_by_try_fold _ _ (λ a v q k. search rules) (record_fault bytes s) (λ k. entry_of s.form bytes (k - 1)) (records_of s)
    (λ k v low called. let facts = called.met.0 in let here : suc k - 1 ≡ k = omega arith in (search rules, rw here (search rules))) _ _ _ _ 0 (records_of s) (omega arith) (omega arith) (omega arith) c.entry-first.ensures c.try_fold.ensures.ran in
    search rules
