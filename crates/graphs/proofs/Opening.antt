-- What the check of a graph file counts and reads lies within its bytes, and what it finds of each record. Assumes nothing.
use Rattle.std.proofs.Common.{◌≡◌, ℕ, ◌+◌, ◌-◌, ◌*◌, ◌<◌, ◌≤◌, true, List, length, Option, sym, ◌∙◌, subst, mul-le-mul, mul-le-mul_left, mul-pos, le-mul_of_pos_right, arith}
use Rattle.refusals.specs.declared.faults.Fault.{Fault}
use Rattle.graphs.specs.declared.records.Entry.{Entry}
use Rattle.graphs.specs.declared.records.Form.{Form}
use Rattle.graphs.specs.declared.records.Form.TheVariants.{Listed, Lift}
use Rattle.graphs.specs.declared.records.Shape.{Shape}
use Rattle.graphs.specs.Files.{width, records_of, sizes_fit, entry_of, entry_fault, record_fault}
use Rattle.graphs.specs.FileLaws.{sizes_of, factors}

few_bytes : (form : Form) → width form ≤ 8
few_bytes Listed = omega arith
few_bytes Lift = omega arith

pub few_records : (s : Shape) → sizes_fit s ≡ true → records_of s ≤ 8192
few_records s h =
    let z = sizes_of s h in
    let f = factors s.columns s.lift z.some_place in
    let columns : s.columns ≤ 512 = omega (arith, le-mul_of_pos_right s.columns f.1, z.few_places) in
    omega (arith, mul-le-mul columns z.few_edges)

pub some_record : (s : Shape) → sizes_fit s ≡ true → 0 < records_of s
some_record s h =
    let z = sizes_of s h in
    mul-pos (factors s.columns s.lift z.some_place).0 z.some_edge

pub few_file_bytes : (s : Shape) → sizes_fit s ≡ true → width s.form * records_of s ≤ 65536
few_file_bytes s h = omega (arith, mul-le-mul (few_bytes s.form) (few_records s h))

-- the bytes of record k, one of n, are in the file
pub record_inside : (form : Form) (bytes : List ℕ) (n k : ℕ) → length bytes ≡ width form * n → k < n → width form * (k + 1) ≤ length bytes
record_inside form bytes n k e h =
    let up : k + 1 ≤ n = omega arith in
    subst (λ x. width form * (k + 1) ≤ x) (sym e) (mul-le-mul_left (width form) up)

-- what the check of record k found, given the record and the one before it
pub found_at : (bytes : List ℕ) (s : Shape) (k : ℕ) (before e : Entry) (o : Option Fault) → before ≡ entry_of s.form bytes (k - 1) → e ≡ entry_of s.form bytes k → o ≡ entry_fault s k before e → record_fault bytes s k ≡ o
found_at bytes s k before e o b h q = (λ p. entry_fault s k (sym b p) (sym h p)) ∙ sym q
