-- A count over a filtered range of numbers is the number of those that pass. Assumes nothing.
use denote.Param.Members.{Mut}
use denote.Ref.{Bor}
use Rattle.std.proofs.Common.{◌≡◌, ℕ, suc, ◌+◌, ◌<◌, Bool, cond, List, [], ◌∷◌, length, Some, sym, ap, ◌∙◌, arith, add-zero, slice_get}
use Rattle.std.specs.Fn.{CalledAt}
use Rattle.std.specs.List.{fold}
use Rattle.std.specs.Option.{option_map}
use Rattle.std.specs.declared.ops.Range.{Range}
use Rattle.std.specs.declared.iter.Filter.{Filter}
use Rattle.std.specs.Iterator.Adapters.{filter_steps}
use Rattle.std.specs.Iterator.Runs.{SomeRun, WholeRun, EachRunFrom, IsFilterRun}
use Rattle.std.proofs.iter.Yields.{nat_range_steps}
use Rattle.std.proofs.iter.runs.Sources.{range_runs}
use Rattle.std.proofs.iter.runs.Made.{at-is}
use Rattle.bitsets.specs.Bits.{count}

module _ (test : ℕ → Bool) where
  -- a fold that adds one for each number that passes
  abbrev pub counting : ℕ → ℕ → ℕ
  counting a x = a + cond (test x) 1 0

  fold_counts : (xs : List ℕ) (a s : ℕ) → ((k : ℕ) → k < length xs → option_map (λ y. y) (slice_get xs k) ≡ Some (s + k))
      → fold counting a xs + count s test ≡ a + count (s + length xs) test
  unfolding count
  fold_counts [] a s items = rw (add-zero s)
  fold_counts (x ∷ xs) a s items =
      let here : x ≡ s = cc (items 0 (omega arith), add-zero s) in
      let later : fold counting (counting a x) xs + count (suc s) test ≡ counting a x + count (suc s + length xs) test =
      fold_counts xs (counting a x) (suc s) (λ k l. items (suc k) (omega (arith, l)) ∙ ap (λ (n : ℕ). Some n) (omega arith)) in
      let ends : count (suc s + length xs) test ≡ count (s + suc (length xs)) test = ap (λ n. count n test) (omega arith) in
      let one : counting a x ≡ counting a s = ap (counting a) here in
      omega (arith, later, ends, one)

  module _ {F : Type 0} (g : Mut F (Bor ℕ × Unit {0}) Bool) (f : F) (s : Range ℕ) (u : Filter (Range ℕ) F) where
    -- the closure answers by the test and stays as it is
    abbrev pub TestsEach : Type 0
    TestsEach = (x : ℕ) (b : Bool) (q : F) → CalledAt g f x b q → (q ≡ f) × (b ≡ test x)

    -- what `filter` ensures of the range
    abbrev pub FiltersRange : Type 0
    FiltersRange = EachRunFrom (filter_steps nat_range_steps g) u (λ p. SomeRun nat_range_steps s (λ q. IsFilterRun p q g f))

    -- a count over the filtered numbers below n is the number of those that pass
    pub counted_by_filter : TestsEach → (n r : ℕ) → s.start ≡ 0 → s.end ≡ n → FiltersRange → WholeRun (filter_steps nat_range_steps g) u (λ p. r ≡ p.len) → r ≡ count n test
    unfolding count
    counted_by_filter tests n r from long filters (p, begun, whole, e) =
        let (q, first, h) = filters p p.seen begun in
        let up = range_runs q q.seen in
        let starts : q.from.start ≡ 0 = ap (λ (t : Range ℕ). t.start) first ∙ from in
        let ends : q.from.end ≡ n = ap (λ (t : Range ℕ). t.end) first ∙ long in
        let items : (k : ℕ) → k < length q.items → option_map (λ y. y) (slice_get q.items k) ≡ Some (0 + k) =
        λ k l. ap (option_map (λ y. y)) (sym (at-is q k)) ∙ up.3 k (omega (arith, l, q.long)) ∙ ap (λ m. Some (m + k)) starts in
        let total : fold counting 0 q.items + 0 ≡ 0 + count (0 + length q.items) test = fold_counts q.items 0 0 items in
        let size : count (0 + length q.items) test ≡ count n test = ap (λ m. count m test) (omega (arith, up.1 (h.0 ∙ whole), q.long, starts, ends)) in
        let sum : p.len ≡ fold counting 0 q.items = h.5 counting (λ x b t m called. let a = tests x b t called in (a.0, ap (λ c. m + cond c 1 0) (sym a.1))) in
        omega (arith, e, sum, total, size)
