-- The record that has a place, and the code that the place has for it. Assumes nothing.
use Rattle.std.proofs.Common.{◌≡◌, ℕ, ◌-◌, ◌<◌, ◌≤◌, eqb, List, length, Some, None, nat_lt, unwrap_or, sym, ap, ◌∙◌, arith}
use Rattle.std.specs.Bool.{then_some}
use Rattle.std.specs.Option.{option_map}
use Rattle.std.specs.List.{slice_get}
use Rattle.std.proofs.lemmas.List.FromFn.{length-map-range_with_len, get_or-map-range_with_len}
use Rattle.std.proofs.lemmas.Option.{slice_get-get_or, slice_get_past}
use Rattle.std.proofs.lemmas.Bool.Decides.{nat_tests}
use Rattle.std.proofs.lemmas.Bool.{eq-eqb, ne_eqb}
use Rattle.firsts.proofs.Passes.{where_only}
use Rattle.feeds.specs.Frames.{records, place_at, code_at, record_of, frame_code, frame_codes, Ascending, RecordCodes, OtherCodes}

module _ (frame : List ℕ) where
  module _ (i : ℕ) where
    pub record_is : (k : ℕ) → Ascending frame → k < records frame → place_at frame k ≡ i → record_of frame i ≡ Some k
    record_is k up lt e =
        sym (where_only (λ j. eqb (place_at frame j) i) 0 (records frame) (Some k) (record {
          from = omega arith;
          within = omega arith;
          here = eq-eqb (place_at frame k) i e;
          before = λ j low less. ne_eqb (place_at frame j) i (λ q. omega (arith, up j k less lt));
        }))

    no_record : ((k : ℕ) → k < records frame → place_at frame k ≡ i → ⊥) → record_of frame i ≡ None
    no_record h = sym (where_only (λ j. eqb (place_at frame j) i) 0 (records frame) None (λ j low high. ne_eqb (place_at frame j) i (h j (omega arith))))

    -- no record has place i if record k is where it would stand, and has another
    pub not_there : (k : ℕ) → Ascending frame → k ≤ records frame → (0 < k → place_at frame (k - 1) < i) → (k < records frame → i ≤ place_at frame k) → (k < records frame → place_at frame k ≡ i → ⊥) → record_of frame i ≡ None
    not_there k up in_range before here other =
        no_record (λ j lt e. let lower = up j (k - 1) in let higher = up k j in grind arith)

    -- the code of place i is that of the record that has it
    pub code_found : (k : ℕ) → Ascending frame → k < records frame → place_at frame k ≡ i → frame_code frame i ≡ code_at frame k
    code_found k up lt e = ap (λ o. unwrap_or (option_map (code_at frame) o) 0) (record_is k up lt e)

    code_none : ((k : ℕ) → k < records frame → place_at frame k ≡ i → ⊥) → frame_code frame i ≡ 0
    code_none h = ap (λ o. unwrap_or (option_map (code_at frame) o) 0) (no_record h)

    -- and 0 if record k is where it would stand, and has another
    pub code_missing : (k : ℕ) → Ascending frame → ((j : ℕ) → j < k → place_at frame j < i) → ((j : ℕ) → k ≤ j → j < records frame → i ≤ place_at frame j) → (k < records frame → place_at frame k ≡ i → ⊥) → frame_code frame i ≡ 0
    code_missing k up before after other =
        code_none (λ j lt e. let lower = before j in let there = after k in let later = up k j in grind arith)

  module _ (n : ℕ) where
    pub length_codes : length (frame_codes frame n) ≡ n
    length_codes = length-map-range_with_len (frame_code frame) 0 n

    -- the list has the code of each place below n, and no more
    pub slice_get_codes : (i : ℕ) → slice_get (frame_codes frame n) i ≡ then_some (nat_lt i n) (frame_code frame i)
    slice_get_codes i =
        let long = length_codes in
        grind (arith, nat_tests, slice_get-get_or (frame_codes frame n) i 0, slice_get_past (frame_codes frame n) i, get_or-map-range_with_len (frame_code frame) 0 n i i 0)

    pub code_there : (i : ℕ) → i < n → slice_get (frame_codes frame n) i ≡ Some (frame_code frame i)
    code_there i lt = let codes = slice_get_codes i in grind (arith, nat_tests)

pub record_codes : RecordCodes
record_codes frame n i k d lt e = code_there frame n i (omega (arith, d.below k lt)) ∙ ap Some (code_found frame i k d.ascending lt e)

pub other_codes : OtherCodes
other_codes frame n i d lt none = code_there frame n i lt ∙ ap Some (code_none frame i none)
