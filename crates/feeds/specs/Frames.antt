-- Frames: their records, which faults are found in them, and the codes that they bring. Assumes nothing.
use Rattle.std.specs.Prelude.{◌≡◌, ℕ, ◌+◌, ◌-◌, ◌*◌, ◌/◌, ◌%◌, ◌<◌, ◌≤◌, Bool, cond, not, ◌&&◌, ◌||◌, ◌⊎◌, ◌↔◌, List, map, length, Some, None, Option, ◌==◌, ◌≢◌, nat_eq, nat_le, nat_lt}
use Rattle.std.specs.Option.{option_map, unwrap_or}
use Rattle.std.specs.List.{slice_get, range_with_len}
use Rattle.firsts.specs.First.{first_where}
use Rattle.refusals.specs.Faults.{fault_by}
use Rattle.refusals.specs.Numbers.{u16_at}
use Rattle.refusals.specs.declared.faults.Fault.{Fault}
use Rattle.refusals.specs.declared.faults.Refusal.TheVariants.{SizeOutOfRange, FrameLength, FrameOrder}
use Rattle.refusals.specs.declared.faults.Layer.TheVariants.{Line}

-- the number of records in a frame
abbrev pub records : List ℕ → ℕ
records frame = length frame / 4

-- the place of record k
abbrev pub place_at : List ℕ → ℕ → ℕ
place_at frame k = u16_at frame (4 * k)

-- the code of record k
abbrev pub code_at : List ℕ → ℕ → ℕ
code_at frame k = u16_at frame (4 * k + 2)

-- record k has a place below n and, unless it is the first, above the place of the record before it
abbrev pub in_order : List ℕ → ℕ → ℕ → Bool
in_order frame n k = nat_lt (place_at frame k) n && (k == 0 || nat_lt (place_at frame (k - 1)) (place_at frame k))

-- the first record that is not in order
abbrev pub first_offence : List ℕ → ℕ → Option ℕ
first_offence frame n = first_where (λ k. not (in_order frame n k)) 0 (records frame)

-- what is wrong with a frame that is opened with n: the number first, then its length, then its first offending record
abbrev pub frame_fault : List ℕ → ℕ → Option Fault
frame_fault frame n =
    cond (nat_le 1 n && nat_le n 512) (cond (length frame % 4 == 0) (option_map (fault_by Line FrameOrder) (first_offence frame n)) (Some (fault_by Line FrameLength 0))) (Some (fault_by Line SizeOutOfRange 0))

-- the first record that has place i
abbrev pub record_of : List ℕ → ℕ → Option ℕ
record_of frame i = first_where (λ k. nat_eq (place_at frame k) i) 0 (records frame)

-- the code of that record, and 0 if no record has place i
abbrev pub frame_code : List ℕ → ℕ → ℕ
frame_code frame i = unwrap_or (option_map (code_at frame) (record_of frame i)) 0

-- the codes of the places below n
abbrev pub frame_codes : List ℕ → ℕ → List ℕ
frame_codes frame n = map (frame_code frame) (range_with_len 0 n)

-- the places of the records strictly ascend
abbrev pub Ascending : List ℕ → Type 0
Ascending frame = (j k : ℕ) → j < k → k < records frame → place_at frame j < place_at frame k

-- A frame for n places, 1 to 512: whole records, whose places are below n and strictly ascend.
pub record IsFrame (frame : List ℕ) (n : ℕ) : Type 0 where
  pub some_place : 1 ≤ n
  pub few_places : n ≤ 512
  pub whole : length frame % 4 ≡ 0
  pub below : (k : ℕ) → k < records frame → place_at frame k < n
  pub ascending : Ascending frame

-- the place of record k is not below n, or not above the place of the record before it
abbrev pub Offends : List ℕ → ℕ → ℕ → Type 0
Offends frame n k = (n ≤ place_at frame k) ⊎ ((1 ≤ k) × (place_at frame k ≤ place_at frame (k - 1)))

-- record k offends, and no record before it does
abbrev pub OffendsFirst : List ℕ → ℕ → ℕ → Type 0
OffendsFirst frame n k = (k < records frame) × Offends frame n k × ((j : ℕ) → j < k → Offends frame n j → ⊥)

-- a frame has no fault exactly when it is a frame for n places
abbrev pub FrameGranted : Type 0
FrameGranted = (frame : List ℕ) (n : ℕ) → (frame_fault frame n ≡ None) ↔ IsFrame frame n

-- a refusal by 7 names the first record that offends
abbrev pub FirstOffence : Type 0
FirstOffence = (frame : List ℕ) (n k : ℕ) → frame_fault frame n ≡ Some (fault_by Line FrameOrder k) → OffendsFirst frame n k

-- a granted frame brings place i the code of the record that has this place
abbrev pub RecordCodes : Type 0
RecordCodes = (frame : List ℕ) (n i k : ℕ) → IsFrame frame n → k < records frame → place_at frame k ≡ i → slice_get (frame_codes frame n) i ≡ Some (code_at frame k)

-- and 0 where no record has it
abbrev pub OtherCodes : Type 0
OtherCodes = (frame : List ℕ) (n i : ℕ) → IsFrame frame n → i < n → ((k : ℕ) → k < records frame → place_at frame k ≢ i) → slice_get (frame_codes frame n) i ≡ Some 0
