-- A frame has no fault exactly when its records are in order, and a fault 7 names the first that is not. Assumes nothing.
use Rattle.std.proofs.Common.{◌≡◌, ℕ, zero, suc, ◌+◌, ◌-◌, ◌<◌, Bool, true, not, List, Some, None, sym, ap, arith}
use Rattle.std.specs.Option.{option_map}
use Rattle.std.proofs.lemmas.Bool.{not-false}
use Rattle.std.proofs.lemmas.Option.{MatchOption-at_some, MatchOption-at_none}
use Rattle.std.proofs.lemmas.Bool.Decides.{nat_tests}
use Rattle.refusals.specs.Faults.{fault_by}
use Rattle.refusals.specs.declared.faults.Layer.TheVariants.{Line}
use Rattle.refusals.specs.declared.faults.Refusal.TheVariants.{FrameOrder}
use Rattle.firsts.proofs.Firsts.{none_from}
use Rattle.firsts.proofs.Passes.{where_tells, where_only}
use Rattle.feeds.specs.declared.frame_feeds.FrameFeed.{FrameFeed}
use Rattle.feeds.specs.Frames.{records, place_at, in_order, first_offence, frame_fault, Ascending, IsFrame, OffendsFirst, FrameGranted, FirstOffence}

module _ (frame : List ℕ) (n : ℕ) where
  abbrev AllInOrder : Type 0
  AllInOrder = (k : ℕ) → k < records frame → in_order frame n k ≡ true

  chain : AllInOrder → (j d : ℕ) → j + suc d < records frame → place_at frame j < place_at frame (j + suc d)
  chain h j zero lt = let last = h (j + 1) lt in grind (arith, nat_tests)
  chain h j (suc d) lt = let before = chain h j d (omega arith) in let last = h (j + suc (suc d)) lt in grind (arith, nat_tests)

  abbrev offence : ℕ → Bool
  offence k = not (in_order frame n k)

  pub granted_from : frame_fault frame n ≡ None → IsFrame frame n
  granted_from h =
      let o : first_offence frame n ≡ None = grind (arith, nat_tests) in
      let none = MatchOption-at_none _ _ o (where_tells offence 0 (records frame)) in
      let ordered : AllInOrder = λ k lt. not-false _ (none k (omega arith) (omega arith)) in
      record {
        some_place = grind (arith, nat_tests);
        few_places = grind (arith, nat_tests);
        whole = grind (arith, nat_tests);
        below = λ k lt. let here = ordered k lt in grind (arith, nat_tests);
        ascending = λ j k lt inside. let far = chain ordered j (k - suc j) (omega arith) in grind arith;
      }

  granted_to : IsFrame frame n → frame_fault frame n ≡ None
  granted_to d =
      let none : first_offence frame n ≡ None = sym (where_only offence 0 (records frame) None (λ k low high. let below = d.below k (omega arith) in let above = d.ascending (k - 1) k in grind (arith, nat_tests))) in
      grind (arith, nat_tests)

  first_named : (k : ℕ) → frame_fault frame n ≡ Some (fault_by Line FrameOrder k) → OffendsFirst frame n k
  first_named k h =
      let kind = ap (option_map (λ f. f.refusal)) h in
      let position = ap (option_map (λ f. f.position)) h in
      let o : first_offence frame n ≡ Some k = grind (arith, nat_tests) in
      let at = MatchOption-at_some _ _ k o (where_tells offence 0 (records frame)) in (
        omega (arith, at.within),
        let here = at.here in grind (arith, nat_tests),
        λ j lt offends. let before = at.before j (omega arith) lt in grind (arith, nat_tests),
      )

pub frame_granted : FrameGranted
frame_granted frame n = (granted_from frame n, granted_to frame n)

pub first_offence_named : FirstOffence
first_offence_named frame n k = first_named frame n k

-- the places of a checked frame ascend
pub ascends : (f : FrameFeed) → Ascending f.frame.now
ascends f = (granted_from f.frame.now f.places (none_from _ f.sound)).ascending
