-- A walk along a range, in which each call is handed what the call before it made, fails with the first answer. Assumes nothing.
use denote.Param.Members.{Mut, Called}
use Rattle.std.proofs.Common.{◌≡◌, ℕ, zero, suc, ◌-◌, ◌<◌, List, [], ◌∷◌, Some, None, Option, Ok, Err, Result, MatchOption, refl, sym, ap, ◌∙◌, subst, arith}
use Rattle.std.specs.Fn.{Takes}
use Rattle.std.specs.Iterator.{Yields, YieldsThen, CallableAtEachTurn, TryFoldTurn, TryFoldsItems}
use Rattle.std.specs.Iterator.Runs.{CallKeepsClosure}
use Rattle.std.specs.List.{FoldsTo}
use Rattle.std.specs.Result.{IfOk, IsErr, IsErrAnd, result_err, result_from_control_flow}
use Rattle.std.specs.declared.ops.Range.{Range}
use Rattle.std.proofs.iter.Yields.{nat_range_steps, serves_by}
use Rattle.firsts.specs.First.{first}

err_is : {T E : Type 0} (r : Result T E) (e : E) → IsErrAnd r (λ x. x ≡ e) → result_err r ≡ Some e
err_is (Ok x) e h = absurd h
err_is (Err x) e h = ap Some h

same_end : (xs : List ℕ) (s t : Range ℕ) → Yields nat_range_steps s xs t → t.end ≡ s.end
same_end [] s t y = ap (λ (z : Range ℕ). z.end) (sym y)
same_end (x ∷ xs) s t (j, step, y) = same_end xs j t y ∙ step.0

module _ {B E F : Type 0} (g : Mut F (B × (ℕ × Unit {0})) (Result B E)) (f : F) (keeps : CallKeepsClosure g f) where
  abbrev Turn : F × B → ℕ → F × B → Type 0
  Turn = TryFoldTurn g (λ v c. v ≡ result_from_control_flow c)

  pub callable_along : (s : Range ℕ) (b : B) → ((b : B) (x : ℕ) → x < s.end → Takes g f (b, (x, tt))) → CallableAtEachTurn nat_range_steps Turn (λ p x. Takes g p.0 (p.1, (x, tt))) s (f, b)
  callable_along s b takes =
      serves_by Turn (λ xs q. q.0 ≡ f) (λ xs q x w j turn. keeps _ turn.0 w.0 (subst (λ k. Called g k (q.1, (x, tt)) turn.0 w.0) j turn.1)) nat_range_steps _ s (f, b) refl
      (λ xs t q x u y e j. subst (λ k. Takes g k (q.1, (x, tt))) (sym j) (takes q.1 x (omega (arith, same_end xs s t y, e.1.0, e.1.1))))

  module _ (answer : ℕ → Option E) (state : ℕ → B) (end : ℕ) where
    -- handed what belongs to a number, a call fails with the number's answer, or makes what belongs to the next number
    abbrev pub HandsOn : Type 0
    HandsOn = (x : ℕ) (v : Result B E) → x < end → Called g f (state x, (x, tt)) v f → (result_err v ≡ answer x) × IfOk v (λ b. b ≡ state (suc x))

    -- how the walk ended: the range was at its end, or the call at its next number failed
    abbrev Ends : Option ℕ → F × B → Result B E → Type 0
    Ends o q r = MatchOption o (r ≡ Ok q.1) (λ x. (v : Result B E) × (h : F) × (e : E) × Called g q.0 (q.1, (x, tt)) v h × (v ≡ Err e) × (result_err r ≡ Some e))

    module _ (hands : HandsOn) where
      told : (x k : ℕ) (p : F × B) (v : Result B E) (h : F) → x ≡ k → p ≡ (f, state k) → k < end → Called g p.0 (p.1, (x, tt)) v h → (result_err v ≡ answer k) × IfOk v (λ b. b ≡ state (suc k)) × (h ≡ f)
      told x k p v h x-is p-is below called =
          let here = subst (λ (z : (F × B) × ℕ). Called g z.0.0 (z.0.1, (z.1, tt)) v h) {y = ((f, state k), k)} (λ i. (p-is i, x-is i)) called in
          let kept = keeps _ v h here in
          let t = hands k v below (subst (Called g f (state k, (k, tt)) v) kept here) in
          (t.0, t.1, kept)

      walked : (xs : List ℕ) (o : Option ℕ) (s u : Range ℕ) (p q : F × B) (r : Result B E) (k n : ℕ) → s.start ≡ k → s.end ≡ end → end - k ≡ n → p ≡ (f, state k)
          → YieldsThen nat_range_steps s xs o u → FoldsTo Turn p xs q → Ends o q r → result_err r ≡ first answer k n
      walked [] None s u p q r k zero from to long same y c done = ap result_err done
      walked [] None s u p q r k (suc n) from to long same (t, begun, (e, (none, stays))) c done = absurd (omega (arith, none, ap (λ (z : Range ℕ). z.start) begun, ap (λ (z : Range ℕ). z.end) begun))
      walked [] (Some x) s u p q r k zero from to long same (t, begun, (e, (some, here, up))) c done = absurd (omega (arith, some, ap (λ (z : Range ℕ). z.start) begun, ap (λ (z : Range ℕ). z.end) begun))
      walked [] (Some x) s u p q r k (suc n) from to long same (t, begun, (stays, (some, here, up))) c (v, h, e, called, broke, err) =
          let t = told x k q v h (omega (arith, here, from, ap (λ (z : Range ℕ). z.start) begun)) (sym c ∙ same) (omega (arith, long)) called in
          let fails : answer k ≡ Some e = sym t.0 ∙ ap result_err broke in
          rw fails err
      walked (x ∷ xs) o s u p q r k zero from to long same (t, (j, (e, (some, here, up)), ys), last) c done = absurd (omega (arith, some))
      walked (x ∷ xs) o s u p q r k (suc n) from to long same (t, (j, (e, (some, here, up)), ys), last) (m, (v, called, goes), c) done =
          let w = told x k p v m.0 (omega (arith, here, from)) same (omega (arith, long)) called in
          let passes : answer k ≡ None = sym w.0 ∙ ap result_err goes in
          let next : m.1 ≡ state (suc k) = subst (λ v. IfOk v (λ b. b ≡ state (suc k))) goes w.1 in
          rw passes (walked xs o j u m q r (suc k) n (omega (arith, up, from)) (e ∙ to) (omega (arith, long)) (λ i. (w.2 i, next i)) (t, ys, last) c done)

      -- a `try_fold` over the n numbers from k on fails with the first answer
      pub first_by_try_fold : (s u : Range ℕ) (b : B) (r : Result B E) (k n : ℕ) → s.start ≡ k → s.end ≡ end → end - k ≡ n → b ≡ state k
          → TryFoldsItems nat_range_steps g (λ v c. v ≡ result_from_control_flow c) (λ e v. IsErr v × IsErrAnd v (λ x. x ≡ e.0)) s f b r u → result_err r ≡ first answer k n
      first_by_try_fold s u b r k n from to long begun (xs, None, j, a, y, c, done) = walked xs None s u (f, b) (j, a) r k n from to long (λ i. (f, begun i)) y c done
      first_by_try_fold s u b r k n from to long begun (xs, Some x, j, a, y, c, (v, h, e, called, broke, failed)) = walked xs (Some x) s u (f, b) (j, a) r k n from to long (λ i. (f, begun i)) y c (v, h, e.0, called, broke, err_is r e.0 failed.1)
