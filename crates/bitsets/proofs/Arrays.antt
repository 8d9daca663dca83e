-- An array that is made by a closure of the index. Assumes nothing.
use denote.Param.Members.{Mut, Called}
use Rattle.std.proofs.Common.{◌≡◌, ℕ, zero, suc, ◌+◌, ◌<◌, ◌≤◌, List, get_or, sym, ap, ◌∙◌, subst, ⊎_elim, arith}
use Rattle.std.specs.Array.{IsFromFnResultFrom}
use Rattle.std.proofs.lemmas.Bool.{cases_eq}

-- where each call leaves the closure as it was and gives h of the index, each element is h of its index
module _ {F : Type 0} (g : Mut F (ℕ × Unit {0}) ℕ) (f : F) (h : ℕ → ℕ) (ys : List ℕ) (gives : (i y : ℕ) (q : F) → Called g f (i, tt) y q → (q ≡ f) × (y ≡ h i)) where
  pub made_at : (i n : ℕ) → IsFromFnResultFrom g f ys i n → (k : ℕ) → i ≤ k → k < i + n → get_or ys k 0 ≡ h k
  made_at i zero made k low high = absurd (omega arith)
  made_at i (suc n) (q, y, at, call, later) k low high =
      let is = gives i y q call in
      ⊎_elim
      (λ e. ap (λ j. get_or ys j 0) e ∙ at.1 0 ∙ is.1 ∙ ap h (sym e))
      (λ ne. made_at (i + 1) n (subst (λ p. IsFromFnResultFrom g p ys (i + 1) n) is.0 later) k (omega arith) (omega arith))
      (cases_eq k i)
