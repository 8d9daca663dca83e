use Rattle.std.proofs.Common.{◌≡◌, ℕ, zero, suc, ◌+◌, ◌*◌, ◌<◌, List, get_or, take, drop, refl, ap, ◌∙◌, arith}
use Rattle.std.specs.Simd.{first_chunks}
use Rattle.std.proofs.lemmas.List.{get_or-take, get_or-drop, drop-drop}
use Rattle.refusals.specs.Numbers.{u16_at}
use Rattle.feeds.specs.Frames.{records}
use Rattle.feeds.proofs.records.records.Goals as goal

-- array k of a list that is cut into arrays of n
chunk_is : (n m k : ℕ) (xs d : List ℕ) → k < m → get_or (first_chunks n m xs) k d ≡ take n (drop (n * k) xs)
chunk_is n zero k xs d lt = absurd (omega arith)
chunk_is n (suc m) zero xs d lt = let none : n * 0 ≡ 0 = omega arith in rw none refl
chunk_is n (suc m) (suc k) xs d lt =
    let more : n + n * k ≡ n * suc k = grind arith in
    chunk_is n m k (drop n xs) d (omega arith) ∙ ap (take n) (drop-drop (n * k) n xs ∙ ap (λ j. drop j xs) more)

-- the number at byte i of array k
number_is : (n m k i : ℕ) (xs d : List ℕ) → k < m → i + 1 < n → u16_at (get_or (first_chunks n m xs) k d) i ≡ u16_at xs (n * k + i)
number_is n m k i xs d lt low = let row = chunk_is n m k xs d lt in grind (arith, get_or-take, get_or-drop)

pub returns-clause-places : goal.returns-clause-places
returns-clause-places c = λ k d lt. let first = number_is 4 (records c.args.frame.now) k 0 c.args.frame.now d lt (omega arith) in grind (arith, c.as_chunks.ensures.front)

pub returns-clause-codes : goal.returns-clause-codes
returns-clause-codes c = λ k d lt. let second = number_is 4 (records c.args.frame.now) k 2 c.args.frame.now d lt (omega arith) in grind (arith, c.as_chunks.ensures.front)
