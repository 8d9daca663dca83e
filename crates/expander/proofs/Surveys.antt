-- What a survey tells: its level is exact, and it names the first set that fails. Assumes nothing.
use Rattle.std.proofs.Common.{◌≡◌, ℕ, zero, suc, ◌+◌, ◌<◌, ◌≤◌, Bool, true, false, ◌⊎◌, List, [], ◌∷◌, ◌++◌, length, get_or, sym, refl, ap, ◌∙◌, inl, inr, ⊎_elim, suc-add, zero-add, arith}
use Rattle.std.specs.List.{AllPass, prefix_len}
use Rattle.std.proofs.lemmas.List.{length-append, get_or_append_left}
use Rattle.std.proofs.lemmas.List.Sums.{prefix_len_passes, prefix_len_stops}
use Rattle.std.proofs.lemmas.Bool.{cases_lt, cases_eq}
use Rattle.graphs.specs.Models.{GraphModel}
use Rattle.expander.specs.Sets.{SetUpTo, Before, AllInOrder, sets_up_to}
use Rattle.expander.specs.Expansion.{expands, AllExpand, Seen, seen, level_of, FailsFirst, Surveyed, SurveysTell}
use Rattle.expander.proofs.SetLists.{resized, sets_in_order}

-- n more sets were looked at before
abbrev pub counted : ℕ → Seen → Seen
counted n r = record { sets = n + r.sets; failing = r.failing }

-- one more set was looked at before
abbrev pub one_more : Seen → Seen
one_more r = record { sets = suc r.sets; failing = r.failing }

one_more_counted : (n : ℕ) (r : Seen) → one_more (counted n r) ≡ counted (suc n) r
one_more_counted n r = ap (λ m. record { sets = m; failing = r.failing }) (sym (suc-add n r.sets))

module _ (test : List ℕ → Bool) where
  -- a set that passes is counted, and the others are looked at
  pub seen_next : (V : List ℕ) (Vs : List (List ℕ)) → test V ≡ true → seen test (V ∷ Vs) ≡ one_more (seen test Vs)
  unfolding seen
  seen_next V Vs e = rw (e, seen)

  -- a set that fails is the last to be looked at
  pub seen_fail : (V : List ℕ) (Vs : List (List ℕ)) → test V ≡ false → seen test (V ∷ Vs) ≡ record { sets = 1; failing = V }
  unfolding seen
  seen_fail V Vs e = rw (e, seen)

  -- where the sets in front pass, they are counted, and the others are looked at
  pub seen-append : (Vs Ws : List (List ℕ)) → AllPass test Vs → seen test (Vs ++ Ws) ≡ counted (length Vs) (seen test Ws)
  seen-append [] Ws h = ap (λ m. record { sets = m; failing = (seen test Ws).failing }) (sym (zero-add (seen test Ws).sets))
  seen-append (V ∷ Vs) Ws h =
      seen_next V (Vs ++ Ws) (h 0 [] (omega arith)) ∙ ap one_more (seen-append Vs Ws (λ k d l. h (suc k) d (omega arith)))
      ∙ one_more_counted (length Vs) (seen test Ws)

  -- where every set passes, every set is counted
  pub seen_all : (Vs : List (List ℕ)) → AllPass test Vs → seen test Vs ≡ record { sets = length Vs; failing = [] }
  unfolding seen
  seen_all [] h = refl
  seen_all (V ∷ Vs) h = seen_next V Vs (h 0 [] (omega arith)) ∙ ap one_more (seen_all Vs (λ k d l. h (suc k) d (omega arith)))

  -- where set k is the first that fails, it is the last to be looked at
  pub seen_first : (Vs : List (List ℕ)) (k : ℕ) → FailsFirst test Vs k → seen test Vs ≡ record { sets = suc k; failing = get_or Vs k [] }
  seen_first [] k h = absurd (omega arith)
  seen_first (V ∷ Vs) zero h = seen_fail V Vs h.fails
  seen_first (V ∷ Vs) (suc k) h =
      let later : FailsFirst test Vs k = record { within = omega arith; before = λ i l. h.before (suc i) (omega arith); fails = h.fails } in
      seen_next V Vs (h.before 0 (omega arith)) ∙ ap one_more (seen_first Vs k later)

  -- the first set that fails is the first in every longer list
  pub fails-append : (Vs Ws : List (List ℕ)) (k : ℕ) → FailsFirst test Vs k → FailsFirst test (Vs ++ Ws) k
  fails-append Vs Ws k h = record {
    within = omega (arith, length-append Vs Ws);
    before = λ i l. ap test (get_or_append_left Vs Ws [] i (omega arith)) ∙ h.before i l;
    fails = ap test (get_or_append_left Vs Ws [] k h.within) ∙ h.fails;
  }

  -- behind a set that passes, the first that fails stays the first
  fails_next : (V : List ℕ) (Vs : List (List ℕ)) (k : ℕ) → test V ≡ true → FailsFirst test Vs k → FailsFirst test (V ∷ Vs) (suc k)
  fails_next V Vs k e h = record { within = omega arith; before = earlier; fails = h.fails }
    where
      earlier : (i : ℕ) → i < suc k → test (get_or (V ∷ Vs) i []) ≡ true
      earlier zero l = e
      earlier (suc i) l = h.before i (omega arith)

  -- every set passes, or one is the first that fails
  pub all_or_first : (Vs : List (List ℕ)) → AllPass test Vs ⊎ ((k : ℕ) × FailsFirst test Vs k)
  all_or_first Vs =
      let passes : (i : ℕ) → i < prefix_len test Vs → test (get_or Vs i []) ≡ true = λ i l. prefix_len_passes test Vs i [] l in
      ⊎_elim
      (λ (some : prefix_len test Vs < length Vs). inr (prefix_len test Vs, record { within = some; before = passes; fails = prefix_len_stops test Vs [] some }))
      (λ (none : length Vs ≤ prefix_len test Vs). inl (λ k d l. prefix_len_passes test Vs k d (omega arith)))
      (cases_lt (prefix_len test Vs) (length Vs))

-- the level is one below the size of a failing set
pub level_below : (s : ℕ) (V : List ℕ) → 1 ≤ length V → suc (level_of s V) ≡ length V
level_below s [] h = absurd (omega arith)
level_below s (p ∷ V) h = refl

-- a set is no larger than those that come after it
before_size : (V W : List ℕ) → Before V W → length V ≤ length W
before_size V W h = grind arith

module _ (g : GraphModel) (s : ℕ) where
  -- the sets that are looked at, and their order
  abbrev listed : List (List ℕ)
  listed = sets_up_to g.places s

  in_place : AllInOrder g.places s listed
  in_place = sets_in_order g.places s

  -- no set of the list is larger than a later one
  pub sizes_rise : (i k : ℕ) → i ≤ k → k < length listed → length (get_or listed i []) ≤ length (get_or listed k [])
  sizes_rise i k l h =
      ⊎_elim
      (λ same. omega (arith, ap (λ x. length (get_or listed x [])) same))
      (λ other. before_size (get_or listed i []) (get_or listed k []) (in_place.in_order i k (omega arith) h))
      (cases_eq i k)

  -- what a survey that saw r tells
  abbrev Told : Seen → Type 0
  Told r = Surveyed g s (record { level = level_of s r.failing; sets = r.sets; failing = r.failing })

  -- a set expands if the one at its place in the list does
  expands_at : (V : List ℕ) → SetUpTo g.places s V → ((k : ℕ) → k < length listed → get_or listed k [] ≡ V → expands g (get_or listed k []) ≡ true) → expands g V ≡ true
  expands_at V h there = let at = in_place.complete V h in ap (expands g) (sym at.2) ∙ there at.0 at.1 at.2

  -- where every set expands, the level is the size of the survey
  told_all : AllPass (expands g) listed → Told (record { sets = length listed; failing = [] })
  told_all pass =
      let all : AllExpand g s = λ V h. expands_at V h (λ k l e. pass k [] l) in
      record {
        low = omega arith;
        all = all;
        largest = λ t l h. l;
        named = λ some. absurd (omega arith);
        unnamed = λ none. (all, refl);
      }

  module _ (k : ℕ) (first : FailsFirst (expands g) listed k) where
    abbrev failed : List ℕ
    failed = get_or listed k []

    failed_set : SetUpTo g.places s failed
    failed_set = in_place.sound k first.within

    -- a set smaller than the first that fails stands before it
    smaller_expand : (V : List ℕ) → SetUpTo g.places s V → length V < length failed → expands g V ≡ true
    smaller_expand V h less =
        expands_at V h (λ i l e. ⊎_elim (first.before i) (λ later. absurd (omega (arith, ap length e, sizes_rise k i later l))) (cases_lt i k))

    -- where a set fails, the level is one below its size
    told_first : Told (record { sets = suc k; failing = failed })
    told_first =
        let size = level_below s failed failed_set.some in
        record {
          low = omega (arith, failed_set.few);
          all = λ V h. smaller_expand V (resized _ _ s V (omega (arith, h.few, failed_set.few)) h) (omega (arith, h.few));
          largest = λ t l h.
              ⊎_elim
              (λ less. cc (h failed (resized _ s t failed (omega arith) failed_set)))
              (λ enough. enough)
              (cases_lt (level_of s failed) t);
          named = λ some. (k, first, refl, refl);
          unnamed = λ none. absurd (omega (arith, failed_set.some));
        }

-- either way the survey tells what it should
pub surveys_tell : SurveysTell
surveys_tell g s =
    ⊎_elim
    (λ pass. rw (seen_all (expands g) (listed g s) pass) (told_all g s pass))
    (λ fail. rw (seen_first (expands g) (listed g s) fail.0 fail.1) (told_first g s fail.0 fail.1))
    (all_or_first (expands g) (listed g s))
