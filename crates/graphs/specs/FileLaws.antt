-- A file has no fault exactly when it describes a graph, and that graph is lawful. Assumes nothing.
use Rattle.std.specs.Prelude.{◌≡◌, ℕ, zero, suc, ◌+◌, ◌-◌, ◌*◌, ◌/◌, ◌%◌, ◌<◌, ◌≤◌, Bool, true, false, cond, ◌⊎◌, List, length, is_some, Some, None, Option, ◌==◌, ◌≢◌, refl}
use Rattle.std.proofs.Common.{sym, ◌∙◌, ap, subst, inl, inr, ⊎_elim, mul-zero, zero-mul, mul_comm, le-mul_of_pos_right, mod-lt, mod-eq_of_lt, div-add-mod', arith}
use Rattle.std.proofs.Math.Nat.{mod-eq-sub-mod}
use Rattle.std.proofs.Math.Arith.{digits_lt, digits_div, digits_mod}
use Rattle.std.proofs.lemmas.Bool.{eqb-true, eq-eqb, cases_lt}
use Rattle.std.proofs.lemmas.Bool.Decides.{nat_tests}
use Rattle.std.proofs.lemmas.Nat.{div_below, mod_below}
use Rattle.graphs.specs.declared.records.Entry.{Entry}
use Rattle.graphs.specs.declared.records.Form.{Form}
use Rattle.graphs.specs.declared.records.Form.TheVariants.{Listed, Lift}
use Rattle.graphs.specs.declared.records.Shape.{Shape}
use Rattle.firsts.proofs.Firsts.{none_from, first_all_none, all_none_first}
use Rattle.graphs.specs.Models.{Sizes, Valid, HasEdge}
use Rattle.graphs.specs.Files.{width, entry_of, places_of, rows_of, records_of, sizes_fit, entry_fault, record_fault, first_fault, file_fault, Octets, Below, Describes, row_of, record_of, file_model, FileEdge}

pub sizes_of : (s : Shape) → sizes_fit s ≡ true → Sizes (places_of s) (rows_of s) s.degree
sizes_of s h = record {
  some_place = grind (arith, nat_tests);
  few_places = grind (arith, nat_tests);
  some_row = grind (arith, nat_tests);
  few_rows = grind (arith, nat_tests);
  some_edge = grind (arith, nat_tests);
  few_edges = grind (arith, nat_tests);
  enough_rows = grind (arith, nat_tests);
}

sizes_from : (s : Shape) → Sizes (places_of s) (rows_of s) s.degree → sizes_fit s ≡ true
sizes_from s z = grind (arith, nat_tests)

-- each factor of a product that is not 0 is not 0
pub factors : (a b : ℕ) → 1 ≤ a * b → (1 ≤ a) × (1 ≤ b)
factors zero b h = absurd (omega (arith, zero-mul b))
factors (suc a) zero h = absurd (omega (arith, mul-zero (suc a)))
factors (suc a) (suc b) h = (omega arith, omega arith)

-- What is right about record k.
pub record Good (s : Shape) (k : ℕ) (before e : Entry) : Type 0 where
  pub column : e.column ≡ k / s.degree
  pub order : (k % s.degree ≡ 0) ⊎ Below before e
  pub base : e.base < s.bases
  pub shift : e.shift < s.lift
  pub weight : 1 ≤ e.weight

good_from : (s : Shape) (k : ℕ) (before e : Entry) → entry_fault s k before e ≡ None → Good s k before e
good_from s k before e h = record {
  column = grind (arith, nat_tests);
  order = grind (arith, nat_tests);
  base = grind (arith, nat_tests);
  shift = grind (arith, nat_tests);
  weight = grind (arith, nat_tests);
}

good_to : (s : Shape) (k : ℕ) (before e : Entry) → Good s k before e → entry_fault s k before e ≡ None
good_to s k before e g = grind (arith, nat_tests)

below_trans : (a b c : Entry) → Below a b → Below b c → Below a c
below_trans a b c p q = grind (arith, nat_tests)

two : {A : Type 0} (a b : Bool) (o : Option A) (x y : A) → cond a (cond b o (Some x)) (Some y) ≡ None → (a ≡ true) × (b ≡ true) × (o ≡ None)
two a b o x y h = grind (arith, nat_tests)

module _ (bytes : List ℕ) (s : Shape) where
  abbrev at : ℕ → Entry
  at k = entry_of s.form bytes k

  -- every record is good
  abbrev AllGood : Type 0
  AllGood = (k : ℕ) → k < records_of s → Good s k (at (k - 1)) (at k)

  all_good : first_fault bytes s ≡ None → AllGood
  all_good h k lt = good_from s k _ _ (all_none_first (record_fault bytes s) 0 (records_of s) h k (omega arith) (omega arith))

  none_bad : AllGood → first_fault bytes s ≡ None
  none_bad h = first_all_none (record_fault bytes s) 0 (records_of s) (λ k low high. good_to s k _ _ (h k (omega arith)))

  module _ (some : 1 ≤ s.degree) where
    -- in a column each record but the first stands above the one before it
    next : AllGood → (i k : ℕ) → i < s.columns → suc k < s.degree → Below (at (i * s.degree + k)) (at (i * s.degree + suc k))
    next h i k li lk =
        let r = i * s.degree + suc k in
        let inside : r < records_of s = digits_lt li lk in
        let back : r - 1 ≡ i * s.degree + k = omega arith in
        ⊎_elim
        (λ z. absurd (omega (arith, z, digits_mod i lk)))
        (λ b. subst (λ x. Below (at x) (at r)) back b)
        (h r inside).order

    chain : AllGood → (i j d : ℕ) → i < s.columns → j + suc d < s.degree → Below (at (i * s.degree + j)) (at (i * s.degree + (j + suc d)))
    chain h i j zero li lk =
        let e : suc j ≡ j + 1 = omega arith in
        subst (λ x. Below (at (i * s.degree + j)) (at (i * s.degree + x))) e (next h i j li (omega arith))
    chain h i j (suc d) li lk =
        let e : suc (j + suc d) ≡ j + suc (suc d) = omega arith in
        below_trans (at (i * s.degree + j)) (at (i * s.degree + (j + suc d))) (at (i * s.degree + (j + suc (suc d)))) (chain h i j d li (omega arith))
        (subst (λ x. Below (at (i * s.degree + (j + suc d))) (at (i * s.degree + x))) e (next h i (j + suc d) li (omega arith)))

  pub describes_from : file_fault bytes s ≡ None → Describes bytes s
  describes_from h =
      let p = two (sizes_fit s) (length bytes == width s.form * records_of s) (first_fault bytes s) _ _ h in
      let z = sizes_of s p.0 in
      let g = all_good p.2 in
      record {
        sizes = z;
        long = eqb-true (length bytes) (width s.form * records_of s) p.1;
        column = λ k l. (g k l).column;
        ascend = λ i j k li lj lk. let e : j + suc (k - suc j) ≡ k = omega arith in subst (λ x. Below (at (i * s.degree + j)) (at (i * s.degree + x))) e (chain z.some_edge g i j (k - suc j) li (omega arith));
        base = λ k l. (g k l).base;
        shift = λ k l. (g k l).shift;
        weight = λ k l. (g k l).weight;
      }

  order_from : Describes bytes s → (k m : ℕ) → k % s.degree ≡ m → k < records_of s → (m ≡ 0) ⊎ Below (at (k - 1)) (at k)
  order_from d k zero e l = inl refl
  order_from d k (suc m) e l =
      let some = d.sizes.some_edge in
      let whole = div-add-mod' k s.degree in
      let above : k / s.degree * s.degree + suc m ≡ k = omega arith in
      let before : k / s.degree * s.degree + m ≡ k - 1 = omega arith in
      let b = d.ascend (k / s.degree) m (suc m) (div_below k s.degree s.columns some l) (omega arith) (omega (arith, mod_below k s.degree some)) in
      inr (subst (λ x. Below (at (k - 1)) (at x)) above (subst (λ x. Below (at x) (at (k / s.degree * s.degree + suc m))) before b))

  pub describes_to : Describes bytes s → file_fault bytes s ≡ None
  describes_to d =
      let n : first_fault bytes s ≡ None = none_bad (λ k l. record {
        column = d.column k l;
        order = order_from d k (k % s.degree) refl l;
        base = d.base k l;
        shift = d.shift k l;
        weight = d.weight k l;
      }) in
      rw (sizes_from s d.sizes, eq-eqb (length bytes) (width s.form * records_of s) d.long) n

-- a sum of two numbers below l, taken mod l
turned : (l t x : ℕ) → t < l → x < l → (((t + x) % l ≡ t + x) × (t + x < l)) ⊎ (((t + x) % l ≡ t + x - l) × (l ≤ t + x))
turned l t x ht hx =
    ⊎_elim (λ h. inl (mod-eq_of_lt h, h)) (λ h. let small : t + x - l < l = omega arith in inr (mod-eq-sub-mod h ∙ mod-eq_of_lt small, h)) (cases_lt (t + x) l)

-- different shifts below l lead one place to different rows
apart : (l t x y : ℕ) → t < l → x < y → y < l → (t + x) % l ≢ (t + y) % l
apart l t x y ht hx hy e =
    let hx' : x < l = omega arith in
    ⊎_elim
    (λ p. ⊎_elim (λ q. omega arith) (λ q. omega arith) (turned l t y ht hy))
    (λ p. ⊎_elim (λ q. omega arith) (λ q. omega arith) (turned l t y ht hy))
    (turned l t x ht hx')

-- different records of a column lead one place to different rows
rows_apart : (s : Shape) (d e : Entry) (t : ℕ) → t < s.lift → e.shift < s.lift → Below d e → row_of s d t ≢ row_of s e t
rows_apart s d e t ht he b same =
    let low = mod-lt (t + d.shift) {m = s.lift} (omega arith) in
    ⊎_elim
    (λ l. let far : row_of s d t < e.base * s.lift = digits_lt l low in omega arith)
    (λ r. apart s.lift t d.shift e.shift ht r.1 he (let up : d.base * s.lift ≡ e.base * s.lift = ap (λ x. x * s.lift) r.0 in omega arith))
    b

weight_fits : (form : Form) (bytes : List ℕ) (k : ℕ) → Octets bytes → (entry_of form bytes k).weight ≤ 65535
weight_fits Listed bytes k o = omega (arith, o (6 * k + 4), o (6 * k + 4 + 1))
weight_fits Lift bytes k o = omega (arith, o (8 * k + 6), o (8 * k + 6 + 1))

module _ (bytes : List ℕ) (s : Shape) (d : Describes bytes s) where
  pub some_lift : 1 ≤ s.lift
  some_lift = (factors s.columns s.lift d.sizes.some_place).1

  pub few_lift : s.lift ≤ 512
  few_lift =
      let product = le-mul_of_pos_right s.lift (factors s.columns s.lift d.sizes.some_place).0 in
      omega (arith, product, mul_comm s.lift s.columns, d.sizes.few_places)

  in_column : (i : ℕ) → i < places_of s → i / s.lift < s.columns
  in_column i h = div_below i s.lift s.columns some_lift h

  pub in_file : (i k : ℕ) → i < places_of s → k < s.degree → record_of s i k < records_of s
  in_file i k hi hk = digits_lt (in_column i hi) hk

  pub valid_file : Octets bytes → Valid (file_model bytes s)
  valid_file o = record {
    sizes = d.sizes;
    row_below = λ i k hi hk. digits_lt (d.base (record_of s i k) (in_file i k hi hk)) (mod-lt (i % s.lift + (entry_of s.form bytes (record_of s i k)).shift) some_lift);
    different = λ i j k hi hj hk. rows_apart s (entry_of s.form bytes (record_of s i j)) (entry_of s.form bytes (record_of s i k)) (i % s.lift) (mod-lt i some_lift) (d.shift (record_of s i k) (in_file i k hi hk)) (d.ascend (i / s.lift) j k (in_column i hi) hj hk);
    weight_low = λ i k hi hk. d.weight (record_of s i k) (in_file i k hi hk);
    weight_high = λ i k hi hk. weight_fits s.form bytes (record_of s i k) o;
  }

  pub edge_in_file : (i j w : ℕ) → HasEdge (file_model bytes s) i j w → FileEdge bytes s i j w
  edge_in_file i j w (hi, (k, hk, er, ew)) =
      let r = record_of s i k in
      let c : (entry_of s.form bytes r).column ≡ i / s.lift = d.column r (in_file i k hi hk) ∙ digits_div (i / s.lift) hk in
      (r, i % s.lift, in_file i k hi hk, mod-lt i some_lift, ap (λ x. x * s.lift + i % s.lift) c ∙ div-add-mod' i s.lift, er, ew)

  pub edge_of_file : (i j w : ℕ) → FileEdge bytes s i j w → HasEdge (file_model bytes s) i j w
  edge_of_file i j w (r, t, hr, ht, ei, ej, ew) =
      let c = s.degree in
      let some = d.sizes.some_edge in
      let whole : r / c * s.lift + t ≡ i = ap (λ x. x * s.lift + t) (sym (d.column r hr)) ∙ ei in
      let quotient : i / s.lift ≡ r / c = ap (λ x. x / s.lift) (sym whole) ∙ digits_div (r / c) ht in
      let rest : i % s.lift ≡ t = ap (λ x. x % s.lift) (sym whole) ∙ digits_mod (r / c) ht in
      let same : record_of s i (r % c) ≡ r = ap (λ x. x * c + r % c) quotient ∙ div-add-mod' r c in (
        subst (λ x. x < places_of s) whole (digits_lt (div_below r c s.columns some hr) ht),
        (r % c, mod-lt r some, (λ p. row_of s (entry_of s.form bytes (same p)) (rest p)) ∙ ej, ap (λ x. (entry_of s.form bytes x).weight) same ∙ ew),
      )

-- the graph of a file that has no fault is lawful
pub valid_granted : (bytes : List ℕ) (s : Shape) → Octets bytes → is_some (file_fault bytes s) ≡ false → Valid (file_model bytes s)
valid_granted bytes s octets sound = valid_file bytes s (describes_from bytes s (none_from _ sound)) octets
