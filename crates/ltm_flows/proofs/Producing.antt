-- Where amounts lie in their table, and what one that is set makes of it.
use Rattle.std.proofs.Common.{◌≡◌, ◌≢◌, ℕ, ◌+◌, ◌-◌, ◌*◌, ◌%◌, ◌^◌, ◌<◌, ◌≤◌, ◌⊎◌, List, length, replicate, slice_index, slice_index_or, slice_set, ◌++◌, arith, inl, inr, ap, sym, subst, ◌∙◌, get_or-set_same, get_or-set_other}
use Rattle.std.proofs.Math.Nat.{mul-le-mul_right}
use Rattle.std.proofs.lemmas.Bool.{cases_eq, cases_lt}
use Rattle.std.proofs.lemmas.Nat.{same_from_place}
use Rattle.std.proofs.lemmas.Grind.{get_or_default_zero}
use Rattle.std.proofs.lemmas.List.{get_or-replicate, length-replicate, length-set}
use Rattle.ltm_units.specs.Bounds.{most_produced}
use Rattle.ltm_units.specs.Sums.{sum_below}
use Rattle.ltm_units.proofs.Sums.{sum_below-same, sum_below-zero, sum_below-change, sum_below-most, le-sum_below}
use Rattle.ltm_curve.proofs.Longer.{at_old, at_new}
use Rattle.ltm_flows.specs.Amounts.{amount_at, AreAmounts}
use Rattle.ltm_flows.specs.Production.{produced_in, SetsAmount}
use Rattle.ltm_flows.specs.declared.production.Production.{Production}

-- ---- places
pub place_within : (nodes last column boundary : ℕ) → column ≤ nodes → boundary ≤ last → boundary * (nodes + 1) + column < (last + 1) * (nodes + 1)
place_within nodes last column boundary c b =
    let up : boundary + 1 ≤ last + 1 = omega (arith, b) in
    let rows : (boundary + 1) * (nodes + 1) ≤ (last + 1) * (nodes + 1) = mul-le-mul_right (nodes + 1) up in omega (arith, c, rows)

places_apart : (nodes a k b j : ℕ) → a ≤ nodes → b ≤ nodes → (a ≢ b) ⊎ (k ≢ j) → k * (nodes + 1) + a ≢ j * (nodes + 1) + b
places_apart nodes a k b j x y differs = λ e.
    let same = same_from_place k a j b (nodes + 1) (omega (arith, x)) (omega (arith, y)) e in elim differs [ inl c ↦ c same.1 | inr c ↦ c same.0 ]

-- an amount that is read
pub read : (xs : List ℕ) (nodes last column boundary place value : ℕ) → AreAmounts nodes last xs → column ≤ nodes → boundary ≤ last → place ≡ boundary * (nodes + 1) + column →
    value ≡ slice_index_or xs place value → value ≡ amount_at xs nodes column boundary
read xs nodes last column boundary place value are c b at is =
    is ∙ (get_or_default_zero xs place value (omega (arith, at, are.long, place_within nodes last column boundary c b)) ∙ ap (λ (i : ℕ). slice_index xs i) at)

-- ---- no amounts
pub none_are : (nodes last : ℕ) (xs : List ℕ) → xs ≡ replicate ((last + 1) * (nodes + 1)) 0 → AreAmounts nodes last xs
none_are nodes last xs is =
    let none : (n k : ℕ) → n ≤ nodes → k ≤ last → amount_at xs nodes n k ≡ 0 =
    λ n k c b. ap (λ (ys : List ℕ). amount_at ys nodes n k) is ∙ get_or-replicate ((last + 1) * (nodes + 1)) (k * (nodes + 1) + n) 0 0 (place_within nodes last n k c b) in
    record {
      long = ap length is ∙ length-replicate ((last + 1) * (nodes + 1)) 0;
      small = λ n k l m. omega (arith, none n k (omega (arith, l)) m);
      adds_up = λ k m. omega (arith, none nodes k (omega arith) m, sum_below-zero nodes (λ n. amount_at xs nodes n k) (λ n l. none n k (omega (arith, l)) m));
    }

pub nothing_at : (nodes last : ℕ) (xs : List ℕ) → xs ≡ replicate ((last + 1) * (nodes + 1)) 0 → (n k : ℕ) → n < nodes → k ≤ last → amount_at xs nodes n k ≡ 0
nothing_at nodes last xs is n k c b = ap (λ (ys : List ℕ). amount_at ys nodes n k) is ∙ get_or-replicate ((last + 1) * (nodes + 1)) (k * (nodes + 1) + n) 0 0 (place_within nodes last n k (omega (arith, c)) b)

-- ---- zeros behind amounts
pub more_are : (nodes last more : ℕ) (xs ys : List ℕ) (zeros : ℕ) → AreAmounts nodes last xs → last ≤ more → ys ≡ xs ++ replicate zeros 0 → length ys ≡ (more + 1) * (nodes + 1) → AreAmounts nodes more ys
more_are nodes last more xs ys zeros are l is long =
    let old : (n k : ℕ) → n ≤ nodes → k ≤ last → amount_at ys nodes n k ≡ amount_at xs nodes n k =
    λ n k c b. ap (λ (zs : List ℕ). amount_at zs nodes n k) is ∙ at_old xs zeros (k * (nodes + 1) + n) (omega (arith, are.long, place_within nodes last n k c b)) in
    let new : (n k : ℕ) → last < k → amount_at ys nodes n k ≡ 0 =
    λ n k b. ap (λ (zs : List ℕ). amount_at zs nodes n k) is
    ∙ at_new xs zeros (k * (nodes + 1) + n) (let rows : (last + 1) * (nodes + 1) ≤ k * (nodes + 1) = mul-le-mul_right (nodes + 1) (let up : last + 1 ≤ k = omega (arith, b) in up) in omega (arith, are.long, rows)) in
    record {
      long = long;
      small = λ n k m b. elim (cases_lt last k) [ inl past ↦ omega (arith, new n k past) | inr low ↦ omega (arith, old n k (omega (arith, m)) low, are.small n k m low) ];
      adds_up = λ k b.
          elim (cases_lt last k) [
            | inl past ↦ omega (arith, new nodes k past, sum_below-zero nodes (λ n. amount_at ys nodes n k) (λ n m. new n k past))
            | inr low ↦
                old nodes k (omega arith) low ∙ (are.adds_up k low ∙ ap (λ (z : ℕ). z % 2 ^ 64) (sum_below-same nodes (λ n. amount_at xs nodes n k) (λ n. amount_at ys nodes n k) (λ n m. sym (old n k (omega (arith, m)) low))))
          ];
    }

pub more_stay : (nodes last : ℕ) (xs ys : List ℕ) (zeros : ℕ) → AreAmounts nodes last xs → ys ≡ xs ++ replicate zeros 0 → (n k : ℕ) → n ≤ nodes → k ≤ last → amount_at ys nodes n k ≡ amount_at xs nodes n k
more_stay nodes last xs ys zeros are is n k c b =
    ap (λ (zs : List ℕ). amount_at zs nodes n k) is ∙ at_old xs zeros (k * (nodes + 1) + n) (omega (arith, are.long, place_within nodes last n k c b))

-- ---- the amount of a node is set, and what all nodes come to
abbrev pub set_both : List ℕ → ℕ → ℕ → ℕ → ℕ → List ℕ
set_both xs one amount all whole = slice_set (slice_set xs one amount) all whole

-- the two places of a node and boundary
pub record AtPlaces (nodes last node boundary one all : ℕ) : Type 0 where
  pub is_node : node < nodes
  pub is_boundary : boundary ≤ last
  pub one_is : one ≡ boundary * (nodes + 1) + node
  pub all_is : all ≡ boundary * (nodes + 1) + nodes

both_here : (nodes last n k one all amount whole : ℕ) (xs : List ℕ) → AreAmounts nodes last xs → AtPlaces nodes last n k one all → amount_at (set_both xs one amount all whole) nodes n k ≡ amount
both_here nodes last n k one all amount whole xs are at =
    let within : one < length xs = omega (arith, at.one_is, are.long, place_within nodes last n k (omega (arith, at.is_node)) at.is_boundary) in
    ap (λ (i : ℕ). slice_index (set_both xs one amount all whole) i) (sym at.one_is)
    ∙ (get_or-set_other (slice_set xs one amount) all one whole 0 (λ e. absurd (omega (arith, e, at.one_is, at.all_is, at.is_node))) ∙ get_or-set_same xs one amount 0 within)

both_whole : (nodes last n k one all amount whole : ℕ) (xs : List ℕ) → AreAmounts nodes last xs → AtPlaces nodes last n k one all → amount_at (set_both xs one amount all whole) nodes nodes k ≡ whole
both_whole nodes last n k one all amount whole xs are at =
    let within : all < length (slice_set xs one amount) = omega (arith, at.all_is, are.long, length-set xs one amount, place_within nodes last nodes k (omega arith) at.is_boundary) in
    ap (λ (i : ℕ). slice_index (set_both xs one amount all whole) i) (sym at.all_is) ∙ get_or-set_same (slice_set xs one amount) all whole 0 within

both_other : (nodes last n k one all amount whole : ℕ) (xs : List ℕ) → AtPlaces nodes last n k one all → (b j : ℕ) → b ≤ nodes → (b ≢ n) ⊎ (j ≢ k) → (b ≢ nodes) ⊎ (j ≢ k) →
    amount_at (set_both xs one amount all whole) nodes b j ≡ amount_at xs nodes b j
both_other nodes last n k one all amount whole xs at b j c x y =
    let place : ℕ = j * (nodes + 1) + b in
    let off_all : place ≢ all = λ e. places_apart nodes b j nodes k c (omega arith) y (e ∙ at.all_is) in
    let off_one : place ≢ one = λ e. places_apart nodes b j n k c (omega (arith, at.is_node)) x (e ∙ at.one_is) in
    get_or-set_other (slice_set xs one amount) all place whole 0 off_all ∙ get_or-set_other xs one place amount 0 off_one

-- what 64 bits hold of a sum in which one amount became another
renewed : (was now all one amount : ℕ) → all ≡ was % 2 ^ 64 → one ≤ most_produced → one ≤ was → now + one ≡ was + amount → ((all + (2 ^ 64 - one)) % 2 ^ 64 + amount) % 2 ^ 64 ≡ now % 2 ^ 64
renewed was now all one amount held few within changed = omega (arith, held, few, within, changed)

-- the sum of the amounts of a boundary, of which one is another
row_sum : (nodes last n k one all amount whole : ℕ) (xs : List ℕ) → AreAmounts nodes last xs → AtPlaces nodes last n k one all →
    sum_below nodes (λ i. amount_at (set_both xs one amount all whole) nodes i k) + amount_at xs nodes n k ≡ sum_below nodes (λ i. amount_at xs nodes i k) + amount
row_sum nodes last n k one all amount whole xs are at =
    let ys : List ℕ = set_both xs one amount all whole in
    let change : sum_below nodes (λ i. amount_at ys nodes i k) + amount_at xs nodes n k ≡ sum_below nodes (λ i. amount_at xs nodes i k) + amount_at ys nodes n k =
    sum_below-change nodes (λ i. amount_at ys nodes i k) (λ i. amount_at xs nodes i k) n at.is_node
    (λ i l other. both_other nodes last n k one all amount whole xs at i k (omega (arith, l)) (inl other) (inl (λ e. absurd (omega (arith, e, l))))) in
    omega (arith, change, both_here nodes last n k one all amount whole xs are at)

pub both_are : (nodes last n k one all amount whole : ℕ) (xs : List ℕ) → AreAmounts nodes last xs → AtPlaces nodes last n k one all → amount ≤ most_produced →
    whole ≡ ((amount_at xs nodes nodes k + (2 ^ 64 - amount_at xs nodes n k)) % 2 ^ 64 + amount) % 2 ^ 64 → AreAmounts nodes last (set_both xs one amount all whole)
both_are nodes last n k one all amount whole xs are at few is =
    let ys : List ℕ = set_both xs one amount all whole in
    record {
      long = omega (arith, length-set (slice_set xs one amount) all whole, length-set xs one amount, are.long);
      small = λ b j l m.
          let kept : (b ≢ n) ⊎ (j ≢ k) → amount_at ys nodes b j ≡ amount_at xs nodes b j =
          λ differs. both_other nodes last n k one all amount whole xs at b j (omega (arith, l)) differs (inl (λ e. absurd (omega (arith, e, l)))) in
          elim (cases_eq b n) [
            | inr other ↦ omega (arith, kept (inl other), are.small b j l m)
            | inl node ↦ elim (cases_eq j k) [
              | inr other ↦ omega (arith, kept (inr other), are.small b j l m)
              | inl boundary ↦
                  let same : amount_at ys nodes b j ≡ amount_at ys nodes n k = ap (λ (z : ℕ). amount_at ys nodes z j) node ∙ ap (λ (z : ℕ). amount_at ys nodes n z) boundary in
                  omega (arith, same, both_here nodes last n k one all amount whole xs are at, few)
            ]
          ];
      adds_up = λ j m.
          elim (cases_eq j k) [
            | inl boundary ↦
                let here : amount_at ys nodes nodes k ≡ sum_below nodes (λ i. amount_at ys nodes i k) % 2 ^ 64 =
                both_whole nodes last n k one all amount whole xs are at
                ∙ (is
                ∙ renewed (sum_below nodes (λ i. amount_at xs nodes i k)) (sum_below nodes (λ i. amount_at ys nodes i k)) (amount_at xs nodes nodes k) (amount_at xs nodes n k) amount
                (are.adds_up k at.is_boundary) (are.small n k at.is_node at.is_boundary) (le-sum_below nodes (λ i. amount_at xs nodes i k) n at.is_node) (row_sum nodes last n k one all amount whole xs are at)) in
                subst (λ (z : ℕ). amount_at ys nodes nodes z ≡ sum_below nodes (λ i. amount_at ys nodes i z) % 2 ^ 64) (sym boundary) here
            | inr other ↦
                both_other nodes last n k one all amount whole xs at nodes j (omega arith) (inr other) (inr other)
                ∙ (are.adds_up j m
                ∙ ap (λ (z : ℕ). z % 2 ^ 64)
                (sum_below-same nodes (λ i. amount_at xs nodes i j) (λ i. amount_at ys nodes i j) (λ i l. sym (both_other nodes last n k one all amount whole xs at i j (omega (arith, l)) (inr other) (inr other)))))
          ];
    }

-- so the amount of the one node and boundary is set
pub sets_one : (old new : Production) (node boundary one all amount whole : ℕ) → AtPlaces old.nodes old.room node boundary one all → new.nodes ≡ old.nodes → new.room ≡ old.room →
    new.amounts.items ≡ set_both old.amounts.items one amount all whole → SetsAmount old new node boundary amount
sets_one old new node boundary one all amount whole at nodes room is =
    let now : (n k : ℕ) → produced_in new n k ≡ amount_at (set_both old.amounts.items one amount all whole) old.nodes n k =
    λ n k. ap (λ (z : ℕ). amount_at new.amounts.items z n k) nodes ∙ ap (λ (xs : List ℕ). amount_at xs old.nodes n k) is in
    record {
      sizes = record { nodes = nodes; room = room };
      here = now node boundary ∙ both_here old.nodes old.room node boundary one all amount whole old.amounts.items old.are at;
      others = λ n k l m differs.
          now n k ∙ both_other old.nodes old.room node boundary one all amount whole old.amounts.items at n k (omega (arith, l)) differs (inl (λ e. absurd (omega (arith, e, l))));
    }

-- so many more boundaries have no fewer amounts
pub more_long : (nodes last more : ℕ) → last ≤ more → (last + 1) * (nodes + 1) ≤ (more + 1) * (nodes + 1)
more_long nodes last more l = mul-le-mul_right (nodes + 1) (let up : last + 1 ≤ more + 1 = omega (arith, l) in up)

-- what is read at the two places before
pub record AreRead (p : Production) (node boundary one all was whole : ℕ) : Type 0 where
  pub at : AtPlaces p.nodes p.room node boundary one all
  pub was_is : was ≡ amount_at p.amounts.items p.nodes node boundary
  pub whole_is : whole ≡ amount_at p.amounts.items p.nodes p.nodes boundary

pub are_read : (p : Production) (node boundary one all was whole : ℕ) → node < p.nodes → boundary ≤ p.room → one ≡ boundary * (p.nodes + 1) + node → all ≡ boundary * (p.nodes + 1) + p.nodes →
    was ≡ slice_index_or p.amounts.items one was → whole ≡ slice_index_or p.amounts.items all whole → AreRead p node boundary one all was whole
are_read p node boundary one all was whole l b one_is all_is is_was is_whole =
    let xs : List ℕ = p.amounts.items in
    let first : was ≡ amount_at xs p.nodes node boundary = read xs p.nodes p.room node boundary one was p.are (omega (arith, l)) b one_is is_was in
    let second : whole ≡ amount_at xs p.nodes p.nodes boundary = read xs p.nodes p.room p.nodes boundary all whole p.are (omega arith) b all_is is_whole in
    record {
      at = record { is_node = l; is_boundary = b; one_is = one_is; all_is = all_is };
      was_is = first;
      whole_is = second;
    }
