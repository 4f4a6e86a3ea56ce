use Rattle.std.proofs.Common.{◌≡◌, ◌≢◌, ℕ, ◌+◌, ◌-◌, ◌*◌, ◌/◌, ◌%◌, ◌<◌, ◌≤◌, Bool, true, cond, Option, Some, None, length, slice_index, arith, inl, inr, refl, ap, sym, subst, ◌∙◌}
use Rattle.std.proofs.Math.Nat.{le_of_mul-le-mul_right, mul-le-mul_left, ℕ_set}
use Rattle.std.proofs.Math.Logic.{∥∥₁_elim}
use Rattle.std.proofs.Math.Bridge.{le_prop}
use Rattle.std.proofs.lemmas.Nat.{le-div, div_below, mod_below, div-add-mod'}
use Rattle.std.proofs.lemmas.Bool.{cases_lt, eqb-true}
use Rattle.std.proofs.lemmas.Grind.{same_number_lists}
use Rattle.ltm_units.specs.Sums.{sum_below}
use Rattle.ltm_units.specs.Nested.{nested_split}
use Rattle.ltm_units.proofs.Sums.{sum_below-le, sum_below-mul, sum_below-same, sum_below-plus, sum_below-swap, sum_below-zero, sum_below-change}
use Rattle.ltm_shares.specs.Shares.{AreShares, HasPriorities}
use Rattle.ltm_shares.proofs.Unique.{one_solution_holds}
use Rattle.ltm_node.specs.Shape.{is_this, is_own, counts_width}
use Rattle.ltm_node.specs.Inputs.{Inputs, sending, left, entered, arrived, supply, capacity, weights}
use Rattle.ltm_node.specs.Outputs.{Outputs, left_after, entered_after, arrived_after, left_after_place, entered_after_place, arrived_after_place}
use Rattle.ltm_node.specs.Demands.{to_sink, sent, sent_into, demands}
use Rattle.ltm_node.specs.Solvable.{IsSolvable}
use Rattle.ltm_node.specs.Step.{moved, sunk, gone, come, sunk_in_all, MovesAtShares, StepShares, IsNodeStep}
use Rattle.ltm_node.specs.Laws.{OneSolution, OneStep, SupplyKept, SendingKept, arrived_for, arrived_for_after, NothingLost, NothingLostInAll}
use Rattle.ltm_node.proofs.Ranges.{fraction_of_le, to_sink_le, sent_into_le, sunk_elsewhere}
use Rattle.ltm_node.proofs.Moved.{bool_cases, floor_same, sum_below-list, nested_sum_le, moved_own, moved_same, moved_le, moved_into_le}

-- ---- one solution

has_priorities : (n : Inputs) → IsSolvable n → HasPriorities (demands n)
has_priorities n s i j l m uses =
    let some : 0 < sent n i = omega (arith, sent_into_le n i j, uses) in
    le-div 1 (1024 * capacity n i) (sent n i) some (omega (arith, s.within_capacity i l))

pub one_solution_of_inputs : OneSolution
one_solution_of_inputs n s d e p q a b i l = one_solution_holds (demands n) d e p q (has_priorities n s) a b i l

-- ---- one step

-- a place of a table with rows of w numbers is that of a row and a column
record IsPlace (h w k : ℕ) : Type 0 where
  pub row : ℕ
  pub column : ℕ
  pub row_below : row < h
  pub column_below : column < w
  pub at : row * w + column ≡ k

place_of : (h w k : ℕ) → k < h * w → IsPlace h w k
place_of h w k l =
    let some : 0 < w = elim (cases_lt 0 w) [ inl some ↦ some | inr none ↦ absurd (omega (arith, mul-le-mul_left h none)) ] in
    record {
      row = k / w;
      column = k % w;
      row_below = div_below k w h some l;
      column_below = mod_below k w some;
      at = div-add-mod' k w;
    }

-- what the counts are at places of the inputs' shape
left_read : (n : Inputs) (e : ℕ) (p : ℕ → ℕ) (o : Outputs) → MovesAtShares n e p o → (i d : ℕ) → i < n.shape.arms → d < n.shape.destinations → slice_index o.row (left_after_place n.shape i d) ≡ left n i d + gone n e p i d
left_read n e p o m i d il dl = ap (λ z. slice_index o.row (left_after_place z i d)) (sym m.shape) ∙ m.left i d il dl

entered_read : (n : Inputs) (e : ℕ) (p : ℕ → ℕ) (o : Outputs) → MovesAtShares n e p o → (j d : ℕ) → j < n.shape.outs → d < n.shape.destinations → slice_index o.row (entered_after_place n.shape j d) ≡ entered n j d + come n e p j d
entered_read n e p o m j d jl dl = ap (λ z. slice_index o.row (entered_after_place z j d)) (sym m.shape) ∙ m.entered j d jl dl

arrived_read : (n : Inputs) (e : ℕ) (p : ℕ → ℕ) (o : Outputs) → MovesAtShares n e p o → slice_index o.row (arrived_after_place n.shape) ≡ arrived n + sunk_in_all n e p
arrived_read n e p o m = ap (λ z. slice_index o.row (arrived_after_place z)) (sym m.shape) ∙ m.arrived

-- the same fractions over two denominators
record AreBoth (n : Inputs) (d e : ℕ) (p q : ℕ → ℕ) : Type 0 where
  pub positive : 0 < d
  pub positive_other : 0 < e
  pub fractions : (i : ℕ) → i < n.shape.arms → p i * e ≡ q i * d

gone_same : (n : Inputs) (d e : ℕ) (p q : ℕ → ℕ) → AreBoth n d e p q → (i k : ℕ) → i < n.shape.arms → gone n d p i k ≡ gone n e q i k
gone_same n d e p q b i k l =
    let sums : sum_below n.shape.outs (λ j. moved n d p i k j) ≡ sum_below n.shape.outs (λ j. moved n e q i k j) =
    sum_below-same n.shape.outs (λ j. moved n d p i k j) (λ j. moved n e q i k j) (λ j m. moved_same n d e p q i k j b.positive b.positive_other (b.fractions i l)) in
    let sinks : sunk n d p i k ≡ sunk n e q i k = floor_same (p i) d (q i) e (to_sink n i k) b.positive b.positive_other (b.fractions i l) in omega arith

come_same : (n : Inputs) (d e : ℕ) (p q : ℕ → ℕ) → AreBoth n d e p q → (j k : ℕ) → come n d p j k ≡ come n e q j k
come_same n d e p q b j k =
    sum_below-same n.shape.arms (λ i. moved n d p i k j) (λ i. moved n e q i k j) (λ i l. moved_same n d e p q i k j b.positive b.positive_other (b.fractions i l))

sunk_same : (n : Inputs) (d e : ℕ) (p q : ℕ → ℕ) → AreBoth n d e p q → sunk_in_all n d p ≡ sunk_in_all n e q
sunk_same n d e p q b =
    sum_below-same n.shape.arms (λ i. sum_below n.shape.destinations (λ k. sunk n d p i k)) (λ i. sum_below n.shape.destinations (λ k. sunk n e q i k)) (λ i l.
    sum_below-same n.shape.destinations (λ k. sunk n d p i k) (λ k. sunk n e q i k) (λ k m. floor_same (p i) d (q i) e (to_sink n i k) b.positive b.positive_other (b.fractions i l)))

moves_same : (n : Inputs) (d e : ℕ) (p q : ℕ → ℕ) (one other : Outputs) → AreBoth n d e p q → MovesAtShares n d p one → MovesAtShares n e q other →
    (k : ℕ) → k < counts_width n.shape → slice_index one.row k ≡ slice_index other.row k
moves_same n d e p q one other b x y k l =
    let base : ℕ = n.shape.arms * n.shape.destinations in
    elim (cases_lt k base) [
      | inl first ↦
          let at : IsPlace n.shape.arms n.shape.destinations k = place_of n.shape.arms n.shape.destinations k first in
          subst (λ (z : ℕ). slice_index one.row z ≡ slice_index other.row z) at.at
          (omega (
            arith,
            left_read n d p one x at.row at.column at.row_below at.column_below,
            left_read n e q other y at.row at.column at.row_below at.column_below,
            gone_same n d e p q b at.row at.column at.row_below,
          ))
      | inr later ↦ elim (cases_lt k (base + n.shape.outs * n.shape.destinations)) [
        | inl second ↦
            let at : IsPlace n.shape.outs n.shape.destinations (k - base) = place_of n.shape.outs n.shape.destinations (k - base) (omega arith) in
            let e' : entered_after_place n.shape at.row at.column ≡ k = omega (arith, at.at) in
            subst (λ (z : ℕ). slice_index one.row z ≡ slice_index other.row z) e'
            (omega (
              arith,
              entered_read n d p one x at.row at.column at.row_below at.column_below,
              entered_read n e q other y at.row at.column at.row_below at.column_below,
              come_same n d e p q b at.row at.column,
            ))
        | inr last ↦
            let e' : arrived_after_place n.shape ≡ k = omega arith in
            subst (λ (z : ℕ). slice_index one.row z ≡ slice_index other.row z) e'
            (omega (arith, arrived_read n d p one x, arrived_read n e q other y, sunk_same n d e p q b))
      ]
    ]

width_of : (n : Inputs) (o : Outputs) → IsNodeStep n o → length o.row ≡ counts_width n.shape
width_of n o h = ∥∥₁_elim h (ℕ_set _ _) (λ (x : StepShares n o). x.moves.width)

pub one_step_holds : OneStep
one_step_holds n s one other a b =
    same_number_lists one.row other.row (width_of n one a ∙ sym (width_of n other b)) (λ k l.
    let below : k < counts_width n.shape = omega (arith, width_of n one a) in
    ∥∥₁_elim a (ℕ_set _ _) (λ (x : StepShares n one). ∥∥₁_elim b (ℕ_set _ _) (λ (y : StepShares n other).
    moves_same n x.denominator y.denominator x.numerators y.numerators one other
    (record {
      positive = x.shares.positive;
      positive_other = y.shares.positive;
      fractions = one_solution_of_inputs n s x.denominator y.denominator x.numerators y.numerators x.shares y.shares;
    }) x.moves y.moves k below)))

-- ---- supply

-- what enters an out-link in all
moved_in : (n : Inputs) (d : ℕ) (p : ℕ → ℕ) (j : ℕ) → AreShares (demands n) d p → j < n.shape.outs → sum_below n.shape.arms (λ i. sum_below n.shape.destinations (λ k. moved n d p i k j)) ≤ supply n j
moved_in n d p j s l =
    let arm : (i : ℕ) → ℕ = λ i. sum_below n.shape.destinations (λ k. moved n d p i k j) in
    let each : sum_below n.shape.arms (λ i. arm i * d) ≤ sum_below n.shape.arms (λ i. p i * sent_into n i j) =
    sum_below-le n.shape.arms (λ i. arm i * d) (λ i. p i * sent_into n i j) (λ i m. moved_into_le n d p i j) in
    le_of_mul-le-mul_right {k = d} (omega (arith, each, sum_below-mul n.shape.arms arm d, s.within_supply j l)) s.positive

supply_kept_at : (n : Inputs) (o : Outputs) (j : ℕ) → j < n.shape.outs → StepShares n o →
    sum_below n.shape.destinations (λ k. entered_after o j k) ≤ sum_below n.shape.destinations (λ k. entered n j k) + supply n j
supply_kept_at n o j l step =
    let d : ℕ = step.denominator in
    let p : ℕ → ℕ = step.numerators in
    let all : sum_below n.shape.destinations (λ k. entered_after o j k) ≡ sum_below n.shape.destinations (λ k. entered n j k + come n d p j k) =
    sum_below-same n.shape.destinations (λ k. entered_after o j k) (λ k. entered n j k + come n d p j k) (λ k m. step.moves.entered j k l m) in
    omega (
      arith,
      all,
      sum_below-plus n.shape.destinations (λ k. entered n j k) (λ k. come n d p j k),
      sum_below-swap n.shape.arms n.shape.destinations (λ i k. moved n d p i k j),
      moved_in n d p j step.shares l,
    )

pub supply_kept_holds : SupplyKept
supply_kept_holds n o step j l = ∥∥₁_elim step le_prop (supply_kept_at n o j l)

-- ---- what an arm sends

gone_le : (n : Inputs) (e : ℕ) (p : ℕ → ℕ) (i d : ℕ) → p i ≤ e → gone n e p i d ≤ sending n i d
gone_le n e p i d f =
    elim (bool_cases (is_own n.shape d)) [
      | inl own ↦
          let none : sum_below n.shape.outs (λ j. moved n e p i d j) ≡ 0 = sum_below-zero n.shape.outs (λ j. moved n e p i d j) (λ j l. moved_own n e p i d j own) in
          omega (arith, fraction_of_le (p i) e (to_sink n i d) f, to_sink_le n i d)
      | inr elsewhere ↦
          let parts : ℕ → ℕ = slice_index (nested_split (sending n i d) (weights n d)) in
          let each : sum_below n.shape.outs (λ j. moved n e p i d j) ≤ sum_below n.shape.outs parts =
          sum_below-le n.shape.outs (λ j. moved n e p i d j) parts (λ j l.
          omega (arith, moved_le n e p i d j f, ap (λ (b : Bool). cond b 0 (parts j)) elsewhere)) in
          omega (
            arith,
            each,
            sunk_elsewhere n e p i d elsewhere,
            sum_below-list (nested_split (sending n i d) (weights n d)) n.shape.outs,
            nested_sum_le (weights n d) (sending n i d),
          )
    ]

pub sending_kept_holds : SendingKept
sending_kept_holds n o step i d il dl =
    ∥∥₁_elim step le_prop (λ (x : StepShares n o). omega (arith, x.moves.left i d il dl, gone_le n x.denominator x.numerators i d (x.shares.at_most_all i il)))

-- ---- nothing is lost

only_this : (own : Option ℕ) (d k : ℕ) → is_this own d ≡ true → is_this own k ≡ true → k ≡ d
only_this None d k a b = absurd (cc)
only_this (Some own) d k a b = let x : own ≡ d = eqb-true own d a in let y : own ≡ k = eqb-true own k b in omega arith

-- a sum of which only one term is not 0
sum_below-only : (n : ℕ) (f : ℕ → ℕ) (i : ℕ) → i < n → ((k : ℕ) → k < n → k ≢ i → f k ≡ 0) → sum_below n f ≡ f i
sum_below-only n f i l h =
    let none : sum_below n (λ (k : ℕ). 0) ≡ 0 = sum_below-zero n (λ k. 0) (λ k m. refl) in
    omega (arith, sum_below-change n f (λ k. 0) i l h)

-- for a destination, what leaves the arms is what enters the out-links, and what they move to the sink
balance_at : (n : Inputs) (e : ℕ) (p : ℕ → ℕ) (o : Outputs) → MovesAtShares n e p o → (d : ℕ) → d < n.shape.destinations →
    sum_below n.shape.arms (λ i. left_after o i d) + sum_below n.shape.outs (λ j. entered n j d)
    ≡ sum_below n.shape.arms (λ i. left n i d) + sum_below n.shape.outs (λ j. entered_after o j d) + sum_below n.shape.arms (λ i. sunk n e p i d)
balance_at n e p o m d dl =
    let lefts : sum_below n.shape.arms (λ i. left_after o i d) ≡ sum_below n.shape.arms (λ i. left n i d + gone n e p i d) =
    sum_below-same n.shape.arms (λ i. left_after o i d) (λ i. left n i d + gone n e p i d) (λ i il. m.left i d il dl) in
    let entereds : sum_below n.shape.outs (λ j. entered_after o j d) ≡ sum_below n.shape.outs (λ j. entered n j d + come n e p j d) =
    sum_below-same n.shape.outs (λ j. entered_after o j d) (λ j. entered n j d + come n e p j d) (λ j jl. m.entered j d jl dl) in
    omega (
      arith,
      lefts,
      entereds,
      sum_below-plus n.shape.arms (λ i. left n i d) (λ i. gone n e p i d),
      sum_below-plus n.shape.arms (λ i. sum_below n.shape.outs (λ j. moved n e p i d j)) (λ i. sunk n e p i d),
      sum_below-plus n.shape.outs (λ j. entered n j d) (λ j. come n e p j d),
      sum_below-swap n.shape.arms n.shape.outs (λ i j. moved n e p i d j),
    )

-- all that is moved to the sink is for the node itself
sunk_own : (n : Inputs) (e : ℕ) (p : ℕ → ℕ) (d : ℕ) → d < n.shape.destinations → is_own n.shape d ≡ true → sunk_in_all n e p ≡ sum_below n.shape.arms (λ i. sunk n e p i d)
sunk_own n e p d dl own =
    sum_below-same n.shape.arms (λ i. sum_below n.shape.destinations (λ k. sunk n e p i k)) (λ i. sunk n e p i d) (λ i il.
    sum_below-only n.shape.destinations (λ k. sunk n e p i k) d dl (λ k kl ne.
    elim (bool_cases (is_own n.shape k)) [
      | inl too ↦ absurd (ne (only_this n.shape.own d k own too))
      | inr elsewhere ↦ sunk_elsewhere n e p i k elsewhere
    ]))

nothing_lost_at : (n : Inputs) (o : Outputs) (d : ℕ) → d < n.shape.destinations → StepShares n o →
    sum_below n.shape.arms (λ i. left_after o i d) + (sum_below n.shape.outs (λ j. entered n j d) + arrived_for n d)
    ≡ sum_below n.shape.arms (λ i. left n i d) + (sum_below n.shape.outs (λ j. entered_after o j d) + arrived_for_after n o d)
nothing_lost_at n o d dl step =
    let e : ℕ = step.denominator in
    let p : ℕ → ℕ = step.numerators in
    let balance = balance_at n e p o step.moves d dl in
    elim (bool_cases (is_own n.shape d)) [
      | inl own ↦
          let before : arrived_for n d ≡ arrived n = ap (λ (b : Bool). cond b (arrived n) 0) own in
          let after : arrived_for_after n o d ≡ arrived_after o = ap (λ (b : Bool). cond b (arrived_after o) 0) own in
          omega (arith, balance, before, after, sunk_own n e p d dl own, step.moves.arrived)
      | inr elsewhere ↦
          let before : arrived_for n d ≡ 0 = ap (λ (b : Bool). cond b (arrived n) 0) elsewhere in
          let after : arrived_for_after n o d ≡ 0 = ap (λ (b : Bool). cond b (arrived_after o) 0) elsewhere in
          let none : sum_below n.shape.arms (λ i. sunk n e p i d) ≡ 0 = sum_below-zero n.shape.arms (λ i. sunk n e p i d) (λ i il. sunk_elsewhere n e p i d elsewhere) in
          omega (arith, balance, before, after, none)
    ]

pub nothing_lost_holds : NothingLost
nothing_lost_holds n o step d dl = ∥∥₁_elim step (ℕ_set _ _) (nothing_lost_at n o d dl)

nothing_lost_in_all_at : (n : Inputs) (o : Outputs) → StepShares n o →
    sum_below n.shape.destinations (λ d. sum_below n.shape.arms (λ i. left_after o i d)) + (sum_below n.shape.destinations (λ d. sum_below n.shape.outs (λ j. entered n j d)) + arrived n)
    ≡ sum_below n.shape.destinations (λ d. sum_below n.shape.arms (λ i. left n i d)) + (sum_below n.shape.destinations (λ d. sum_below n.shape.outs (λ j. entered_after o j d)) + arrived_after o)
nothing_lost_in_all_at n o step =
    let e : ℕ = step.denominator in
    let p : ℕ → ℕ = step.numerators in
    let before : ℕ → ℕ = λ d. sum_below n.shape.arms (λ i. left n i d) in
    let after : ℕ → ℕ = λ d. sum_below n.shape.arms (λ i. left_after o i d) in
    let came : ℕ → ℕ = λ d. sum_below n.shape.outs (λ j. entered n j d) in
    let come' : ℕ → ℕ = λ d. sum_below n.shape.outs (λ j. entered_after o j d) in
    let sinks : ℕ → ℕ = λ d. sum_below n.shape.arms (λ i. sunk n e p i d) in
    let all : sum_below n.shape.destinations (λ d. after d + came d) ≡ sum_below n.shape.destinations (λ d. before d + come' d + sinks d) =
    sum_below-same n.shape.destinations (λ d. after d + came d) (λ d. before d + come' d + sinks d) (λ d dl. balance_at n e p o step.moves d dl) in
    omega (
      arith,
      all,
      sum_below-plus n.shape.destinations after came,
      sum_below-plus n.shape.destinations (λ d. before d + come' d) sinks,
      sum_below-plus n.shape.destinations before come',
      sum_below-swap n.shape.destinations n.shape.arms (λ d i. sunk n e p i d),
      step.moves.arrived,
    )

pub nothing_lost_in_all_holds : NothingLostInAll
nothing_lost_in_all_holds n o step = ∥∥₁_elim step (ℕ_set _ _) (nothing_lost_in_all_at n o)
