-- A narrow node: at most one out-link, in a case with one destination.
use Rattle.std.proofs.Common.{◌≡◌, ℕ, ◌+◌, ◌-◌, ◌*◌, ◌/◌, ◌<◌, ◌≤◌, min, true, false, List, [], ◌∷◌, sum, drop, set, slice_index, get_or, length, arith, inl, inr, refl, ap, ◌∙◌, sym, subst}
use Rattle.std.proofs.Math.ListN.{length-set}
use Rattle.std.proofs.Math.Nat.{mul-le-mul_left, mul-div_right, mul-div_cancel}
use Rattle.std.proofs.lemmas.Bool.{cases_eq, cases_lt}
use Rattle.std.proofs.lemmas.List.{get_or-set_other, get_or-set_same, length-take}
use Rattle.ltm_units.specs.Sums.{sum_below}
use Rattle.ltm_units.specs.Nested.{nested_split}
use Rattle.ltm_units.proofs.Sums.{sum_below-same, sum_below-zero, sum_below-most}
use Rattle.ltm_shares.specs.Shares.{AreShares, inflow}
use Rattle.ltm_node.specs.Shape.{is_own, counts_width, weights_place}
use Rattle.ltm_node.specs.Inputs.{Inputs, sending, left, entered, arrived, supply, weight, weights}
use Rattle.ltm_node.specs.Outputs.{Outputs, left_after_place, entered_after_place, arrived_after_place}
use Rattle.ltm_node.specs.Demands.{part, sent_into, priority, demands}
use Rattle.ltm_node.specs.Solvable.{IsSolvable}
use Rattle.ltm_node.specs.Step.{moved, sunk, gone, come, sunk_in_all, MovesAtShares, IsNodeStep}
use Rattle.ltm_node.specs.Narrow.{IsNarrow, HaveLeft, HaveMoved, HaveShifted, whole, leaves}
use Rattle.ltm_node.specs.declared.shape.NodeShape.{NodeShape}
use Rattle.ltm_node.proofs.Ranges.{weight_of, part_is, sunk_small, sunk_elsewhere}
use Rattle.ltm_node.proofs.Splitting.{sum_of_one}
use Rattle.ltm_node.proofs.Moved.{moved_own, moved_whole, moved_alone, moved_out_small}

-- ---- places

pub narrow_width : (s : NodeShape) → s.destinations ≡ 1 → counts_width s ≡ s.arms + s.outs + 1
narrow_width s one = omega (arith, ap (λ z. s.arms * z) one, ap (λ z. s.outs * z) one)

arm_place : (s : NodeShape) (i : ℕ) → s.destinations ≡ 1 → left_after_place s i 0 ≡ i
arm_place s i one = omega (arith, ap (λ z. i * z) one)

-- ---- sums over one place

pub sum_of_two : (k : ℕ) (f : ℕ → ℕ) → k ≡ 2 → sum_below k f ≡ f 0 + f 1
sum_of_two k f two = let e : sum_below k f ≡ sum_below 2 f = ap (λ z. sum_below z f) two in omega arith

-- ---- the split over at most one weight

split_all : (xs : List ℕ) (m : ℕ) → length xs ≤ 1 → 0 < get_or xs 0 0 → slice_index (nested_split m xs) 0 ≡ m
split_all [] m few some = absurd (omega arith)
split_all (x ∷ []) m few some =
    let turned : m * x ≡ x * m = omega arith in
    let alone : x + sum [] ≡ x = omega arith in
    ap (λ z. m * x / z) alone ∙ (ap (λ z. z / x) turned ∙ mul-div_right m some)
split_all (x ∷ y ∷ ys) m few some = absurd (omega arith)

split_nothing : (xs : List ℕ) (m : ℕ) → length xs ≤ 1 → get_or xs 0 0 ≡ 0 → slice_index (nested_split m xs) 0 ≡ 0
split_nothing [] m few none = refl
split_nothing (x ∷ []) m few none = omega (arith, mul-le-mul_left m (let z : x ≤ 0 = omega arith in z))
split_nothing (x ∷ y ∷ ys) m few none = absurd (omega arith)

few_weights : (n : Inputs) → n.shape.outs ≤ 1 → length (weights n 0) ≤ 1
few_weights n few =
    omega (arith, length-take (weights_place n.shape 0 + n.shape.outs - weights_place n.shape 0) (drop (weights_place n.shape 0) n.row))

-- ---- what leaves an arm

moved_is_part : (n : Inputs) (i j : ℕ) → n.shape.destinations ≡ 1 → moved n 1 whole i 0 j ≡ part n i 0 j
moved_is_part n i j one = moved_whole n whole i 0 j refl (omega arith)

moved_out : (n : Inputs) (i : ℕ) → n.shape.destinations ≡ 1 → is_own n.shape 0 ≡ false → moved n 1 whole i 0 0 ≡ slice_index (nested_split (sending n i 0) (weights n 0)) 0
moved_out n i one elsewhere = moved_is_part n i 0 one ∙ sym (part_is n (sending n i 0) i 0 0 (slice_index (nested_split (sending n i 0) (weights n 0)) 0) elsewhere refl refl)

pub leaves_to_sink : (n : Inputs) (i : ℕ) → is_own n.shape 0 ≡ true → leaves n i ≡ sunk n 1 whole i 0
leaves_to_sink n i own =
    let nothing : sum_below n.shape.outs (λ j. moved n 1 whole i 0 j) ≡ 0 = sum_below-zero n.shape.outs (λ j. moved n 1 whole i 0 j) (λ j l. moved_own n 1 whole i 0 j own) in omega arith

pub leaves_to_out : (n : Inputs) (i : ℕ) → is_own n.shape 0 ≡ false → n.shape.outs ≡ 1 → leaves n i ≡ moved n 1 whole i 0 0
leaves_to_out n i elsewhere one = omega (arith, sum_of_one n.shape.outs (λ j. moved n 1 whole i 0 j) one, sunk_elsewhere n 1 whole i 0 elsewhere)

pub all_to_out : (n : Inputs) (i : ℕ) → IsNarrow n.shape → is_own n.shape 0 ≡ false → n.shape.outs ≡ 1 → 0 < weight n 0 0 → leaves n i ≡ sending n i 0
all_to_out n i s elsewhere one some =
    leaves_to_out n i elsewhere one ∙ (moved_out n i s.one_destination elsewhere ∙ split_all (weights n 0) (sending n i 0) (few_weights n s.few_outs) (omega (arith, weight_of n 0 0 (omega arith))))

pub nothing_to_out : (n : Inputs) (i : ℕ) → IsNarrow n.shape → is_own n.shape 0 ≡ false → n.shape.outs ≡ 1 → weight n 0 0 ≡ 0 → leaves n i ≡ 0
nothing_to_out n i s elsewhere one none =
    leaves_to_out n i elsewhere one ∙ (moved_out n i s.one_destination elsewhere ∙ split_nothing (weights n 0) (sending n i 0) (few_weights n s.few_outs) (weight_of n 0 0 (omega arith) ∙ none))

pub leaves_small : (n : Inputs) (i : ℕ) → IsSolvable n → IsNarrow n.shape → i < n.shape.arms → leaves n i ≤ 64000
leaves_small n i s narrow il =
    let some : 0 < n.shape.destinations = omega (arith, narrow.one_destination) in
    omega (arith, moved_out_small n 1 whole i 0 n.shape.outs s (omega arith) il some, sunk_small n 1 whole i 0 s (omega arith) il some, narrow.few_outs)

-- what the first arms move is small
pub left_small : (n : Inputs) (k : ℕ) → IsSolvable n → IsNarrow n.shape → k ≤ n.shape.arms → sum_below k (leaves n) ≤ 320000
left_small n k s narrow few = omega (arith, sum_below-most k (leaves n) 64000 (λ i l. leaves_small n i s narrow (omega arith)), s.few_arms)

-- ---- the counts of the arms

pub left_more : (n : Inputs) (a v : ℕ) (o o' : Outputs) → IsNarrow n.shape → HaveLeft n a o → a < n.shape.arms → v ≡ left n a 0 + leaves n a → o'.shape ≡ o.shape → o'.row ≡ set o.row (left_after_place n.shape a 0) v → HaveLeft n (a + 1) o'
left_more n a v o o' s h al is es er =
    let here : ℕ = left_after_place n.shape a 0 in
    let first : here ≡ a = arm_place n.shape a s.one_destination in
    record {
      shape = es ∙ h.shape;
      width = ap length er ∙ (length-set o.row here v ∙ h.width);
      left = λ i less. elim (cases_eq i a) [
        | inl same ↦
            let P : ℕ → Type 0 = λ z. slice_index o'.row (left_after_place n.shape z 0) ≡ left n z 0 + leaves n z in
            subst P (sym same) (ap (λ z. slice_index z here) er ∙ (get_or-set_same o.row here v 0 (omega (arith, first, h.width, narrow_width n.shape s.one_destination)) ∙ is))
        | inr ne ↦
            let other : left_after_place n.shape i 0 ≡ i = arm_place n.shape i s.one_destination in
            ap (λ z. slice_index z (left_after_place n.shape i 0)) er ∙ (get_or-set_other o.row here (left_after_place n.shape i 0) v 0 (omega (arith, first, other, ne)) ∙ h.left i (omega arith))
      ];
    }

-- ---- what all arms move

pub come_own : (n : Inputs) (j : ℕ) → is_own n.shape 0 ≡ true → come n 1 whole j 0 ≡ 0
come_own n j own = sum_below-zero n.shape.arms (λ i. moved n 1 whole i 0 j) (λ i l. moved_own n 1 whole i 0 j own)

pub come_out : (n : Inputs) → is_own n.shape 0 ≡ false → n.shape.outs ≡ 1 → come n 1 whole 0 0 ≡ sum_below n.shape.arms (leaves n)
come_out n elsewhere one = sum_below-same n.shape.arms (λ i. moved n 1 whole i 0 0) (leaves n) (λ i l. sym (leaves_to_out n i elsewhere one))

pub sunk_own : (n : Inputs) → n.shape.destinations ≡ 1 → is_own n.shape 0 ≡ true → sunk_in_all n 1 whole ≡ sum_below n.shape.arms (leaves n)
sunk_own n one own =
    sum_below-same n.shape.arms (λ i. sum_below n.shape.destinations (λ d. sunk n 1 whole i d)) (leaves n)
    (λ i l. sum_of_one n.shape.destinations (λ d. sunk n 1 whole i d) one ∙ sym (leaves_to_sink n i own))

pub sunk_out : (n : Inputs) → n.shape.destinations ≡ 1 → is_own n.shape 0 ≡ false → sunk_in_all n 1 whole ≡ 0
sunk_out n one elsewhere =
    sum_below-zero n.shape.arms (λ i. sum_below n.shape.destinations (λ d. sunk n 1 whole i d))
    (λ i l. sum_of_one n.shape.destinations (λ d. sunk n 1 whole i d) one ∙ sunk_elsewhere n 1 whole i 0 elsewhere)

-- ---- the step

whole_shares_narrow : (n : Inputs) → n.shape.destinations ≡ 1 → ((j : ℕ) → j < n.shape.outs → come n 1 whole j 0 ≤ supply n j) → AreShares (demands n) 1 whole
whole_shares_narrow n one fits = record {
  positive = omega arith;
  at_most_all = λ i l. omega arith;
  within_supply = λ j l.
      let same : inflow (demands n) whole j ≡ come n 1 whole j 0 =
      sum_below-same n.shape.arms (λ i. whole i * sent_into n i j) (λ i. moved n 1 whole i 0 j)
      (λ i m. omega (arith, sum_of_one n.shape.destinations (λ d. part n i d j) one, moved_is_part n i j one)) in
      omega (arith, fits j l);
  held_back = λ i l less. absurd (omega arith);
}

moves_narrow : (n : Inputs) (o : Outputs) (entering arriving : ℕ) → IsNarrow n.shape → HaveMoved n entering arriving o → (0 < n.shape.outs → entering ≡ come n 1 whole 0 0) → arriving ≡ sunk_in_all n 1 whole → MovesAtShares n 1 whole o
moves_narrow n o entering arriving s h into down = record {
  shape = h.arms.shape;
  width = h.arms.width;
  left = λ i d il dl.
      let P : ℕ → Type 0 = λ z. slice_index o.row (left_after_place o.shape i z) ≡ left n i z + gone n 1 whole i z in
      let first : d ≡ 0 = omega (arith, s.one_destination) in
      subst P (sym first) (ap (λ z. slice_index o.row (left_after_place z i 0)) h.arms.shape ∙ h.arms.left i il);
  entered = λ j d jl dl.
      let P : ℕ → Type 0 = λ z. slice_index o.row (entered_after_place o.shape j z) ≡ entered n j z + come n 1 whole j z in
      let Q : ℕ → Type 0 = λ z. slice_index o.row (entered_after_place o.shape z 0) ≡ entered n z 0 + come n 1 whole z 0 in
      let first : d ≡ 0 = omega (arith, s.one_destination) in
      let only : j ≡ 0 = omega (arith, s.few_outs) in
      let some : 0 < n.shape.outs = omega arith in
      subst P (sym first) (subst Q (sym only) (ap (λ z. slice_index o.row (entered_after_place z 0 0)) h.arms.shape ∙ (h.entered some ∙ ap (λ z. entered n 0 0 + z) (into some))));
  arrived =
      ap (λ z. slice_index o.row (arrived_after_place z)) h.arms.shape ∙ (h.arrived ∙ ap (λ z. arrived n + z) down);
}

pub step_to_sink : (n : Inputs) (o : Outputs) (total : ℕ) → IsNarrow n.shape → is_own n.shape 0 ≡ true → total ≡ sum_below n.shape.arms (leaves n) → HaveMoved n 0 total o → IsNodeStep n o
step_to_sink n o total s own is h =
    let fits : (j : ℕ) → j < n.shape.outs → come n 1 whole j 0 ≤ supply n j = λ j l. omega (arith, come_own n j own) in ∣ record {
      denominator = 1;
      numerators = whole;
      shares = whole_shares_narrow n s.one_destination fits;
      moves = moves_narrow n o 0 total s h (λ some. sym (come_own n 0 own)) (is ∙ sym (sunk_own n s.one_destination own));
    } ∣₁

pub step_to_out : (n : Inputs) (o : Outputs) (total : ℕ) → IsNarrow n.shape → is_own n.shape 0 ≡ false → total ≡ sum_below n.shape.arms (leaves n) → ((j : ℕ) → j < n.shape.outs → total ≤ supply n j) → HaveMoved n total 0 o → IsNodeStep n o
step_to_out n o total s elsewhere is small h =
    let into : 0 < n.shape.outs → total ≡ come n 1 whole 0 0 = λ some. is ∙ sym (come_out n elsewhere (omega (arith, s.few_outs))) in
    let fits : (j : ℕ) → j < n.shape.outs → come n 1 whole j 0 ≤ supply n j = λ j l.
    let P : ℕ → Type 0 = λ z. come n 1 whole z 0 ≤ supply n z in
    let only : j ≡ 0 = omega (arith, s.few_outs) in
    subst P (sym only) (omega (arith, into (omega arith), small 0 (omega arith))) in ∣ record {
      denominator = 1;
      numerators = whole;
      shares = whole_shares_narrow n s.one_destination fits;
      moves = moves_narrow n o total 0 s h into (sym (sunk_out n s.one_destination elsewhere));
    } ∣₁

-- ---- one arm, and an out-link that is short

part_is_total : (n : Inputs) (total : ℕ) → IsNarrow n.shape → n.shape.arms ≡ 1 → n.shape.outs ≡ 1 → is_own n.shape 0 ≡ false → total ≡ sum_below n.shape.arms (leaves n) → part n 0 0 0 ≡ total
part_is_total n total s one out elsewhere is =
    sym (is ∙ (sum_of_one n.shape.arms (leaves n) one ∙ (leaves_to_out n 0 elsewhere out ∙ moved_is_part n 0 0 s.one_destination)))

shares_short : (n : Inputs) (total : ℕ) → IsNarrow n.shape → n.shape.arms ≡ 1 → n.shape.outs ≡ 1 → part n 0 0 0 ≡ total → supply n 0 < total → AreShares (demands n) total (λ i. supply n 0)
shares_short n total s one out is short =
    let x : ℕ = supply n 0 in
    let into : sent_into n 0 0 ≡ total = sum_of_one n.shape.destinations (λ d. part n 0 d 0) s.one_destination ∙ is in
    let full : inflow (demands n) (λ i. x) 0 ≡ x * total = sum_of_one n.shape.arms (λ i. x * sent_into n i 0) one ∙ ap (λ z. x * z) into in
    record {
      positive = omega arith;
      at_most_all = λ i l. omega arith;
      within_supply = λ j l.
          let P : ℕ → Type 0 = λ z. inflow (demands n) (λ i. x) z ≤ supply n z * total in
          let only : j ≡ 0 = omega (arith, out) in
          subst P (sym only) (omega (arith, full));
      held_back = λ i l less.
          let only : i ≡ 0 = omega (arith, one) in (
            0,
            record {
              is_out = omega (arith, out);
              uses = subst (λ (z : ℕ). 0 < sent_into n z 0) (sym only) (omega (arith, into));
              full = full;
              greatest = λ k m u.
                  let same : i ≡ k = omega (arith, one) in
                  omega (arith, ap (λ z. x * priority n z) same);
            },
          );
    }

pub step_short : (n : Inputs) (o : Outputs) (total : ℕ) → IsNarrow n.shape → n.shape.arms ≡ 1 → n.shape.outs ≡ 1 → is_own n.shape 0 ≡ false → total ≡ sum_below n.shape.arms (leaves n) → supply n 0 < total → HaveShifted n (supply n 0) o → IsNodeStep n o
step_short n o total s one out elsewhere sum short h =
    let x : ℕ = supply n 0 in
    let p : ℕ → ℕ = λ i. x in
    let is : part n 0 0 0 ≡ total = part_is_total n total s one out elsewhere sum in
    let goes : moved n total p 0 0 0 ≡ x =
    let some : 0 < total = omega arith in moved_alone n total p 0 0 s.one_destination ∙ (ap (λ z. x * z / total) is ∙ mul-div_cancel x some) in
    let gone_is : gone n total p 0 0 ≡ x = omega (arith, sum_of_one n.shape.outs (λ j. moved n total p 0 0 j) out, sunk_elsewhere n total p 0 0 elsewhere, goes) in
    let come_is : come n total p 0 0 ≡ x = sum_of_one n.shape.arms (λ i. moved n total p i 0 0) one ∙ goes in
    let dry : sunk_in_all n total p ≡ 0 =
    sum_below-zero n.shape.arms (λ i. sum_below n.shape.destinations (λ d. sunk n total p i d))
    (λ i l. sum_of_one n.shape.destinations (λ d. sunk n total p i d) s.one_destination ∙ sunk_elsewhere n total p i 0 elsewhere) in
    ∣ record {
      denominator = total;
      numerators = p;
      shares = shares_short n total s one out is short;
      moves = record {
        shape = h.shape;
        width = h.width;
        left = λ i d il dl.
            let P : ℕ → Type 0 = λ z. slice_index o.row (left_after_place o.shape i z) ≡ left n i z + gone n total p i z in
            let Q : ℕ → Type 0 = λ z. slice_index o.row (left_after_place o.shape z 0) ≡ left n z 0 + gone n total p z 0 in
            let first : d ≡ 0 = omega (arith, s.one_destination) in
            let only : i ≡ 0 = omega (arith, one) in
            subst P (sym first) (subst Q (sym only) (ap (λ z. slice_index o.row (left_after_place z 0 0)) h.shape ∙ (h.left ∙ ap (λ z. left n 0 0 + z) (sym gone_is))));
        entered = λ j d jl dl.
            let P : ℕ → Type 0 = λ z. slice_index o.row (entered_after_place o.shape j z) ≡ entered n j z + come n total p j z in
            let Q : ℕ → Type 0 = λ z. slice_index o.row (entered_after_place o.shape z 0) ≡ entered n z 0 + come n total p z 0 in
            let first : d ≡ 0 = omega (arith, s.one_destination) in
            let only : j ≡ 0 = omega (arith, out) in
            subst P (sym first) (subst Q (sym only) (ap (λ z. slice_index o.row (entered_after_place z 0 0)) h.shape ∙ (h.entered ∙ ap (λ z. entered n 0 0 + z) (sym come_is))));
        arrived =
            ap (λ z. slice_index o.row (arrived_after_place z)) h.shape ∙ (h.arrived ∙ omega (arith, dry));
      };
    } ∣₁

-- one arm alone moves what the out-link can take of what it sends
pub step_alone : (n : Inputs) (o : Outputs) (amount : ℕ) → IsNarrow n.shape → n.shape.arms ≡ 1 → n.shape.outs ≡ 1 → is_own n.shape 0 ≡ false → ((i : ℕ) → leaves n i ≡ sending n i 0) → amount ≡ min (sending n 0 0) (supply n 0) → HaveShifted n amount o → IsNodeStep n o
step_alone n o amount s one out elsewhere all is h =
    let total : ℕ = sending n 0 0 in
    let sum : total ≡ sum_below n.shape.arms (leaves n) = sym (sum_of_one n.shape.arms (leaves n) one ∙ all 0) in
    elim (cases_lt (supply n 0) total) [
      | inl short ↦
          let e : amount ≡ supply n 0 = omega arith in
          step_short n o total s one out elsewhere sum short (subst (λ (z : ℕ). HaveShifted n z o) e h)
      | inr fits ↦
          let e : amount ≡ total = omega arith in
          let g : HaveShifted n total o = subst (λ (z : ℕ). HaveShifted n z o) e h in
          let P : ℕ → Type 0 = λ z. slice_index o.row (left_after_place n.shape z 0) ≡ left n z 0 + leaves n z in
          let within : (j : ℕ) → j < n.shape.outs → total ≤ supply n j = λ j l.
          let only : j ≡ 0 = omega (arith, out) in subst (λ (z : ℕ). total ≤ supply n z) (sym only) fits in
          step_to_out n o total s elsewhere sum within (record {
            arms = record {
              shape = g.shape;
              width = g.width;
              left = λ i l. let only : i ≡ 0 = omega (arith, one) in subst P (sym only) (g.left ∙ ap (λ z. left n 0 0 + z) (sym (all 0)));
            };
            entered = λ some. g.entered;
            arrived = omega (arith, g.arrived);
          })
    ]

-- where nothing leaves the arms, nothing moves
pub step_still : (n : Inputs) (o : Outputs) → IsNarrow n.shape → is_own n.shape 0 ≡ false → ((i : ℕ) → leaves n i ≡ 0) → HaveMoved n 0 0 o → IsNodeStep n o
step_still n o s elsewhere none h =
    step_to_out n o 0 s elsewhere (sym (sum_below-zero n.shape.arms (leaves n) (λ i l. none i))) (λ j l. omega arith) h
