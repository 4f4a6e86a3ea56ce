-- Weights that are known to be those of the setting.
use Rattle.std.proofs.Common.{◌≡◌, ℕ, ◌+◌, ◌^◌, ◌<◌, ◌==◌, ◌&&◌, ◌||◌, not, List, ◌++◌, length, slice_index, get_or, take, drop, nat_le, nat_lt, Bool, true, false, refl, ap, sym, ◌∙◌, subst, arith, inl, inr}
use Rattle.std.specs.Prelude.{Some, None, slice_range, ◌-◌}
use Rattle.std.proofs.lemmas.Bool.{cases_Bool, cases_eq, eq-eqb, ne_eqb}
use Rattle.std.proofs.lemmas.List.{append_assoc, length-append, length-take, length-drop}
use Rattle.std.proofs.lemmas.List.Folds.{list_any_more}
use Rattle.ltm_units.specs.declared.places.Reach.{Reach}
use Rattle.ltm_curve.specs.Counts.{Counts}
use Rattle.ltm_curve.proofs.Lists.{length-list_below}
use Rattle.ltm_loading.specs.Setting.{Setting, IsSetting}
use Rattle.ltm_loading.specs.Loading.{IsFront}
use Rattle.ltm_loading.specs.Flows.{receiving}
use Rattle.ltm_loading.specs.Networks.{SameNetwork}
use Rattle.ltm_loading.specs.Pairs.{arms_of, arm_capacity, sending, shape_at, pair_row}
use Rattle.ltm_loading.specs.Uncounted.{uncounted_row, IsUncountedPair, UncountedInRange}
use Rattle.ltm_loading.proofs.Rows.{length-grid}
use Rattle.ltm_node.specs.Inputs.{Inputs}
use Rattle.ltm_node.specs.Solvable.{IsSolvable}
use Rattle.ltm_node.specs.Uncounted.{uncounted, with_no_counts}
use Rattle.ltm_node.specs.Shape.{counts_begin, supplies_begin, weights_begin}
use Rattle.ltm_node.specs.declared.shape.NodeShape.{NodeShape}
use Rattle.ltm_inputs.specs.Parts.{sending_part, supply_part, capacity_part, weights_part}
use Rattle.ltm_inputs.specs.Reads.{ReadsFlows}
use Rattle.ltm_frontier.specs.Frontier.{in_slots as marked_slots}
use Rattle.ltm_pairs.specs.Reaches.{lies_in}
use Rattle.ltm_rows.specs.declared.layout.Part.TheVariants.{Amounts}
use Rattle.ltm_rows.specs.declared.rows.KeptRows.{KeptRows}
use Rattle.ltm_rows.specs.Rows.{nodes_kept, slots_kept, amounts_of, weights_of, row_of, has_row, is_weighed, kept_row, in_slots, HasRows, SameRows, PutsRow, Unweighs, Weighs}
use Rattle.ltm_rows.specs.Parts.{without_counts}
use Rattle.ltm_rows.specs.Starts.{part_width}
use Rattle.ltm_rows.proofs.PartRows.{part_and_rest, limits_narrow}
use Rattle.ltm_rows.proofs.KeptPlaces.{both_parts, weights_put, kept_parts, length_row, some_kept, none_kept, is_same_places}
use Rattle.ltm_working.specs.Batches.{in_reaches, UnweighsAll}
use Rattle.ltm_working.specs.Desks.{row_without_counts}
use Rattle.ltm_working.specs.Ready.{WeightsAreCurrent}
use Rattle.ltm_working.specs.Waking.{ForgetsIf}
use Rattle.ltm_working.proofs.Bools.{and_on}
use Rattle.ltm_working.proofs.Keeping.{no_counts, limits_in, long_uncounted, kept_uncounted}
use Rattle.ltm_repair.proofs.Cases.{cases_pair}
use Rattle.ltm_repair.proofs.Networks.{shape_same}

-- ---- what a pair reads but for its counts: its amounts, and then its weights
abbrev pub amounts_part : Setting → Counts → ℕ → ℕ → List ℕ
amounts_part s c u t = sending_part s c u t ++ (supply_part s c u t ++ capacity_part s u t)

pub row_parts : (s : Setting) (c : Counts) (u t : ℕ) → row_without_counts s u (pair_row s c u t) ≡ amounts_part s c u t ++ weights_part s u t
row_parts s c u t =
    let a : List ℕ = sending_part s c u t in
    let b : List ℕ = supply_part s c u t in
    let d : List ℕ = capacity_part s u t in
    let e : List ℕ = weights_part s u t in
    no_counts s c u t ∙ sym (append_assoc a (b ++ d) e ∙ ap (λ (z : List ℕ). a ++ z) (append_assoc b d e))

pub length-amounts_part : (s : Setting) (c : Counts) (u t : ℕ) → length (amounts_part s c u t) ≡ part_width Amounts (shape_at s u)
length-amounts_part s c u t =
    omega (
      arith,
      length-append (sending_part s c u t) (supply_part s c u t ++ capacity_part s u t),
      length-append (supply_part s c u t) (capacity_part s u t),
      length-grid (arms_of s u) s.destinations (sending s c u t),
      length-list_below (s.outs u) (λ j. receiving s c (s.out_link u j) t),
      length-list_below (arms_of s u) (arm_capacity s u t),
    )

-- inputs in which the counts are not told are these, one behind the other
pub behind_counts : (shape : NodeShape) (row : List ℕ) →
    (take (counts_begin shape) row ++ slice_range row (supplies_begin shape) (weights_begin shape)) ++ drop (weights_begin shape) row ≡ without_counts shape row
behind_counts shape row =
    let front : List ℕ = take (counts_begin shape) row in
    let rest : slice_range row (supplies_begin shape) (weights_begin shape) ++ drop (weights_begin shape) row ≡ drop (supplies_begin shape) row =
    part_and_rest row (supplies_begin shape) (weights_begin shape) (omega arith) in
    append_assoc front (slice_range row (supplies_begin shape) (weights_begin shape)) (drop (weights_begin shape) row) ∙ ap (λ (z : List ℕ). front ++ z) rest

-- amounts of inputs, with weights that stand as they do in the inputs
pub row_again : (shape : NodeShape) (row sends limits weights : List ℕ) → sends ≡ take (counts_begin shape) row → limits ≡ slice_range row (supplies_begin shape) (weights_begin shape) → weights ≡ drop (weights_begin shape) row →
    (sends ++ limits) ++ weights ≡ without_counts shape row
row_again shape row sends limits weights a b e = rw (a, b, e) (behind_counts shape row)

pub inputs_parts : (s : Setting) (c : Counts) (u t : ℕ) (n : Inputs) → IsUncountedPair s c u t (uncounted n) →
    (take (counts_begin n.shape) n.row ++ slice_range n.row (supplies_begin n.shape) (weights_begin n.shape) ≡ amounts_part s c u t) × (drop (weights_begin n.shape) n.row ≡ weights_part s u t)
inputs_parts s c u t n is =
    let shape : NodeShape = shape_at s u in
    let front : List ℕ = take (counts_begin shape) n.row in
    let limits : List ℕ = slice_range n.row (supplies_begin shape) (weights_begin shape) in
    let rest : List ℕ = drop (weights_begin shape) n.row in
    let all : front ++ drop (supplies_begin shape) n.row ≡ amounts_part s c u t ++ weights_part s u t = kept_uncounted s c u t n is ∙ row_parts s c u t in
    let told : with_no_counts shape n.row ≡ uncounted_row s c u t = subst (λ (z : NodeShape). with_no_counts z n.row ≡ uncounted_row s c u t) is.shape is.row in
    let wide : length (front ++ limits) ≡ length (amounts_part s c u t) =
    omega (
      arith,
      long_uncounted s c u t n.row told,
      ap length all,
      length-append front (drop (supplies_begin shape) n.row),
      length-append (amounts_part s c u t) (weights_part s u t),
      length-append front limits,
      length-take (counts_begin shape) n.row,
      length-take (weights_begin shape - supplies_begin shape) (drop (supplies_begin shape) n.row),
      length-drop (supplies_begin shape) n.row,
      length-amounts_part s c u t,
    ) in
    let parts = both_parts (front ++ limits) rest (amounts_part s c u t) (weights_part s u t) wide (behind_counts shape n.row ∙ all) in (
      ap (λ (z : NodeShape). take (counts_begin z) n.row ++ slice_range n.row (supplies_begin z) (weights_begin z)) is.shape ∙ parts.0,
      ap (λ (z : NodeShape). drop (weights_begin z) n.row) is.shape ∙ parts.1,
    )

-- the parts of inputs of which the flows are read
pub flows_amounts : (s : Setting) (c : Counts) (u t : ℕ) (n : Inputs) (xs ys : List ℕ) → ReadsFlows s c u t n → xs ≡ take (counts_begin n.shape) n.row → ys ≡ slice_range n.row (supplies_begin n.shape) (weights_begin n.shape) →
    xs ++ ys ≡ amounts_part s c u t
flows_amounts s c u t n xs ys reads x y = ap (λ (z : List ℕ). z ++ ys) (x ∙ reads.sends) ∙ ap (λ (z : List ℕ). sending_part s c u t ++ z) (y ∙ reads.limits)

-- and of inputs that stand ready but for the counts
pub inputs_amounts : (s : Setting) (c : Counts) (u t : ℕ) (n : Inputs) (xs ys : List ℕ) → IsUncountedPair s c u t (uncounted n) → xs ≡ take (counts_begin n.shape) n.row →
    ys ≡ slice_range n.row (supplies_begin n.shape) (weights_begin n.shape) → xs ++ ys ≡ amounts_part s c u t
inputs_amounts s c u t n xs ys is x y = rw (x, y) (inputs_parts s c u t n is).0

-- the row of a pair of its amounts and weights
pub whole_row : (s : Setting) (c : Counts) (u t : ℕ) (xs ys : List ℕ) → xs ≡ amounts_part s c u t → ys ≡ weights_part s u t → xs ++ ys ≡ row_without_counts s u (pair_row s c u t)
whole_row s c u t xs ys x y = rw (x, y) (sym (row_parts s c u t))

-- limits that are read fit 16 bits
pub limits_small : (s : Setting) (c : Counts) (t u : ℕ) (n : Inputs) (xs : List ℕ) → UncountedInRange → IsSetting s → IsFront s c t → t < s.slots → u < s.nodes → ReadsFlows s c u t n →
    xs ≡ slice_range n.row (supplies_begin n.shape) (weights_begin n.shape) → (i : ℕ) → i < length xs → slice_index xs i < 2 ^ 16
limits_small s c t u n xs law is front l x reads at i low =
    let m : Inputs = record { shape = shape_at s u; row = uncounted_row s c u t; room = 0 } in
    let solvable : IsSolvable m = law s c t u m is front l x (record { shape = refl; row = refl }) in
    limits_narrow m xs solvable (at ∙ (reads.limits ∙ sym (limits_in s c u t))) i low

-- ---- a row is put, and a row is forgotten
pub weighed_put : (s : Setting) (old new : KeptRows) (c : Counts) (u t : ℕ) (row : List ℕ) → HasRows s s.slots old → u < s.nodes → t < s.slots → WeightsAreCurrent s old → PutsRow old new u t row →
    row ≡ row_without_counts s u (pair_row s c u t) → WeightsAreCurrent s new
weighed_put s old new c u t row has x l current puts is = λ w v y m on.
    let in_nodes : (z : ℕ) → z < s.nodes → z < nodes_kept old = λ z p. omega (arith, p, has.amounts.nodes) in
    let in_slots : (z : ℕ) → z < s.slots → z < slots_kept old = λ z p. omega (arith, p, has.same_slots) in
    elim (cases_pair u t w v) [
      | inl at ↦
          let here : weights_of new u t ≡ weights_part s u t =
          weights_put old new u t (amounts_part s c u t) (weights_part s u t) (in_nodes u x) (in_slots t l) (length-amounts_part s c u t ∙ sym (has.amounts.widths u x))
          (subst (λ (z : List ℕ). PutsRow old new u t z) (is ∙ row_parts s c u t) puts) in
          subst (λ (z : ℕ). weights_of new z v ≡ weights_part s z v) at.0 (subst (λ (z : ℕ). weights_of new u z ≡ weights_part s u z) at.1 here)
      | inr other ↦
          puts.others_weights w v (in_nodes w y) (in_slots v m) other
          ∙ current w v y m (sym (puts.others_weighed w v (in_nodes w y) (in_slots v m) other) ∙ on)
    ]

pub weighed_forget : (s : Setting) (b : Bool) (old new : KeptRows) (u t : ℕ) → HasRows s s.slots old → WeightsAreCurrent s old → ForgetsIf b old new u t → WeightsAreCurrent s new
weighed_forget s false old new u t has current is = subst (λ (z : KeptRows). WeightsAreCurrent s z) (sym is) current
weighed_forget s true old new u t has current is = λ w v y m on.
    is.weights w v (omega (arith, y, has.amounts.nodes)) (omega (arith, m, has.same_slots)) ∙ current w v y m (sym (is.weighed w v) ∙ on)

-- more room
pub weighed_same : (s : Setting) (slots : ℕ) (old new : KeptRows) → HasRows s slots old → slots ≡ s.slots → WeightsAreCurrent s old → SameRows old new → WeightsAreCurrent s new
weighed_same s slots old new has at current same = λ w v y m on.
    same.weights w v (omega (arith, y, has.amounts.nodes)) (omega (arith, m, at, has.same_slots)) ∙ current w v y m (sym (same.weighed w v) ∙ on)

-- a row that was weighed and then put
pub puts_weighed : (a b d : KeptRows) (u t : ℕ) (weights row : List ℕ) → Weighs a b u t weights → PutsRow b d u t row → PutsRow a d u t row
puts_weighed a b d u t weights row first next =
    let in_b : (w : ℕ) → w < nodes_kept a → w < nodes_kept b = λ w x. rw first.places.narrow x in
    let slot_b : (v : ℕ) → v < slots_kept a → v < slots_kept b = λ v l. rw first.slots l in
    record {
      places = record { narrow = next.places.narrow ∙ first.places.narrow; wide = next.places.wide ∙ first.places.wide };
      slots = next.slots ∙ first.slots;
      here = next.here;
      there = next.there;
      weighed = next.weighed;
      others_amounts = λ w v x l other. next.others_amounts w v (in_b w x) (slot_b v l) other ∙ first.amounts w v;
      others_weights = λ w v x l other. next.others_weights w v (in_b w x) (slot_b v l) other ∙ first.others_weights w v x l other;
      others_there = λ w v x l other. next.others_there w v (in_b w x) (slot_b v l) other ∙ first.there w v;
      others_weighed = λ w v x l other. next.others_weighed w v (in_b w x) (slot_b v l) other ∙ first.others_weighed w v x l other;
    }

-- ---- whether a row is kept is told by its amounts where its weights are current
pub kept_amounts : (s : Setting) (k : KeptRows) (c : Counts) (u t : ℕ) (xs : List ℕ) → weights_of k u t ≡ weights_part s u t → xs ≡ amounts_part s c u t → has_row k u t ≡ true → amounts_of k u t ≡ xs →
    kept_row k u t ≡ Some (row_without_counts s u (pair_row s c u t))
kept_amounts s k c u t xs weights is on same =
    let row : row_of k u t ≡ amounts_part s c u t ++ weights_part s u t = rw (same, weights, is) refl in
    some_kept k u t on ∙ ap (λ (z : List ℕ). Some z) (row ∙ sym (row_parts s c u t))

pub amounts_kept : (s : Setting) (k : KeptRows) (c : Counts) (u t : ℕ) (xs : List ℕ) → HasRows s s.slots k → u < s.nodes → t < s.slots → xs ≡ amounts_part s c u t → kept_row k u t ≡ Some (row_without_counts s u (pair_row s c u t)) →
    (has_row k u t ≡ true) × (amounts_of k u t ≡ xs)
amounts_kept s k c u t xs has x l is some =
    let on : has_row k u t ≡ true = elim (cases_Bool (has_row k u t)) [
      | inl on ↦ on
      | inr off ↦ let none : kept_row k u t ≡ None = none_kept k u t off in absurd (cc)
    ] in
    let long : length (amounts_of k u t) ≡ length (amounts_part s c u t) =
    length_row k u t (omega (arith, x, has.amounts.nodes)) (omega (arith, l, has.same_slots)) ∙ (has.amounts.widths u x ∙ sym (length-amounts_part s c u t)) in
    (on, (kept_parts k u t (amounts_part s c u t) (weights_part s u t) (row_without_counts s u (pair_row s c u t)) on long (row_parts s c u t) some).0 ∙ sym is)

-- what a pair reads tells its weights
pub weights_same : (r s : Setting) (c : Counts) (u t : ℕ) → SameNetwork r s → pair_row s c u t ≡ pair_row r c u t → weights_part s u t ≡ weights_part r u t
weights_same r s c u t network same =
    let shape : shape_at r u ≡ shape_at s u = shape_same r s u network in
    let rows : amounts_part s c u t ++ weights_part s u t ≡ amounts_part r c u t ++ weights_part r u t =
    sym (row_parts s c u t) ∙ (ap (row_without_counts s u) same ∙ (ap (λ (z : NodeShape). without_counts z (pair_row r c u t)) (sym shape) ∙ row_parts r c u t)) in
    let long : length (amounts_part s c u t) ≡ length (amounts_part r c u t) = length-amounts_part s c u t ∙ (ap (part_width Amounts) (sym shape) ∙ sym (length-amounts_part r c u t)) in
    (both_parts (amounts_part s c u t) (weights_part s u t) (amounts_part r c u t) (weights_part r u t) long rows).1

-- ---- weights are weighed no more
and_three : (a b c : Bool) → ((a && not b) && not c) ≡ (a && not (b || c))
and_three true true c = refl
and_three true false c = refl
and_three false b c = refl

pub unweighs_none : (k : KeptRows) → UnweighsAll k k (λ w v. false)
unweighs_none k = record {
  places = is_same_places k k refl;
  slots = refl;
  rows = λ w v. refl;
  weights = λ w v. refl;
  weighed = λ w v x l. sym (and_on (is_weighed k w v));
}

pub unweighs_both : (a b c : KeptRows) (f g : ℕ → ℕ → Bool) → UnweighsAll a b f → UnweighsAll b c g → UnweighsAll a c (λ w v. f w v || g w v)
unweighs_both a b c f g first next = record {
  places = record { narrow = next.places.narrow ∙ first.places.narrow; wide = next.places.wide ∙ first.places.wide };
  slots = next.slots ∙ first.slots;
  rows = λ w v. next.rows w v ∙ first.rows w v;
  weights = λ w v. next.weights w v ∙ first.weights w v;
  weighed = λ w v x l.
      next.weighed w v (rw first.places.narrow x) (rw first.slots l)
      ∙ (ap (λ z. z && not (g w v)) (first.weighed w v x l) ∙ and_three (is_weighed a w v) (f w v) (g w v));
}

pub unweighs_as : (a b : KeptRows) (f g : ℕ → ℕ → Bool) → UnweighsAll a b f → ((w v : ℕ) → f w v ≡ g w v) → UnweighsAll a b g
unweighs_as a b f g is same = record {
  places = is.places;
  slots = is.slots;
  rows = is.rows;
  weights = is.weights;
  weighed = λ w v x l. is.weighed w v x l ∙ ap (λ z. is_weighed a w v && not z) (same w v);
}

pub unweighs_node : (a b : KeptRows) (u from to : ℕ) → Unweighs a b u from to → UnweighsAll a b (in_slots u from to)
unweighs_node a b u from to is = record {
  places = is.places;
  slots = is.slots;
  rows = λ w v. rw (is.there w v, is.amounts w v, is.weights w v) refl;
  weights = is.weights;
  weighed = is.weighed;
}

both_off : (a b : Bool) → (a && not b) ≡ true → (a ≡ true) × (b ≡ false)
both_off true false h = (refl, refl)
both_off true true h = absurd (cc)
both_off false b h = absurd (cc)

-- reaches, one more
turned_eq : (a b : ℕ) → (a == b) ≡ (b == a)
turned_eq a b = elim (cases_eq a b) [
  | inl same ↦ rw (eq-eqb a b same, eq-eqb b a (sym same)) refl
  | inr apart ↦ rw (ne_eqb a b apart, ne_eqb b a (λ e. apart (sym e))) refl
]

pub reach_more : (xs : List Reach) (i : ℕ) (d : Reach) (w v : ℕ) → i < length xs → (in_reaches (take i xs) w v || in_slots (get_or xs i d).node.0 (get_or xs i d).from (get_or xs i d).to w v) ≡ in_reaches (take (i + 1) xs) w v
reach_more xs i d w v l = sym (list_any_more (lies_in w v) xs i d l)

pub reach_marked : (xs : List Reach) (i : ℕ) (d : Reach) (w v : ℕ) → i < length xs → (in_reaches (take i xs) w v || marked_slots (get_or xs i d).node.0 (get_or xs i d).from (get_or xs i d).to w v) ≡ in_reaches (take (i + 1) xs) w v
reach_marked xs i d w v l =
    let r : Reach = get_or xs i d in
    ap (λ z. in_reaches (take i xs) w v || (z && (nat_le r.from v && nat_lt v r.to))) (turned_eq w r.node.0) ∙ reach_more xs i d w v l

-- what is weighed after that was weighed before, and is none of them
pub still_weighed : (a b : KeptRows) (f : ℕ → ℕ → Bool) (w v : ℕ) → UnweighsAll a b f → w < nodes_kept a → v < slots_kept a → is_weighed b w v ≡ true → (is_weighed a w v ≡ true) × (f w v ≡ false)
still_weighed a b f w v is x l on =
    let both : (is_weighed a w v && not (f w v)) ≡ true = sym (is.weighed w v x l) ∙ on in
    both_off (is_weighed a w v) (f w v) both
