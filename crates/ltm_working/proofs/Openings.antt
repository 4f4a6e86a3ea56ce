-- A loading is made, and what its pairs read is kept on the way.
use Rattle.std.proofs.Common.{◌≡◌, ℕ, ◌+◌, ◌*◌, ◌<◌, ◌≤◌, List, slice_index, take, ap, sym, ◌∙◌, subst, arith}
use Rattle.std.specs.Prelude.{Some}
use Rattle.std.proofs.lemmas.List.{get_or-take}
use Rattle.std.proofs.lemmas.Nat.{mul-add-lt}
use Rattle.ltm_curve.specs.Counts.{Counts}
use Rattle.ltm_node.specs.declared.shape.NodeShape.{NodeShape}
use Rattle.ltm_node.specs.Shape.{counts_begin, sending_place}
use Rattle.ltm_node.specs.Inputs.{Inputs}
use Rattle.ltm_node.specs.Laws.{NothingIsSent}
use Rattle.ltm_loading.specs.Setting.{Setting, IsSetting}
use Rattle.ltm_loading.specs.Groups.{up_of, down_of, groups}
use Rattle.ltm_loading.specs.Pairs.{arms_of, sending, shape_at}
use Rattle.ltm_loading.proofs.Rows.{index-grid}
use Rattle.ltm_loading.proofs.Same.{AgreeAt, pair_row_same, position_same}
use Rattle.ltm_inputs.specs.Idle.{IsIdle}
use Rattle.ltm_inputs.specs.Parts.{sending_part}
use Rattle.ltm_index.specs.declared.read_index.ReadIndex.{ReadIndex}
use Rattle.ltm_rows.specs.declared.rows.KeptRows.{KeptRows}
use Rattle.ltm_working.specs.Desks.{row_without_counts}
use Rattle.ltm_working.specs.Placing.{KeepsPair, KeepsSlots}
use Rattle.ltm_working.specs.Openings.{StaysTo}

-- what is kept of a pair stays where no count up to its slot changes
agree_at : (s : Setting) (a b : Counts) (slot v g : ℕ) → StaysTo s slot a b → v ≤ slot → g < groups s → AgreeAt s a b g v
agree_at s a b slot v g stays l x = record { same = λ d k m le. sym (stays g d k x m (omega arith)) }

pair_still : (s : Setting) (a b : Counts) (k : KeptRows) (x : ReadIndex) (slot w v : ℕ) → IsSetting s → w < s.nodes → v ≤ slot → StaysTo s slot a b → KeepsPair s a k x w v → KeepsPair s b k x w v
pair_still s a b k x slot w v is node l stays pair = record {
  row = pair.row ∙ ap (λ (z : List ℕ). Some (row_without_counts s w z)) (sym (pair_row_same s b a w v is (record { same = λ g d j y m le. stays g d j y m (omega arith) }) node));
  weighed = pair.weighed;
  placed = λ i p.
      let link : s.in_link w i < s.links = is.network.in_link_is_link w i node p in
      pair.placed i p
      ∙ ap (λ (z : ℕ). Some z)
      (position_same s a b (s.in_link w i) v is (agree_at s a b slot v (up_of (s.in_link w i)) stays l (omega arith)) (agree_at s a b slot v (down_of (s.in_link w i)) stays l (omega arith)) link);
}

pub keeps_still : (s : Setting) (a b : Counts) (k : KeptRows) (x : ReadIndex) (slot nodes : ℕ) → IsSetting s → nodes ≤ s.nodes → StaysTo s slot a b → KeepsSlots s a k x slot nodes → KeepsSlots s b k x slot nodes
keeps_still s a b k x slot nodes is few stays keeps = record {
  rows = keeps.rows;
  lists = keeps.lists;
  weights = keeps.weights;
  earlier = λ w v p q. pair_still s a b k x slot w v is p (omega arith) stays (keeps.earlier w v p q);
  here = λ w p. pair_still s a b k x slot w slot is (omega arith) (omega arith) stays (keeps.here w p);
  rest = keeps.rest;
  later = keeps.later;
}

-- a pair is idle where its inputs tell that nothing is sent
pub idle_inputs : (s : Setting) (c : Counts) (u t : ℕ) (n : Inputs) → n.shape ≡ shape_at s u → take (counts_begin n.shape) n.row ≡ sending_part s c u t → NothingIsSent n → IsIdle s c u t
idle_inputs s c u t n shape sends none i d l m =
    let w : ℕ = s.destinations in
    let place : ℕ = i * w + d in
    let low : place < arms_of s u * w = omega (arith, mul-add-lt i w d (arms_of s u) l m) in
    let part : take (arms_of s u * w) n.row ≡ sending_part s c u t = subst (λ (z : NodeShape). take (counts_begin z) n.row ≡ sending_part s c u t) shape sends in
    let at : slice_index n.row (sending_place n.shape i d) ≡ 0 = none i d (omega (arith, l, ap (λ (z : NodeShape). z.arms) shape)) (omega (arith, m, ap (λ (z : NodeShape). z.destinations) shape)) in
    sym (index-grid (arms_of s u) w (sending s c u t) i d l m)
    ∙ (ap (λ (z : List ℕ). slice_index z place) (sym part)
    ∙ (get_or-take (arms_of s u * w) n.row place 0 low
    ∙ (ap (λ (z : NodeShape). slice_index n.row (sending_place z i d)) (sym shape) ∙ at)))
