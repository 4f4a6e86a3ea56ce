-- What is read of the links of a pair, and the weights behind it.
use Rattle.std.proofs.Common.{append_assoc, ◌≡◌, ◌≤◌, ℕ, ◌+◌, ◌-◌, List, ◌++◌, length, length-append, take, drop, arith, ap, sym, ◌∙◌}
use Rattle.std.specs.Prelude.{slice_range}
use Rattle.std.proofs.lemmas.List.{take_at, drop_at, take-take, drop-take, take-append-le, drop-append-le, length-take-le}
use borrow.Rule.Slice.PartMut.{put_mid, post_of}
use Rattle.ltm_curve.specs.Counts.{Counts}
use Rattle.ltm_node.specs.declared.shape.NodeShape.{NodeShape}
use Rattle.ltm_node.specs.Shape.{width, counts_begin, counts_width, supplies_begin, weights_begin}
use Rattle.ltm_node.specs.Inputs.{Inputs}
use Rattle.ltm_node.specs.Lending.{with_numbers}
use Rattle.ltm_node.specs.Uncounted.{uncounted, with_no_counts}
use Rattle.ltm_loading.specs.Setting.{Setting}
use Rattle.ltm_loading.specs.Pairs.{shape_at}
use Rattle.ltm_loading.specs.Uncounted.{IsUncountedPair}
use Rattle.ltm_inputs.specs.Parts.{sending_part, supply_part, capacity_part, weights_part}
use Rattle.ltm_inputs.specs.Reads.{ReadsFlows}
use Rattle.ltm_inputs.proofs.Told.{HasParts, uncounted_from}

-- the limits stand behind what the arms send and a part for the counts
pub limits_written : (shape : NodeShape) (xs ys supply capacity rest : List ℕ) → length xs ≡ counts_begin shape → length ys ≡ counts_width shape → length supply ≡ shape.outs → length capacity ≡ shape.arms →
    slice_range (xs ++ (ys ++ (supply ++ (capacity ++ rest)))) (supplies_begin shape) (weights_begin shape) ≡ supply ++ capacity
limits_written shape xs ys supply capacity rest x y o a =
    let from : ℕ = supplies_begin shape in
    let wide : ℕ = weights_begin shape - from in
    ap (λ (z : List ℕ). take wide (drop from z)) (sym (append_assoc xs ys (supply ++ (capacity ++ rest))))
    ∙ (ap (take wide) (drop_at (xs ++ ys) (supply ++ (capacity ++ rest)) from (omega (arith, length-append xs ys, x, y)))
    ∙ (ap (take wide) (sym (append_assoc supply capacity rest))
    ∙ take_at (supply ++ capacity) rest wide (omega (arith, length-append supply capacity, o, a))))

-- a part of the front of a list
range_of_front : (n a b : ℕ) (xs : List ℕ) → a ≤ b → b ≤ n → slice_range (take n xs) a b ≡ slice_range xs a b
range_of_front n a b xs l m =
    let whole : n ≡ a + (n - a) = omega (arith, l, m) in
    ap (λ (z : ℕ). take (b - a) (drop a (take z xs))) whole ∙ (ap (take (b - a)) (drop-take a (n - a) xs) ∙ take-take (b - a) (n - a) (drop a xs) (omega (arith, l, m)))

-- what is written over a room with these numbers at its front are inputs whose flows are read
pub written_flows : (s : Setting) (c : Counts) (u t : ℕ) (old new : Inputs) (numbers : List ℕ) (shape : NodeShape) → shape ≡ shape_at s u → old.shape ≡ shape → new ≡ with_numbers old numbers → width shape ≤ length numbers →
    take (counts_begin shape) numbers ≡ sending_part s c u t → slice_range numbers (supplies_begin shape) (weights_begin shape) ≡ supply_part s c u t ++ capacity_part s u t → ReadsFlows s c u t new
written_flows s c u t old new numbers shape known is made long sends limits =
    let same : new.shape ≡ shape = ap (λ (n : Inputs). n.shape) made ∙ is in
    let front : new.row ≡ take (width shape) numbers =
    ap (λ (n : Inputs). n.row) made ∙ (ap (λ (z : NodeShape). take (width z) (numbers ++ drop (length numbers) old.row)) is ∙ take-append-le (width shape) numbers (drop (length numbers) old.row) long) in
    record {
      shape = same ∙ known;
      width = ap length front ∙ (length-take-le (width shape) numbers long ∙ sym (ap width same));
      sends = ap (λ (z : NodeShape). take (counts_begin z) new.row) same ∙ (ap (take (counts_begin shape)) front ∙ (take-take (counts_begin shape) (width shape) numbers (omega arith) ∙ sends));
      limits =
          ap (λ (z : NodeShape). slice_range new.row (supplies_begin z) (weights_begin z)) same
          ∙ (ap (λ (z : List ℕ). slice_range z (supplies_begin shape) (weights_begin shape)) front
          ∙ (range_of_front (width shape) (supplies_begin shape) (weights_begin shape) numbers (omega arith) (omega arith) ∙ limits));
    }

-- the weights behind what is read of the links
pub parts_weighed : (s : Setting) (c : Counts) (u t : ℕ) (old : Inputs) (ws : List ℕ) → ReadsFlows s c u t old → ws ≡ weights_part s u t → HasParts s c u t old.shape (take (weights_begin old.shape) old.row ++ ws)
parts_weighed s c u t old ws h w =
    let begin : ℕ = counts_begin old.shape in
    let from : ℕ = supplies_begin old.shape in
    let to : ℕ = weights_begin old.shape in
    let front : List ℕ = take to old.row in
    let long : length front ≡ to = length-take-le to old.row (omega (arith, h.width)) in
    let limits : drop from front ≡ supply_part s c u t ++ capacity_part s u t =
    let whole : to ≡ from + (to - from) = omega arith in
    ap (λ (z : ℕ). drop from (take z old.row)) whole ∙ (drop-take from (to - from) old.row ∙ h.limits) in
    record {
      sends = take-append-le begin front ws (omega (arith, long)) ∙ (take-take begin to old.row (omega arith) ∙ h.sends);
      limits =
          drop-append-le from front ws (omega (arith, long))
          ∙ (ap (λ (z : List ℕ). z ++ ws) limits
          ∙ (ap (λ (z : List ℕ). (supply_part s c u t ++ capacity_part s u t) ++ z) w ∙ append_assoc (supply_part s c u t) (capacity_part s u t) (weights_part s u t)));
    }

-- weights that are written behind the other numbers of a row at the front of a room
pub written_weights : (old : Inputs) (room ws : List ℕ) (begin k : ℕ) → begin ≡ weights_begin old.shape → begin + length ws ≡ width old.shape → width old.shape ≤ length room → take (width old.shape) room ≡ old.row →
    (with_numbers old (put_mid begin k room ws)).row ≡ take (weights_begin old.shape) old.row ++ ws
written_weights old room ws begin k begins many long row =
    let n : ℕ = width old.shape in
    let to : ℕ = weights_begin old.shape in
    let over : List ℕ = put_mid begin k room ws in
    let front : take begin room ≡ take to old.row = ap (λ (z : ℕ). take z room) begins ∙ (sym (take-take to n room (omega arith)) ∙ ap (take to) row) in
    let before : length (take begin room) ≡ begin = length-take-le begin room (omega (arith, many, long)) in
    let whole : length (take begin room ++ ws) ≡ n = omega (arith, length-append (take begin room) ws, before, many) in
    let behind : List ℕ = post_of begin k room in
    let all : over ≡ (take begin room ++ ws) ++ behind = sym (append_assoc (take begin room) ws behind) in
    let fits : n ≤ length over = omega (arith, ap length all, length-append (take begin room ++ ws) behind, whole) in
    take-append-le n over (drop (length over) old.row) fits
    ∙ (ap (take n) all ∙ (take_at (take begin room ++ ws) behind n whole ∙ ap (λ (z : List ℕ). z ++ ws) front))

-- then all but the counts is told
pub weighed : (s : Setting) (c : Counts) (u t : ℕ) (old new : Inputs) (ws : List ℕ) → ReadsFlows s c u t old → ws ≡ weights_part s u t → new.shape ≡ old.shape → new.row ≡ take (weights_begin old.shape) old.row ++ ws → IsUncountedPair s c u t (uncounted new)
weighed s c u t old new ws h w same row = record {
  shape = same ∙ h.shape;
  row =
      ap (λ (z : NodeShape). with_no_counts z new.row) same
      ∙ (ap (with_no_counts old.shape) row ∙ uncounted_from s c u t old.shape (take (weights_begin old.shape) old.row ++ ws) h.shape (parts_weighed s c u t old ws h w));
}
