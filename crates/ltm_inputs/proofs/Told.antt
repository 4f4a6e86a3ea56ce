-- A pair's row of which the counts are not told.
use Rattle.std.proofs.Common.{append_assoc, ◌≡◌, ◌≤◌, ℕ, ◌+◌, ◌*◌, List, ◌++◌, length, length-append, replicate, take, drop, arith, ap, sym, ◌∙◌}
use Rattle.std.proofs.lemmas.List.{take_at, drop_at, length-take-le, length-replicate, get_or-replicate}
use Rattle.ltm_curve.specs.Counts.{Counts}
use Rattle.ltm_curve.specs.First.{list_below}
use Rattle.ltm_curve.proofs.Lists.{length-list_below}
use Rattle.ltm_node.specs.declared.shape.NodeShape.{NodeShape}
use Rattle.ltm_node.specs.Shape.{width, counts_begin, counts_width, supplies_begin}
use Rattle.ltm_node.specs.Uncounted.{with_no_counts}
use Rattle.ltm_loading.specs.Setting.{Setting}
use Rattle.ltm_loading.specs.Pairs.{arms_of, shape_at, sending}
use Rattle.ltm_loading.specs.Uncounted.{uncounted_row}
use Rattle.ltm_loading.proofs.Rows.{length-grid}
use Rattle.ltm_inputs.specs.Parts.{sending_part, limit_parts}
use Rattle.ltm_inputs.proofs.Lists.{zeros_joined}

-- all but the counts stands in a row
pub record HasParts (s : Setting) (c : Counts) (u t : ℕ) (shape : NodeShape) (row : List ℕ) : Type 0 where
  pub sends : take (counts_begin shape) row ≡ sending_part s c u t
  pub limits : drop (supplies_begin shape) row ≡ limit_parts s c u t

-- the parts of a row, one behind the other
pub parts_written : (s : Setting) (c : Counts) (u t : ℕ) (shape : NodeShape) (xs ys zs : List ℕ) → shape ≡ shape_at s u → length ys ≡ counts_width shape → xs ≡ sending_part s c u t → zs ≡ limit_parts s c u t →
    HasParts s c u t shape (xs ++ (ys ++ zs))
parts_written s c u t shape xs ys zs is between x z =
    let long : length xs ≡ counts_begin shape = ap length x ∙ (length-grid (arms_of s u) s.destinations (sending s c u t) ∙ sym (ap counts_begin is)) in
    record {
      sends = take_at xs (ys ++ zs) (counts_begin shape) long ∙ x;
      limits = ap (drop (supplies_begin shape)) (sym (append_assoc xs ys zs)) ∙ (drop_at (xs ++ ys) zs (supplies_begin shape) (omega (arith, length-append xs ys, long, between)) ∙ z);
    }

-- where nothing has been counted they are the row of the pair
pub uncounted_from : (s : Setting) (c : Counts) (u t : ℕ) (shape : NodeShape) (row : List ℕ) → shape ≡ shape_at s u → HasParts s c u t shape row → with_no_counts shape row ≡ uncounted_row s c u t
unfolding with_no_counts
uncounted_from s c u t shape row is h =
    let n : ℕ = counts_width shape in
    let zeros : List ℕ = replicate n 0 in
    let long : length zeros ≡ n = length-replicate n 0 in
    let all : n ≡ arms_of s u * s.destinations + s.outs u * s.destinations + 1 = ap counts_width is in
    let p : List ℕ = sending_part s c u t in
    ap (λ (z : List ℕ). z ++ (zeros ++ drop (supplies_begin shape) row)) h.sends
    ∙ (ap (λ (z : List ℕ). p ++ (zeros ++ z)) h.limits
    ∙ ap (λ (z : List ℕ). p ++ z) (zeros_joined (arms_of s u * s.destinations) (s.outs u * s.destinations) zeros (limit_parts s c u t) (long ∙ all) (λ k l. get_or-replicate n k 0 0 (omega (arith, l, long)))))

-- and the other way round
pub parts_from : (s : Setting) (c : Counts) (u t : ℕ) (shape : NodeShape) (row : List ℕ) → shape ≡ shape_at s u → width shape ≤ length row → with_no_counts shape row ≡ uncounted_row s c u t → HasParts s c u t shape row
unfolding with_no_counts
parts_from s c u t shape row is long e =
    let begin : ℕ = counts_begin shape in
    let n : ℕ = counts_width shape in
    let a : ℕ = arms_of s u * s.destinations in
    let o : ℕ = s.outs u * s.destinations in
    let p : List ℕ = sending_part s c u t in
    let x : List ℕ = list_below a (λ k. 0) in
    let y : List ℕ = list_below o (λ k. 0) in
    let z : List ℕ = list_below 1 (λ k. 0) in
    let l : List ℕ = limit_parts s c u t in
    let front : List ℕ = take begin row in
    let zeros : List ℕ = replicate n 0 in
    let back : List ℕ = drop (supplies_begin shape) row in
    let here : length front ≡ begin = length-take-le begin row (omega (arith, long)) in
    let there : length p ≡ begin = length-grid (arms_of s u) s.destinations (sending s c u t) ∙ sym (ap counts_begin is) in
    let all : n ≡ a + o + 1 = ap counts_width is in
    let middle : length (x ++ (y ++ z)) ≡ n =
    omega (arith, all, length-append x (y ++ z), length-append y z, length-list_below a (λ k. 0), length-list_below o (λ k. 0), length-list_below 1 (λ k. 0)) in
    let joined : front ++ (zeros ++ back) ≡ p ++ ((x ++ (y ++ z)) ++ l) = e ∙ ap (λ (q : List ℕ). p ++ q) (ap (λ (q : List ℕ). x ++ q) (sym (append_assoc y z l)) ∙ sym (append_assoc x (y ++ z) l)) in
    let behind : zeros ++ back ≡ (x ++ (y ++ z)) ++ l = sym (drop_at front (zeros ++ back) begin here) ∙ (ap (drop begin) joined ∙ drop_at p ((x ++ (y ++ z)) ++ l) begin there) in
    record {
      sends = sym (take_at front (zeros ++ back) begin here) ∙ (ap (take begin) joined ∙ take_at p ((x ++ (y ++ z)) ++ l) begin there);
      limits = sym (drop_at zeros back n (length-replicate n 0)) ∙ (ap (drop n) behind ∙ drop_at (x ++ (y ++ z)) l n middle);
    }
