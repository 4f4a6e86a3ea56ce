-- The counts of a pair, written into its row.
use Rattle.std.proofs.Common.{append_assoc, ◌≡◌, ℕ, ◌+◌, List, ◌++◌, take, drop, arith, ap, ◌∙◌}
use Rattle.std.proofs.lemmas.List.{drop-drop}
use Rattle.ltm_curve.specs.Counts.{Counts}
use Rattle.ltm_node.specs.declared.shape.NodeShape.{NodeShape}
use Rattle.ltm_node.specs.Shape.{counts_begin, counts_width, supplies_begin}
use Rattle.ltm_loading.specs.Setting.{Setting}
use Rattle.ltm_loading.specs.Pairs.{pair_row, count_row}
use Rattle.ltm_inputs.specs.Parts.{sending_part, left_part, entered_part, arrived_part, limit_parts}
use Rattle.ltm_inputs.proofs.Told.{HasParts}

-- a row, from what its arms send, its counts and its limits
row_joined : (s : Setting) (c : Counts) (u t : ℕ) (xs ys zs : List ℕ) → xs ≡ sending_part s c u t → ys ≡ count_row s c u t → zs ≡ limit_parts s c u t → xs ++ (ys ++ zs) ≡ pair_row s c u t
row_joined s c u t xs ys zs x y z =
    let p : List ℕ = sending_part s c u t in
    let a : List ℕ = left_part s c u t in
    let b : List ℕ = entered_part s c u t in
    let d : List ℕ = arrived_part s c u t in
    let l : List ℕ = limit_parts s c u t in
    ap (λ (q : List ℕ). q ++ (ys ++ zs)) x
    ∙ (ap (λ (q : List ℕ). p ++ (q ++ zs)) y
    ∙ (ap (λ (q : List ℕ). p ++ ((a ++ (b ++ d)) ++ q)) z
    ∙ (ap (λ (q : List ℕ). p ++ q) (append_assoc a (b ++ d) l) ∙ ap (λ (q : List ℕ). p ++ (a ++ q)) (append_assoc b d l))))

-- a row in whose middle the counts are written
pub counts_written : (s : Setting) (c : Counts) (u t : ℕ) (shape : NodeShape) (row xs ys zs : List ℕ) (begin wide : ℕ) → HasParts s c u t shape row → begin ≡ counts_begin shape → wide ≡ counts_width shape →
    xs ≡ take begin row → ys ≡ count_row s c u t → zs ≡ drop wide (drop begin row) → xs ++ (ys ++ zs) ≡ pair_row s c u t
counts_written s c u t shape row xs ys zs begin wide h begins widths before counted behind =
    let place : begin + wide ≡ supplies_begin shape = omega (arith, begins, widths) in
    row_joined s c u t xs ys zs (before ∙ (ap (λ (k : ℕ). take k row) begins ∙ h.sends)) counted
    (behind ∙ (drop-drop wide begin row ∙ (ap (λ (k : ℕ). drop k row) place ∙ h.limits)))
