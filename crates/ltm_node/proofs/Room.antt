use Rattle.std.proofs.Common.{◌≡◌, ℕ, ◌+◌, ◌^◌, ◌<◌, ◌≤◌, List, set, slice_index, arith, ap, ◌∙◌}
use Rattle.std.proofs.lemmas.List.{get_or-set_other}
use Rattle.ltm_node.specs.Inputs.{Inputs}
use Rattle.ltm_node.specs.Outputs.{left_after_place, entered_after_place, arrived_after_place}
use Rattle.ltm_node.specs.Solvable.{IsSolvable}
use Rattle.ltm_node.specs.Moving.{IsMoving}
use Rattle.ltm_node.proofs.Ranges.{sunk_at_small, sunk_all_small}
use Rattle.ltm_node.proofs.Moved.{moved_in_small}
use Rattle.ltm_node.proofs.Amounts.{left_low}

-- ---- what is added to the counts fits

pub left_room : (n : Inputs) (e : ℕ) (p : ℕ → ℕ) (stands : ℕ → ℕ → ℕ → Type 0) (b a k v : ℕ) (row : List ℕ) → IsSolvable n → IsMoving n e p stands b a k row → a < n.shape.arms → b < n.shape.destinations → v ≤ 2 ^ 20 →
    slice_index row (left_after_place n.shape a b) + v < 2 ^ 64
left_room n e p stands b a k v row s h al bl small = omega (arith, h.left_rest a b al bl (omega arith), s.left_counts a b al bl)

pub entered_room : (n : Inputs) (e : ℕ) (p : ℕ → ℕ) (stands : ℕ → ℕ → ℕ → Type 0) (b a k v : ℕ) (row : List ℕ) → IsSolvable n → ((i : ℕ) → i < n.shape.arms → p i ≤ e) → IsMoving n e p stands b a k row → a < n.shape.arms → b < n.shape.destinations → k < n.shape.outs → v ≤ 2 ^ 20 →
    slice_index row (entered_after_place n.shape k b) + v < 2 ^ 64
entered_room n e p stands b a k v row s f h al bl kl small =
    omega (arith, h.entered_there k kl bl (omega arith), s.entered_counts k b kl bl, moved_in_small n e p k b a s f bl (omega arith), s.few_arms)

pub arrived_room : (n : Inputs) (e : ℕ) (p : ℕ → ℕ) (stands : ℕ → ℕ → ℕ → Type 0) (b a v x : ℕ) (row row' : List ℕ) → IsSolvable n → ((i : ℕ) → i < n.shape.arms → p i ≤ e) → IsMoving n e p stands b a 0 row → row' ≡ set row (left_after_place n.shape a b) x → a < n.shape.arms → b < n.shape.destinations → v ≤ 2 ^ 20 →
    slice_index row' (arrived_after_place n.shape) + v < 2 ^ 64
arrived_room n e p stands b a v x row row' s f h er al bl small =
    let was : slice_index row' (arrived_after_place n.shape) ≡ slice_index row (arrived_after_place n.shape) =
    ap (λ z. slice_index z (arrived_after_place n.shape)) er ∙ get_or-set_other row (left_after_place n.shape a b) (arrived_after_place n.shape) x 0 (omega (arith, left_low n a b al bl)) in
    omega (arith, h.arrived, s.arrived_count, sunk_all_small n e p b s f (omega arith), sunk_at_small n e p b a s f bl (omega arith), s.few_arms, s.few_destinations)
