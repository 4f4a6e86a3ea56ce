-- The node step by shares.
use Rattle.std.proofs.Common.{◌≡◌, ℕ, ◌+◌, ◌*◌, List, ◌++◌, length, length-append, arith, refl}
use Rattle.ltm_curve.specs.First.{list_below}
use Rattle.ltm_curve.proofs.Lists.{length-list_below}
use Rattle.ltm_node.specs.Inputs.{Inputs, left, entered, arrived}
use Rattle.ltm_node.specs.Outputs.{Outputs}
use Rattle.ltm_node.specs.Moving.{filled_demands}
use Rattle.ltm_node.specs.Step.{gone, come, sunk_in_all, MovesAtShares}
use Rattle.ltm_node.proofs.Demanded.{filled_small, shares_filled}
use Rattle.ltm_loading.specs.Pairs.{grid}
use Rattle.ltm_loading.proofs.Rows.{HasCounts, counted, has_counts, length-grid}
use Rattle.ltm_existence.specs.Existence.{HasShares, ThereIsAStep}
use Rattle.ltm_existence.proofs.Rounds.{there_are_shares_holds}

length-counted : (a o m : ℕ) (gone enter : ℕ → ℕ → ℕ) (come : ℕ) → length (counted a o m gone enter come) ≡ a * m + o * m + 1
length-counted a o m gone enter come =
    let p1 : List ℕ = grid a m gone in
    let p2 : List ℕ = grid o m enter in
    let p3 : List ℕ = list_below 1 (λ k. come) in
    omega (arith, length-append p1 (p2 ++ p3), length-append p2 p3, length-grid a m gone, length-grid o m enter, length-list_below 1 (λ k. come))

-- the counts at the next boundary, at these shares
abbrev moved_row : Inputs → ℕ → (ℕ → ℕ) → List ℕ
moved_row n e p =
    counted n.shape.arms n.shape.outs n.shape.destinations (λ i d. left n i d + gone n e p i d) (λ j d. entered n j d + come n e p j d) (arrived n + sunk_in_all n e p)

abbrev moved_outputs : Inputs → ℕ → (ℕ → ℕ) → Outputs
moved_outputs n e p = record { shape = n.shape; row = moved_row n e p; room = 0 }

moves_at : (n : Inputs) (e : ℕ) (p : ℕ → ℕ) → MovesAtShares n e p (moved_outputs n e p)
moves_at n e p =
    let gone_to : ℕ → ℕ → ℕ = λ i d. left n i d + gone n e p i d in
    let come_to : ℕ → ℕ → ℕ = λ j d. entered n j d + come n e p j d in
    let all : ℕ = arrived n + sunk_in_all n e p in
    let held : HasCounts (moved_row n e p) n.shape.arms n.shape.outs n.shape.destinations gone_to come_to all =
    has_counts n.shape.arms n.shape.outs n.shape.destinations gone_to come_to all in
    record {
      shape = refl;
      width = length-counted n.shape.arms n.shape.outs n.shape.destinations gone_to come_to all;
      left = held.left;
      entered = held.entered;
      arrived = held.arrived;
    }

pub there_is_a_step_holds : ThereIsAStep
there_is_a_step_holds n solvable =
    let given : HasShares (filled_demands n) = there_are_shares_holds (filled_demands n) (filled_small n solvable) in
    record {
      outputs = moved_outputs n given.denominator given.numerators;
      step = ∣ record {
        denominator = given.denominator;
        numerators = given.numerators;
        shares = shares_filled n given.denominator given.numerators given.shares;
        moves = moves_at n given.denominator given.numerators;
      } ∣₁;
    }
