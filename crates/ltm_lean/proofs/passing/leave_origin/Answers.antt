use Rattle.std.proofs.Common.{◌≡◌, ℕ, List, length, slice_index, arith, ap, ◌∙◌}
use Rattle.ltm_units.specs.Sums.{sum_below}
use Rattle.ltm_node.specs.Outputs.{left_after}
use Rattle.ltm_loading.specs.Groups.{dep_of}
use Rattle.ltm_used.specs.Lists.{list_of}
use Rattle.ltm_lean_link.specs.Moved.{IsMoved}
use Rattle.ltm_lean.proofs.Arms.{moved_origin}
use Rattle.ltm_lean.proofs.Departing.{LeavesOrigin, leaves_origin}
use Rattle.ltm_lean.proofs.passing.leave_origin.Goals as goal

pub returns : goal.returns
returns c = λ s x counts u t arm some moving was.
    let us : List ℕ = list_of x.nodes u in
    let row : List ℕ = c.left_row.result.now in
    let moved : IsMoved s counts (dep_of s u) t us c.left_row.result.now =
    moved_origin s counts u t us row c.args.outputs.now moving.moves some (λ k l. c.left_row.ensures.counts k (omega (arith, l, moving.wide)) ∙ ap (λ (z : ℕ). left_after c.args.outputs.now z k) arm) in
    let leaves : LeavesOrigin s counts u t us c.left_row.result.now = leaves_origin s counts u t us row (moving.tables.node_listed counts u moving.loading moving.there) moving.in_time some moved in
    let long : length c.args.gone.now ≡ length us = c.requires.wide ∙ moving.wide in
    let sums : sum_below (length c.args.gone.now) (slice_index c.left_row.result.now) ≡ sum_below (length us) (slice_index c.left_row.result.now) = ap (λ (z : ℕ). sum_below z (slice_index row)) long in
    record {
      all = omega (arith, was.all, leaves.all, leaves.small, sums);
      each = λ k l. omega (arith, c.add_gone-all.ensures.each k (omega (arith, l, long)), was.each k l, leaves.each k l, leaves.below k l);
    }
