use Rattle.std.proofs.Common.{◌≡◌, ◌||◌, ℕ, List, ap, sym, ◌∙◌, subst, arith}
use Rattle.std.specs.Prelude.{Some}
use Rattle.ltm_curve.specs.Table.{counts_of}
use Rattle.ltm_node.specs.Outputs.{Outputs}
use Rattle.ltm_node.specs.Inputs.{Inputs}
use Rattle.ltm_node.specs.Uncounted.{uncounted}
use Rattle.ltm_node.specs.Step.{IsNodeStep}
use Rattle.ltm_loading.specs.Uncounted.{IsUncountedPair}
use Rattle.ltm_setting.specs.Setting.{setting_of}
use Rattle.ltm_flows.proofs.Steps.{none_arrived}
use Rattle.ltm_repair.specs.Facts.{IsClaim}
use Rattle.ltm_repair.specs.Moves.{Commits}
use Rattle.ltm_rows.specs.Rows.{PutsRow}
use Rattle.ltm_working.specs.declared.table.Table.{Table}
use Rattle.ltm_working.specs.Desks.{row_without_counts, desk_at, changed_at}
use Rattle.ltm_working.specs.Ready.{IsReady}
use Rattle.ltm_working.specs.Committing.{readers, rewritten}
use Rattle.ltm_working.proofs.Keeping.{pair_uncounted}
use Rattle.ltm_working.proofs.Desks.{claimed_on}
use Rattle.ltm_working.proofs.Dropping.{at_front}
use Rattle.ltm_working.proofs.Committed.{CommitsTable, committed, is_committed}
use Rattle.ltm_working.proofs.Committing.{commits_desk, commits_ready, commits_cells, claim_inputs}
use Rattle.ltm_working.proofs.table.Table.commit.Goals as goal
use Rattle.ltm_working.proofs.table.Table.commit.Goals.{After-inputs}

pub settle-requires-clause-renewal : goal.settle-requires-clause-renewal
settle-requires-clause-renewal c =
    let s = setting_of c.args.scenario.now in
    let counts = counts_of c.args.self.now.curves in
    let inputs = c.args.solved.now.inputs in
    let claim : IsClaim s (desk_at s c.args.self.now) c.args.pair.node.0 c.args.pair.slot inputs.row = c.requires.ready.sound.claims c.args.pair.node.0 c.args.pair.slot inputs.row c.requires.claimed in
    let front = at_front s c.args.self.now c.args.pair.slot c.requires.ready claim.is_slot claim.front in
    let reads = claim_inputs s c.args.self.now c.args.pair.node.0 c.args.pair.slot inputs c.requires.ready c.requires.claimed c.requires.shape in
    let step : IsNodeStep inputs c.outputs-outputs.result.now = subst (λ (o : Outputs). IsNodeStep inputs o) (sym c.outputs-outputs.ensures.outputs) c.outputs-outputs.ensures.step in
    record {
      fits = c.requires.ready.fits;
      node = claim.is_node;
      slot = claim.is_slot;
      outputs = (c.same_shape.ensures _ _ step).0 ∙ c.requires.shape;
      small = λ i. omega (
        arith,
        c.outputs_small.ensures s counts c.args.pair.slot c.args.pair.node.0 inputs c.outputs-outputs.result.now c.is_setting.ensures.setting claim.is_slot claim.is_node front.front reads step i,
        c.slot_count-slots.ensures.few,
        c.slot_count-slots.ensures.value,
        claim.is_slot,
      );
      no_sink = λ own. none_arrived s counts c.args.pair.node.0 c.args.pair.slot inputs c.outputs-outputs.result.now c.inputs_by_place.ensures c.no_arrivals.ensures reads step own;
    }

pub settle-requires-clause-claimed : goal.settle-requires-clause-claimed
settle-requires-clause-claimed c =
    let s = setting_of c.args.scenario.now in
    let claim : IsClaim s (desk_at s c.args.self.now) c.args.pair.node.0 c.args.pair.slot c.args.solved.now.inputs.row = c.requires.ready.sound.claims c.args.pair.node.0 c.args.pair.slot c.args.solved.now.inputs.row c.requires.claimed in
    claimed_on s c.args.self.now c.args.pair.node.0 c.args.pair.slot claim.is_node claim.is_slot (λ none. let some : (desk_at s c.args.self.now).claimed c.args.pair.node.0 c.args.pair.slot ≡ Some c.args.solved.now.inputs.row = c.requires.claimed in cc)

-- the inputs of the claim are those of its pair, whatever stands in place of their counts
reads : (c : After-inputs) → IsUncountedPair (setting_of c.args.scenario.now) (counts_of c.args.self.now.curves) c.args.pair.node.0 c.args.pair.slot (uncounted c.inputs.result.now)
reads c =
    let s = setting_of c.args.scenario.now in
    let counts = counts_of c.args.self.now.curves in
    subst (λ (n : Inputs). IsUncountedPair s counts c.args.pair.node.0 c.args.pair.slot (uncounted n)) (sym c.inputs.ensures.inputs)
    (pair_uncounted s counts c.args.pair.node.0 c.args.pair.slot c.args.solved.now.inputs
    (claim_inputs s c.args.self.now c.args.pair.node.0 c.args.pair.slot c.args.solved.now.inputs c.requires.ready c.requires.claimed c.requires.shape))

pub settle-requires-clause-weights : goal.settle-requires-clause-weights
settle-requires-clause-weights c = c.requires.ready.weights

pub settle-requires-clause-inputs : goal.settle-requires-clause-inputs
settle-requires-clause-inputs c = reads c

pub settle-requires-clause-solvable : goal.settle-requires-clause-solvable
settle-requires-clause-solvable c =
    let s = setting_of c.args.scenario.now in
    let claim : IsClaim s (desk_at s c.args.self.now) c.args.pair.node.0 c.args.pair.slot c.args.solved.now.inputs.row = c.requires.ready.sound.claims c.args.pair.node.0 c.args.pair.slot c.args.solved.now.inputs.row c.requires.claimed in
    let front = at_front s c.args.self.now c.args.pair.slot c.requires.ready claim.is_slot claim.front in
    c.uncounted_in_range.ensures s (counts_of c.args.self.now.curves) c.args.pair.slot c.args.pair.node.0 (uncounted c.inputs.result.now) c.is_setting.ensures.setting front.front claim.is_slot claim.is_node (reads c)

all_set : (c : goal.After-settle) → CommitsTable (setting_of c.args.scenario.now) c.args.self.now c.args.pair.node.0 c.args.pair.slot c.args.solved.now.inputs c.outputs-outputs.result.now c.settle.ensures.between c.settle.new.self
all_set c =
    let step : IsNodeStep c.args.solved.now.inputs c.outputs-outputs.result.now = subst (λ (o : Outputs). IsNodeStep c.args.solved.now.inputs o) (sym c.outputs-outputs.ensures.outputs) c.outputs-outputs.ensures.step in
    record {
      setting = c.is_setting.ensures.setting;
      ready = c.requires.ready;
      claimed = c.requires.claimed;
      shape = c.requires.shape;
      step = step;
      same_shape = (c.same_shape.ensures _ _ step).0 ∙ c.requires.shape;
      renews = c.settle.ensures.renews;
      puts = subst (λ (z : List ℕ). PutsRow c.settle.ensures.between.kept c.settle.new.self.kept c.args.pair.node.0 c.args.pair.slot z) (ap (λ (n : Inputs). row_without_counts (setting_of c.args.scenario.now) c.args.pair.node.0 n.row) c.inputs.ensures.inputs) c.settle.ensures.puts;
      frees = c.settle.ensures.frees;
      by_place = c.counts_by_place.ensures;
      wake = c.readers_wake.ensures.wake;
      positions = c.readers_wake.ensures.positions;
    }

-- the table is the one that is committed
same : (c : goal.After-settle) → c.settle.new.self ≡ committed c.args.self.now c.settle.ensures.between c.settle.new.self
same c = is_committed c.args.self.now c.settle.ensures.between c.settle.new.self c.settle.ensures.same c.settle.ensures.renews.same

pub returns-clause-ready : goal.returns-clause-ready
returns-clause-ready c = subst (λ (z : Table). IsReady (setting_of c.args.scenario.now) z) (sym (same c)) (commits_ready _ _ _ _ _ _ _ _ (all_set c))

pub returns-clause-desk : goal.returns-clause-desk
returns-clause-desk c =
    let s = setting_of c.args.scenario.now in
    subst (λ (z : Table). Commits s (desk_at s c.args.self.now) c.args.pair.node.0 c.args.pair.slot c.args.solved.now.inputs.row (readers s (desk_at s c.args.self.now) (desk_at s z) c.args.pair.node.0 c.args.pair.slot) (desk_at s z)) (sym (same c)) (commits_desk _ _ _ _ _ _ _ _ (all_set c))

pub returns-clause-changed : goal.returns-clause-changed
returns-clause-changed c = λ g k.
    let s = setting_of c.args.scenario.now in
    subst (λ (z : Table). changed_at s z g k ≡ (changed_at s c.args.self.now g k || rewritten s (desk_at s c.args.self.now) (desk_at s z) g k)) (sym (same c)) (commits_cells _ _ _ _ _ _ _ _ (all_set c) g k)
