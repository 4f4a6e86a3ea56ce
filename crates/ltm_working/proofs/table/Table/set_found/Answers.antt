use Rattle.std.proofs.Common.{◌≡◌, ℕ, ◌+◌, List, ap, refl, sym, ◌∙◌, subst, arith}
use Rattle.ltm_curve.specs.Table.{counts_of}
use Rattle.ltm_node.specs.Shape.{width}
use Rattle.ltm_node.specs.Outputs.{Outputs}
use Rattle.ltm_node.specs.Uncounted.{uncounted}
use Rattle.ltm_loading.specs.Pairs.{pair_row, pair_inputs}
use Rattle.ltm_loading.specs.Uncounted.{moved_on, outputs_at}
use Rattle.ltm_setting.specs.Setting.{setting_of}
use Rattle.ltm_flows.proofs.Steps.{none_moves_in}
use Rattle.ltm_rows.specs.declared.claim_rows.ClaimRows.{ClaimRows}
use Rattle.ltm_rows.specs.Claims.{WritesClaim}
use Rattle.ltm_rows.specs.Rows.{PutsRow}
use Rattle.ltm_rows.proofs.ClaimPlaces.{with_claim}
use Rattle.ltm_working.specs.declared.table.Table.{Table}
use Rattle.ltm_working.specs.Ready.{IsReady}
use Rattle.ltm_working.specs.Recomputing.{RecomputesInTable}
use Rattle.ltm_working.proofs.Keeping.{pair_long, kept_uncounted}
use Rattle.ltm_working.proofs.Renewals.{fits_with}
use Rattle.ltm_working.proofs.Dropping.{at_front, most_wide}
use Rattle.ltm_working.proofs.Taking.{one_claimed, found_active, found_inputs, claimed_found, takes_desk, takes_ready}
use Rattle.ltm_working.proofs.Committed.{committed, is_committed}
use Rattle.ltm_working.proofs.Anew.{SetsFound, renews_beside, recomputed_ready, recomputes_pair}
use Rattle.ltm_working.proofs.table.Table.set_found.Goals as goal

pub claim_mark-requires-clause-active : goal.claim_mark-requires-clause-active
claim_mark-requires-clause-active c = found_active (setting_of c.args.scenario.now) c.args.self.now c.args.pair.node.0 c.args.pair.slot c.args.inputs.now c.requires.found

pub claim_mark-requires-clause-one_slot : goal.claim_mark-requires-clause-one_slot
claim_mark-requires-clause-one_slot c = one_claimed (setting_of c.args.scenario.now) c.args.self.now c.args.pair.node.0 c.args.pair.slot c.args.inputs.now c.requires.ready c.requires.found

pub write_moves-requires-clause-room : goal.write_moves-requires-clause-room
write_moves-requires-clause-room c =
    omega (
      arith,
      ap width c.requires.found.work.work.inputs.shape,
      most_wide (setting_of c.args.scenario.now) c.args.pair.node.0 c.is_setting.ensures.setting c.requires.found.work.work.is_node,
      c.requires.room,
    )

pub settle-requires-clause-renewal : goal.settle-requires-clause-renewal
settle-requires-clause-renewal c =
    let s = setting_of c.args.scenario.now in
    let counts = counts_of c.args.self.now.curves in
    let u : ℕ = c.args.pair.node.0 in
    let t = c.args.pair.slot in
    let front = at_front s c.args.self.now t c.requires.ready c.requires.found.work.is_slot c.requires.found.work.idle in
    let reads = found_inputs s c.args.self.now u t c.args.inputs.now c.requires.found in
    record {
      fits = fits_with s c.args.self.now c.args.self.now.curves c.args.self.now.changed c.claim_mark.new.self c.args.self.now.kept c.requires.ready.fits c.requires.ready.fits.curves c.requires.ready.fits.changed
          (record { nodes = c.claim_mark.ensures.size.nodes ∙ c.requires.ready.fits.frontier.nodes; slots = c.claim_mark.ensures.size.slots ∙ c.requires.ready.fits.frontier.slots }) c.requires.ready.fits.kept;
      node = c.requires.found.work.work.is_node;
      slot = c.requires.found.work.is_slot;
      outputs = (c.same_shape.ensures _ _ c.write_moves.ensures.step).0 ∙ c.requires.found.work.work.inputs.shape;
      small = λ i. omega (
        arith,
        c.outputs_small.ensures s counts t u (pair_inputs s counts u t) (outputs_at s u (moved_on s counts u t c.write_moves.new.outputs.row)) c.is_setting.ensures.setting c.requires.found.work.is_slot
            c.requires.found.work.work.is_node front.front (record { shape = refl; row = refl }) (c.step_by_moves.ensures s counts u t _ _ reads c.write_moves.ensures.step) i,
        c.slot_count-slots.ensures.few,
        c.slot_count-slots.ensures.value,
        c.requires.found.work.is_slot,
      );
      no_sink = λ own. none_moves_in s counts u t (uncounted c.args.inputs.now) c.write_moves.new.outputs c.no_arrivals.ensures reads c.write_moves.ensures.step own;
    }

pub settle-requires-clause-claimed : goal.settle-requires-clause-claimed
settle-requires-clause-claimed c = claimed_found (setting_of c.args.scenario.now) c.args.self.now c.args.pair.node.0 c.args.pair.slot c.args.inputs.now c.claim_mark.new.self c.requires.ready c.requires.found c.claim_mark.ensures

pub settle-requires-clause-weights : goal.settle-requires-clause-weights
settle-requires-clause-weights c = c.requires.ready.weights

pub settle-requires-clause-inputs : goal.settle-requires-clause-inputs
settle-requires-clause-inputs c = found_inputs (setting_of c.args.scenario.now) c.args.self.now c.args.pair.node.0 c.args.pair.slot c.args.inputs.now c.requires.found

-- the inputs, with the counts, as they would stand beside the claim
beside : (c : goal.After-settle) → (r : ClaimRows) × WritesClaim c.args.self.now.claims r c.args.pair.node.0 (pair_row (setting_of c.args.scenario.now) (counts_of c.args.self.now.curves) c.args.pair.node.0 c.args.pair.slot)
beside c =
    let s = setting_of c.args.scenario.now in
    let counts = counts_of c.args.self.now.curves in
    let u : ℕ = c.args.pair.node.0 in
    let node = c.requires.found.work.work.is_node in
    let claims = c.requires.ready.fits.claims in
    with_claim c.args.self.now.claims u (pair_row s counts u c.args.pair.slot) (omega (arith, node, claims.nodes)) (pair_long s counts u c.args.pair.slot ∙ sym (claims.widths u node))

-- the step of the pair with the counts
abbrev told : (c : goal.After-settle) → Outputs
told c =
    let s = setting_of c.args.scenario.now in
    outputs_at s c.args.pair.node.0 (moved_on s (counts_of c.args.self.now.curves) c.args.pair.node.0 c.args.pair.slot c.write_moves.new.outputs.row)

all_set : (c : goal.After-settle) → SetsFound (setting_of c.args.scenario.now) c.args.self.now c.args.pair.node.0 c.args.pair.slot c.args.inputs.now (told c) c.claim_mark.new.self (record c.settle.ensures.between { claims = (beside c).0 }) c.settle.new.self (beside c).0
all_set c =
    let s = setting_of c.args.scenario.now in
    let counts = counts_of c.args.self.now.curves in
    let u : ℕ = c.args.pair.node.0 in
    let t = c.args.pair.slot in
    let reads = found_inputs s c.args.self.now u t c.args.inputs.now c.requires.found in
    let ready = takes_ready s c.args.self.now u t c.args.inputs.now c.claim_mark.new.self (beside c).0 c.requires.ready c.requires.found c.claim_mark.ensures (beside c).1 in
    record {
      ready = c.requires.ready;
      found = c.requires.found;
      marks = c.claim_mark.ensures;
      writes = (beside c).1;
      commits = record {
        setting = c.is_setting.ensures.setting;
        ready = ready;
        claimed = (takes_desk s c.args.self.now u t c.args.inputs.now c.claim_mark.new.self (beside c).0 c.requires.ready c.requires.found c.claim_mark.ensures (beside c).1).holds;
        shape = refl;
        step = c.step_by_moves.ensures s counts u t _ _ reads c.write_moves.ensures.step;
        same_shape = refl;
        renews = renews_beside s u (t + 1) (told c) (record c.args.self.now { frontier = c.claim_mark.new.self }) c.settle.ensures.between (beside c).0 ready.fits.claims c.settle.ensures.renews;
        puts = subst (λ (z : List ℕ). PutsRow c.settle.ensures.between.kept c.settle.new.self.kept u t z) (kept_uncounted s counts u t c.args.inputs.now reads) c.settle.ensures.puts;
        frees = c.settle.ensures.frees;
        by_place = c.counts_by_place.ensures;
        wake = c.readers_wake.ensures.wake;
        positions = c.readers_wake.ensures.positions;
      };
    }

-- the table is the one that is committed
same : (c : goal.After-settle) → c.settle.new.self ≡ committed c.args.self.now c.settle.ensures.between c.settle.new.self
same c = is_committed (record c.args.self.now { frontier = c.claim_mark.new.self }) c.settle.ensures.between c.settle.new.self c.settle.ensures.same c.settle.ensures.renews.same

pub returns-clause-ready : goal.returns-clause-ready
returns-clause-ready c = subst (λ (z : Table). IsReady (setting_of c.args.scenario.now) z) (sym (same c)) (recomputed_ready _ _ _ _ _ _ _ _ _ _ (all_set c))

pub returns-clause-sets : goal.returns-clause-sets
returns-clause-sets c = λ before drops cells.
    let s = setting_of c.args.scenario.now in
    subst (λ (z : Table). RecomputesInTable s before c.args.pair.node.0 c.args.pair.slot (pair_row s (counts_of c.args.self.now.curves) c.args.pair.node.0 c.args.pair.slot) z) (sym (same c)) (recomputes_pair _ _ _ _ _ _ _ _ _ _ (all_set c) before drops cells)
