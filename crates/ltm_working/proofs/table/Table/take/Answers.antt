use Rattle.std.proofs.Common.{ℕ, List, slice_index, ap, refl, sym, ◌∙◌, subst, arith}
use Rattle.ltm_curve.specs.Table.{counts_of}
use Rattle.ltm_node.specs.Shape.{width}
use Rattle.ltm_loading.specs.Pairs.{pair_row}
use Rattle.ltm_setting.specs.Setting.{setting_of}
use Rattle.ltm_repair.specs.Moves.{TakesClaim}
use Rattle.ltm_rows.specs.Claims.{WritesClaim}
use Rattle.ltm_working.specs.Desks.{desk_at}
use Rattle.ltm_working.proofs.Desks.{changed_same}
use Rattle.ltm_working.proofs.Dropping.{at_front}
use Rattle.ltm_working.proofs.Smalls.{row_small}
use Rattle.ltm_working.proofs.Taking.{one_claimed, found_active, found_inputs, takes_desk, takes_ready}
use Rattle.ltm_working.proofs.table.Table.take.Goals as goal

pub count_in-requires-clause-node : goal.count_in-requires-clause-node
count_in-requires-clause-node c = c.requires.found.work.work.is_node

pub count_in-requires-clause-ready : goal.count_in-requires-clause-ready
count_in-requires-clause-ready c = at_front (setting_of c.args.scenario.now) c.args.self.now c.args.pair.slot c.requires.ready c.requires.found.work.is_slot c.requires.found.work.idle

pub count_in-requires-clause-uncounted : goal.count_in-requires-clause-uncounted
count_in-requires-clause-uncounted c = found_inputs (setting_of c.args.scenario.now) c.args.self.now c.args.pair.node.0 c.args.pair.slot c.args.inputs.now c.requires.found

pub put-requires-clause-width : goal.put-requires-clause-width
put-requires-clause-width c = c.row.ensures.width ∙ (ap width c.count_in.ensures.inputs.shape ∙ sym (c.requires.ready.fits.claims.widths c.args.pair.node.0 c.requires.found.work.work.is_node))

pub put-requires-clause-small : goal.put-requires-clause-small
put-requires-clause-small c = λ i l.
    let s = setting_of c.args.scenario.now in
    let front = at_front s c.args.self.now c.args.pair.slot c.requires.ready c.requires.found.work.is_slot c.requires.found.work.idle in
    omega (
      arith,
      ap (λ (z : List ℕ). slice_index z i) (c.row.ensures.row ∙ c.count_in.ensures.inputs.row),
      row_small s (counts_of c.args.self.now.curves) c.args.pair.slot c.args.pair.node.0 c.is_setting.ensures.setting front.front c.requires.found.work.is_slot c.requires.found.work.work.is_node i,
    )

pub claim_mark-requires-clause-active : goal.claim_mark-requires-clause-active
claim_mark-requires-clause-active c = found_active (setting_of c.args.scenario.now) c.args.self.now c.args.pair.node.0 c.args.pair.slot c.args.inputs.now c.requires.found

pub claim_mark-requires-clause-one_slot : goal.claim_mark-requires-clause-one_slot
claim_mark-requires-clause-one_slot c = one_claimed (setting_of c.args.scenario.now) c.args.self.now c.args.pair.node.0 c.args.pair.slot c.args.inputs.now c.requires.ready c.requires.found

-- the inputs, with the counts, stand beside the claim
written : (c : goal.After-claim_mark) → WritesClaim c.args.self.now.claims c.put.new.self c.args.pair.node.0 (pair_row (setting_of c.args.scenario.now) (counts_of c.args.self.now.curves) c.args.pair.node.0 c.args.pair.slot)
written c = subst (λ (z : List ℕ). WritesClaim c.args.self.now.claims c.put.new.self c.args.pair.node.0 z) (c.row.ensures.row ∙ c.count_in.ensures.inputs.row) c.put.ensures

pub returns-clause-ready : goal.returns-clause-ready
returns-clause-ready c =
    takes_ready (setting_of c.args.scenario.now) c.args.self.now c.args.pair.node.0 c.args.pair.slot c.args.inputs.now c.claim_mark.new.self c.put.new.self c.requires.ready c.requires.found c.claim_mark.ensures (written c)

pub returns-clause-takes : goal.returns-clause-takes
returns-clause-takes c =
    let s = setting_of c.args.scenario.now in
    let new = record c.args.self.now { frontier = c.claim_mark.new.self; claims = c.put.new.self } in
    subst (λ (z : List ℕ). TakesClaim s (desk_at s c.args.self.now) c.args.pair.node.0 c.args.pair.slot z (desk_at s new)) (sym c.count_in.ensures.inputs.row)
    (takes_desk s c.args.self.now c.args.pair.node.0 c.args.pair.slot c.args.inputs.now c.claim_mark.new.self c.put.new.self c.requires.ready c.requires.found c.claim_mark.ensures (written c))

pub returns-clause-changed : goal.returns-clause-changed
returns-clause-changed c = changed_same (setting_of c.args.scenario.now) c.args.self.now _ refl
