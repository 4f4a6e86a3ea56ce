use Rattle.std.proofs.Common.{ℕ, ◌+◌, refl, ap, ◌∙◌, subst, arith}
use Rattle.ltm_curve.specs.Table.{counts_of}
use Rattle.ltm_node.specs.Outputs.{arrived_after_place}
use Rattle.ltm_setting.specs.Setting.{setting_of}
use Rattle.ltm_flows.specs.Applying.{SetsSink}
use Rattle.ltm_working.specs.Waking.{sink_differs}
use Rattle.ltm_working.proofs.Counted.{begins_still, fits_still}
use Rattle.ltm_working.proofs.Parts.{at_end, SetsEnds, arms_still, arrived_is, renews_node}
use Rattle.ltm_working.proofs.table.Table.renew_node.Goals as goal

pub renew_origin-origin-requires : goal.renew_origin-origin-requires
renew_origin-origin-requires c =
    fits_still c.args.renewal c.args.self.now c.renew_tails-tails.new.self c.is_setting.ensures.setting c.requires c.renew_tails-tails.ensures.fits
    (begins_still (setting_of c.args.renewal.scenario.now) c.args.renewal.pair.slot ((setting_of c.args.renewal.scenario.now).ins c.args.renewal.pair.node.0) _ _ _ _ c.requires.slot c.renew_tails-tails.ensures.sets)

pub renew_heads-heads-requires : goal.renew_heads-heads-requires
renew_heads-heads-requires c =
    fits_still c.args.renewal c.args.self.now c.renew_origin-origin.new.self c.is_setting.ensures.setting c.requires c.renew_origin-origin.ensures.fits
    (arms_still c.args.renewal.given (setting_of c.args.renewal.scenario.now) c.args.renewal.pair.node.0 c.args.renewal.pair.slot c.args.renewal.outputs.now c.args.self.now c.renew_tails-tails.new.self c.renew_origin-origin.new.self _ _
    (record { setting = c.is_setting.ensures.setting; is_node = c.requires.node; is_slot = c.requires.slot; first = c.renew_tails-tails.ensures; next = c.renew_origin-origin.ensures }))

pub renew_sink-sink-requires-clause-small : goal.renew_sink-sink-requires-clause-small
renew_sink-sink-requires-clause-small c = omega (
  arith,
  arrived_is c.args.renewal.given (setting_of c.args.renewal.scenario.now) c.args.renewal.pair.node.0 c.args.renewal.pair.slot c.args.renewal.outputs.now c.args.self.now c.renew_tails-tails.new.self c.renew_origin-origin.new.self c.renew_heads-heads.new.self _ _ _ _
      (record { before = record { setting = c.is_setting.ensures.setting; is_node = c.requires.node; is_slot = c.requires.slot; first = c.renew_tails-tails.ensures; next = c.renew_origin-origin.ensures }; last = c.renew_heads-heads.ensures }) c.requires.outputs c.arrived-arrived.ensures,
  c.requires.small (arrived_after_place (at_end c.args.renewal.given (setting_of c.args.renewal.scenario.now) c.args.self.now c.args.renewal.pair.node.0 c.args.renewal.pair.slot c.args.renewal.outputs.now).shape),
)

pub returns : goal.returns
returns c =
    let s = (setting_of c.args.renewal.scenario.now) in
    let u : ℕ = c.args.renewal.pair.node.0 in
    let heads = counts_of c.renew_heads-heads.new.self.curves in
    let ends : SetsEnds c.args.renewal.given s u c.args.renewal.pair.slot c.args.renewal.outputs.now c.args.self.now c.renew_tails-tails.new.self c.renew_origin-origin.new.self c.renew_heads-heads.new.self _ _ _ = record {
      before = record { setting = c.is_setting.ensures.setting; is_node = c.requires.node; is_slot = c.requires.slot; first = c.renew_tails-tails.ensures; next = c.renew_origin-origin.ensures };
      last = c.renew_heads-heads.ensures;
    } in
    let arrived = arrived_is c.args.renewal.given s u c.args.renewal.pair.slot c.args.renewal.outputs.now c.args.self.now c.renew_tails-tails.new.self c.renew_origin-origin.new.self c.renew_heads-heads.new.self _ _ _ _ ends c.requires.outputs c.arrived-arrived.ensures in
    renews_node c.args.renewal.given s u c.args.renewal.pair.slot c.args.renewal.outputs.now c.args.self.now c.renew_tails-tails.new.self c.renew_origin-origin.new.self c.renew_heads-heads.new.self _ _ _ _ _ (record {
      ends = ends;
      shape = c.requires.outputs;
      long = c.shape-shape.ensures.width;
      by_place = c.counts_by_place.ensures;
      same = refl;
      shaped = c.renew_sink-sink.ensures.shape;
      value = c.renew_sink-sink.ensures.value ∙ ap (sink_differs s heads (s.own u) (c.args.renewal.pair.slot + 1)) arrived;
      sets = subst (λ (z : ℕ). SetsSink s u (c.args.renewal.pair.slot + 1) z heads (counts_of c.renew_sink-sink.new.curves)) arrived c.renew_sink-sink.ensures.sets;
      cells = c.renew_sink-sink.ensures.cells;
    })
