use Rattle.std.proofs.Common.{◌+◌, ◌*◌, ℕ, arith, subst}
use Rattle.ltm_curve.specs.Table.{counts_of}
use Rattle.ltm_loading.specs.Pairs.{arms_of, arrived_by}
use Rattle.ltm_setting.specs.Setting.{setting_of}
use Rattle.ltm_flows.specs.Applying.{SetsSink}
use Rattle.ltm_flows.proofs.Adding.{arm_number, out_number, sink_number, out_still, sink_still, adds_holds}
use Rattle.ltm_flows.proofs.moves.add_moves.Goals as goal

pub add_arms-requires-clause-small : goal.add_arms-requires-clause-small
add_arms-requires-clause-small c = λ i d l x.
    let s = setting_of c.args.scenario.now in
    let u : ℕ = c.args.pair.node.0 in
    omega (arith, arm_number s (counts_of c.args.curves.now) u (c.args.pair.slot + 1) c.args.moves.now i d c.requires.moves l x, c.requires.small (i * s.destinations + d))

pub add_outs-requires-clause-small : goal.add_outs-requires-clause-small
add_outs-requires-clause-small c = λ j d l x.
    let s = setting_of c.args.scenario.now in
    let u : ℕ = c.args.pair.node.0 in
    omega (
      arith,
      out_still s u (c.args.pair.slot + 1) _ (counts_of c.args.curves.now) (counts_of c.add_arms.new.curves) j d c.is_setting.ensures.setting c.requires.node l x c.add_arms.ensures.sets,
      out_number s (counts_of c.args.curves.now) u (c.args.pair.slot + 1) c.args.moves.now j d c.requires.moves l x,
      c.requires.small (arms_of s u * s.destinations + (j * s.destinations + d)),
    )

pub add_sink-requires-clause-small : goal.add_sink-requires-clause-small
add_sink-requires-clause-small c =
    let s = setting_of c.args.scenario.now in
    let u : ℕ = c.args.pair.node.0 in
    omega (
      arith,
      c.arrived.ensures,
      sink_still s u (c.args.pair.slot + 1) _ _ (counts_of c.args.curves.now) (counts_of c.add_arms.new.curves) (counts_of c.add_outs.new.curves) c.is_setting.ensures.setting c.requires.node c.add_arms.ensures.sets c.add_outs.ensures.sets,
      sink_number s (counts_of c.args.curves.now) u (c.args.pair.slot + 1) c.args.moves.now c.requires.moves,
      c.requires.small (arms_of s u * s.destinations + s.outs u * s.destinations),
    )

pub returns-clause-applies : goal.returns-clause-applies
returns-clause-applies c =
    let s = setting_of c.args.scenario.now in
    let u : ℕ = c.args.pair.node.0 in
    let sink = subst (λ (z : ℕ). SetsSink s u (c.args.pair.slot + 1) (arrived_by s (counts_of c.add_outs.new.curves) (s.own u) (c.args.pair.slot + 1) + z) (counts_of c.add_outs.new.curves) (counts_of c.add_sink.new.curves)) c.arrived.ensures c.add_sink.ensures.sets in
    adds_holds s u (c.args.pair.slot + 1) c.args.moves.now _ _ _ _ c.counts_by_place.ensures c.is_setting.ensures.setting c.requires.node c.requires.moves c.add_arms.ensures.sets c.add_outs.ensures.sets sink
