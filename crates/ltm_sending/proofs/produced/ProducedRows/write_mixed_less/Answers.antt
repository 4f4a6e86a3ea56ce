use Rattle.std.proofs.Common.{◌-◌, slice_index, arith}
use Rattle.ltm_curve.specs.First.{mixed}
use Rattle.ltm_curve.proofs.Firsts.{sum-entries}
use Rattle.ltm_curve.proofs.Lists.{written}
use Rattle.ltm_curve.proofs.Mixing.{mixing_starts, entered_within, takes}
use Rattle.ltm_setting.specs.Setting.{setting_of}
use Rattle.ltm_sending.proofs.produced.ProducedRows.write_mixed_less.Goals as goal

pub overflow_sub-whole : goal.overflow_sub-whole
overflow_sub-whole c = omega (arith, sum-entries ((setting_of c.args.self.now.scenario.now).destinations) ((setting_of c.args.self.now.scenario.now).produced c.args.self.now.node.0) c.args.slot (λ d l. c.requires.rise d c.args.slot l (omega arith)))

pub loop-destination-init : goal.loop-destination-init
loop-destination-init c = (
  mixing_starts _ _ _ (omega (arith, sum-entries ((setting_of c.args.self.now.scenario.now).destinations) ((setting_of c.args.self.now.scenario.now).produced c.args.self.now.node.0) c.args.slot (λ d l. c.requires.rise d c.args.slot l (omega arith)))),
  λ d l. absurd (omega arith),
)

pub share_of-share-requires : goal.share_of-share-requires
share_of-share-requires c =
    entered_within ((setting_of c.args.self.now.scenario.now).destinations) ((setting_of c.args.self.now.scenario.now).produced c.args.self.now.node.0) c.args.slot c.args.part _ _ c.loop-destination.destination (c.count_in.result - c.count_in-before.result) c.loop-destination.invariant.0 (omega arith) (omega (arith, c.count_in.ensures, c.count_in-before.ensures))

pub overflow_sub-whole-in-loop-destination : goal.overflow_sub-whole-in-loop-destination
overflow_sub-whole-in-loop-destination c =
    entered_within ((setting_of c.args.self.now.scenario.now).destinations) ((setting_of c.args.self.now.scenario.now).produced c.args.self.now.node.0) c.args.slot c.args.part _ _ c.loop-destination.destination (c.count_in.result - c.count_in-before.result) c.loop-destination.invariant.0 (omega arith) (omega (arith, c.count_in.ensures, c.count_in-before.ensures))

pub overflow_add-into : goal.overflow_add-into
overflow_add-into c =
    let t =
    takes ((setting_of c.args.self.now.scenario.now).destinations) ((setting_of c.args.self.now.scenario.now).produced c.args.self.now.node.0) c.args.slot c.args.part _ _ c.loop-destination.destination c.count_in-before.result (c.count_in.result - c.count_in-before.result) c.share_of-share.result c.loop-destination.invariant.0 (omega arith) c.requires.rise
    c.requires.part c.count_in-before.ensures (omega (arith, c.count_in.ensures, c.count_in-before.ensures)) c.share_of-share.ensures.share in
    omega (arith, t.fits)

pub overflow_sub-into : goal.overflow_sub-into
overflow_sub-into c =
    let t =
    takes ((setting_of c.args.self.now.scenario.now).destinations) ((setting_of c.args.self.now.scenario.now).produced c.args.self.now.node.0) c.args.slot c.args.part _ _ c.loop-destination.destination c.count_in-before.result (c.count_in.result - c.count_in-before.result) c.share_of-share.result c.loop-destination.invariant.0 (omega arith) c.requires.rise
    c.requires.part c.count_in-before.ensures (omega (arith, c.count_in.ensures, c.count_in-before.ensures)) c.share_of-share.ensures.share in
    omega (arith, t.is_mixed, c.requires.behind c.loop-destination.destination (omega arith))

pub loop-destination-preserved : goal.loop-destination-preserved
loop-destination-preserved c =
    let t =
    takes ((setting_of c.args.self.now.scenario.now).destinations) ((setting_of c.args.self.now.scenario.now).produced c.args.self.now.node.0) c.args.slot c.args.part _ _ c.loop-destination.destination c.count_in-before.result (c.count_in.result - c.count_in-before.result) c.share_of-share.result c.loop-destination.invariant.0 (omega arith) c.requires.rise
    c.requires.part c.count_in-before.ensures (omega (arith, c.count_in.ensures, c.count_in-before.ensures)) c.share_of-share.ensures.share in (
      t.next,
      written c.loop-destination.into (λ d. mixed ((setting_of c.args.self.now.scenario.now).destinations) ((setting_of c.args.self.now.scenario.now).produced c.args.self.now.node.0) c.args.slot c.args.part d - slice_index c.args.less.now d) c.loop-destination.destination _ c.loop-destination.invariant.1 (omega arith) (omega (arith, t.is_mixed)),
    )
