use Rattle.std.proofs.Common.{◌-◌, length, slice_index, arith}
use Rattle.ltm_curve.specs.First.{mixed}
use Rattle.ltm_curve.proofs.Firsts.{sum-entries}
use Rattle.ltm_curve.proofs.Lists.{written}
use Rattle.ltm_curve.proofs.Mixing.{mixing_starts, entered_within, takes}
use Rattle.ltm_origin.proofs.Produced.{listed}
use Rattle.ltm_origin.proofs.listed.ListedRows.write_mixed_less.Goals as goal

pub overflow_sub-whole : goal.overflow_sub-whole
overflow_sub-whole c = omega (arith, sum-entries (length c.args.self.now.list.now) (listed c.args.self.now.scenario.now c.args.self.now.node.0 c.args.self.now.list.now) c.args.slot (λ d l. c.requires.rise d c.args.slot l (omega arith)))

pub loop-place-init : goal.loop-place-init
loop-place-init c = (
  mixing_starts _ _ _ (omega (arith, sum-entries (length c.args.self.now.list.now) (listed c.args.self.now.scenario.now c.args.self.now.node.0 c.args.self.now.list.now) c.args.slot (λ d l. c.requires.rise d c.args.slot l (omega arith)))),
  λ d l. absurd (omega arith),
)

pub share_of-share-requires : goal.share_of-share-requires
share_of-share-requires c =
    entered_within (length c.args.self.now.list.now) (listed c.args.self.now.scenario.now c.args.self.now.node.0 c.args.self.now.list.now) c.args.slot c.args.part _ _ c.loop-place.place (c.count_near.result - c.count_near-before.result) c.loop-place.invariant.0 (omega arith) (omega (arith, c.count_near.ensures, c.count_near-before.ensures))

pub overflow_sub-whole-in-loop-place : goal.overflow_sub-whole-in-loop-place
overflow_sub-whole-in-loop-place c =
    entered_within (length c.args.self.now.list.now) (listed c.args.self.now.scenario.now c.args.self.now.node.0 c.args.self.now.list.now) c.args.slot c.args.part _ _ c.loop-place.place (c.count_near.result - c.count_near-before.result) c.loop-place.invariant.0 (omega arith) (omega (arith, c.count_near.ensures, c.count_near-before.ensures))

pub overflow_add-into : goal.overflow_add-into
overflow_add-into c =
    let t =
    takes (length c.args.self.now.list.now) (listed c.args.self.now.scenario.now c.args.self.now.node.0 c.args.self.now.list.now) c.args.slot c.args.part _ _ c.loop-place.place c.count_near-before.result (c.count_near.result - c.count_near-before.result) c.share_of-share.result c.loop-place.invariant.0 (omega arith) c.requires.rise
    c.requires.part c.count_near-before.ensures (omega (arith, c.count_near.ensures, c.count_near-before.ensures)) c.share_of-share.ensures.share in
    omega (arith, t.fits)

pub overflow_sub-into : goal.overflow_sub-into
overflow_sub-into c =
    let t =
    takes (length c.args.self.now.list.now) (listed c.args.self.now.scenario.now c.args.self.now.node.0 c.args.self.now.list.now) c.args.slot c.args.part _ _ c.loop-place.place c.count_near-before.result (c.count_near.result - c.count_near-before.result) c.share_of-share.result c.loop-place.invariant.0 (omega arith) c.requires.rise
    c.requires.part c.count_near-before.ensures (omega (arith, c.count_near.ensures, c.count_near-before.ensures)) c.share_of-share.ensures.share in
    omega (arith, t.is_mixed, c.requires.behind c.loop-place.place (omega arith))

pub loop-place-preserved : goal.loop-place-preserved
loop-place-preserved c =
    let t =
    takes (length c.args.self.now.list.now) (listed c.args.self.now.scenario.now c.args.self.now.node.0 c.args.self.now.list.now) c.args.slot c.args.part _ _ c.loop-place.place c.count_near-before.result (c.count_near.result - c.count_near-before.result) c.share_of-share.result c.loop-place.invariant.0 (omega arith) c.requires.rise
    c.requires.part c.count_near-before.ensures (omega (arith, c.count_near.ensures, c.count_near-before.ensures)) c.share_of-share.ensures.share in (
      t.next,
      written c.loop-place.into (λ d. mixed (length c.args.self.now.list.now) (listed c.args.self.now.scenario.now c.args.self.now.node.0 c.args.self.now.list.now) c.args.slot c.args.part d - slice_index c.args.less.now d) c.loop-place.place _ c.loop-place.invariant.1 (omega arith) (omega (arith, t.is_mixed)),
    )
