use Rattle.std.proofs.Common.{◌≡◌, ◌<◌, ℕ, get_or, slice_index, arith}
use Rattle.ltm_curve.specs.Table.{counts_of}
use Rattle.ltm_setting.specs.Setting.{setting_of}
use Rattle.ltm_setting.proofs.Links.{link_item}
use Rattle.ltm_working.proofs.Placings.{link_placed, stands_placed}
use Rattle.ltm_working.proofs.places.place_first.Goals as goal

pub loop-place-preserved : goal.loop-place-preserved
loop-place-preserved c =
    let s = setting_of c.args.scenario.now in
    let n : ℕ = c.loop-place.place in
    let links = c.in_links-link-items.result.now in
    let below : n < s.ins c.args.pair.node.0 = omega (arith, c.in_links-link-items.ensures.count, c.loop-place-test.true) in
    let link : s.in_link c.args.pair.node.0 n ≡ (get_or links n (record { 0 = 0 })).0 = omega (arith, link_item links n c.loop-place-test.true, c.in_links-link-items.ensures.links n c.loop-place-test.true) in
    link_placed s (counts_of c.args.curves.now) c.args.index.now c.loop-place.index c.place.new.self c.args.pair.node.0 c.args.pair.slot n (get_or links n (record { 0 = 0 })).0 c.args.positions.now
    c.is_setting.ensures.setting c.requires.node below c.requires.positions c.loop-place.invariant link (stands_placed c.loop-place.index c.place.new.self (get_or links n (record { 0 = 0 })).0 c.args.pair.slot (slice_index c.args.positions.now n) c.place.ensures)
