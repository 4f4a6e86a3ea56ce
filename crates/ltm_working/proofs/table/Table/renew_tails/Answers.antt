use Rattle.std.proofs.Common.{◌≡◌, ◌<◌, ◌≤◌, ◌*◌, ℕ, ◌+◌, ap, sym, subst, arith, get_or, slice_index, ◌∙◌}
use Rattle.ltm_curve.specs.Table.{counts_of}
use Rattle.ltm_node.specs.declared.shape.NodeShape.{NodeShape}
use Rattle.ltm_node.specs.Outputs.{left_after, left_after_place}
use Rattle.ltm_loading.specs.Groups.{down_of, dep_of, groups}
use Rattle.ltm_loading.specs.Pairs.{arms_of, arm_group}
use Rattle.ltm_setting.specs.Setting.{setting_of}
use Rattle.ltm_setting.proofs.Links.{link_item}
use Rattle.ltm_flows.proofs.Writing.{sets_next, still_shaped, arm_there, arm_apart, pick_first}
use Rattle.ltm_working.specs.Waking.{row_differs, arm_differs, wakes_tail}
use Rattle.ltm_working.proofs.Noting.{cells_stay}
use Rattle.ltm_working.proofs.Wakings.{row_same, value_more, cells_more, wakes_more}
use Rattle.ltm_working.specs.declared.table.Table.{Table}
use Rattle.ltm_working.specs.Ready.{FitsTable}
use Rattle.ltm_working.specs.Renewed.{renewed_counts, RenewsTails}
use Rattle.ltm_working.specs.Counted.{counted_row, counts_by_form}
use Rattle.ltm_working.proofs.Renewals.{tails_none, pairs_stay, fits_with, same_but_counts, row_unset}
use Rattle.ltm_working.proofs.Counted.{arm_row, begins_still, fits_row}
use Rattle.ltm_working.proofs.table.Table.renew_tails.Goals as goal

pub loop-place-init : goal.loop-place-init
loop-place-init c = tails_none (setting_of c.args.renewal.scenario.now) c.args.renewal.pair.node.0 (c.args.renewal.pair.slot + 1) (renewed_counts c.args.renewal c.args.self.now) c.args.self.now c.requires.fits

pub renew_tail-woken-requires-clause-row : goal.renew_tail-woken-requires-clause-row
renew_tail-woken-requires-clause-row c =
    let s = setting_of c.args.renewal.scenario.now in
    let is = c.is_setting.ensures.setting in
    let old = counts_of c.args.self.now.curves in
    let links = c.in_links-link-items.result.now in
    let u : ℕ = c.args.renewal.pair.node.0 in
    let n : ℕ = c.loop-place.place in
    let shape : c.args.renewal.outputs.now.shape.destinations ≡ s.destinations = ap (λ (z : NodeShape). z.destinations) c.requires.outputs in
    let link : n < s.ins u = omega (arith, c.loop-place-test.true, c.in_links-link-items.ensures.count) in
    let group : 2 * (get_or links n (record { 0 = 0 })).0 + 1 ≡ arm_group s u n =
    omega (arith, link_item links n c.loop-place-test.true, c.in_links-link-items.ensures.links n c.loop-place-test.true, pick_first n (s.ins u) (down_of (s.in_link u n)) (dep_of s u) link) in
    fits_row c.args.renewal.given s c.loop-place.self (down_of (get_or links n (record { 0 = 0 })).0) c.args.renewal.pair.slot c.left_row-numbers.result.now c.loop-place.invariant.fits
    (omega (arith, group, arm_there s u n is c.requires.node (omega (arith, link)))) c.requires.slot (c.left_row-numbers.ensures.count ∙ shape)
    (λ d l.
    omega (
      arith,
      arm_row c.args.renewal.given s old (counts_of c.loop-place.self.curves) u c.args.renewal.pair.slot n _ c.args.renewal.outputs.now c.left_row-numbers.result.now is c.requires.node (omega (arith, link)) group c.requires.outputs c.left_row-numbers.ensures.count
          c.left_row-numbers.ensures.counts (begins_still s c.args.renewal.pair.slot n _ _ old (counts_of c.loop-place.self.curves) c.requires.slot c.loop-place.invariant.sets) d (omega (arith, l, shape, c.left_row-numbers.ensures.count)),
      c.requires.small (left_after_place (counts_by_form c.args.renewal.given s old u c.args.renewal.pair.slot c.args.renewal.outputs.now).shape n d),
    ))

pub loop-place-preserved : goal.loop-place-preserved
loop-place-preserved c =
    let s = setting_of c.args.renewal.scenario.now in
    let is = c.is_setting.ensures.setting in
    let old = counts_of c.args.self.now.curves in
    let now = counts_of c.loop-place.self.curves in
    let links = c.in_links-link-items.result.now in
    let u : ℕ = c.args.renewal.pair.node.0 in
    let k : ℕ = c.args.renewal.pair.slot + 1 in
    let n : ℕ = c.loop-place.place in
    let l : ℕ = (get_or links n (record { 0 = 0 })).0 in
    let o = counts_by_form c.args.renewal.given s old u c.args.renewal.pair.slot c.args.renewal.outputs.now in
    let row = counted_row c.args.renewal.given now (down_of l) c.args.renewal.pair.slot c.left_row-numbers.result.now in
    let link : n < s.ins u = omega (arith, c.loop-place-test.true, c.in_links-link-items.ensures.count) in
    let inside : n < arms_of s u = omega (arith, link) in
    let within : k ≤ s.slots = omega (arith, c.requires.slot) in
    let group : 2 * l + 1 ≡ arm_group s u n =
    omega (arith, link_item links n c.loop-place-test.true, c.in_links-link-items.ensures.links n c.loop-place-test.true, pick_first n (s.ins u) (down_of (s.in_link u n)) (dep_of s u) link) in
    let there : 2 * l + 1 < groups s = omega (arith, group, arm_there s u n is c.requires.node inside) in
    let numbers = arm_row c.args.renewal.given s old now u c.args.renewal.pair.slot n (down_of l) c.args.renewal.outputs.now c.left_row-numbers.result.now is c.requires.node inside group c.requires.outputs c.left_row-numbers.ensures.count
    c.left_row-numbers.ensures.counts (begins_still s c.args.renewal.pair.slot n _ _ old now c.requires.slot c.loop-place.invariant.sets) in
    let differs : c.renew_tail-woken.result ≡ arm_differs s old u k o n =
    c.renew_tail-woken.ensures.row.value
    ∙ (ap (λ (m : ℕ). row_differs m now (down_of l) k (slice_index row)) c.loop-place.invariant.fits.curves.same_destinations
    ∙ (row_unset s k n (arm_group s u) (left_after o) old now (down_of l) (slice_index row) c.loop-place.invariant.sets there (λ i m e. arm_apart s u i n is c.requires.node m inside (e ∙ group))
    ∙ row_same s.destinations old (down_of l) (arm_group s u n) k (slice_index row) (left_after o n) group numbers)) in
    let link_is : l ≡ s.in_link u n = omega (arith, link_item links n c.loop-place-test.true, c.in_links-link-items.ensures.links n c.loop-place-test.true) in
    record {
      fits = subst (λ (z : Table). FitsTable s z) (sym c.renew_tail-woken.ensures.same)
          (fits_with s c.loop-place.self _ _ _ c.loop-place.self.kept c.loop-place.invariant.fits (still_shaped s c.loop-place.self.curves _ _ _ _ c.loop-place.invariant.fits.curves c.renew_tail-woken.ensures.row.sets)
          (cells_stay c.loop-place.self.changed _ _ _ _ c.loop-place.invariant.fits.changed c.renew_tail-woken.ensures.row.cells) (pairs_stay s _ _ _ c.loop-place.invariant.fits.frontier c.renew_tail-woken.ensures.wakes) c.loop-place.invariant.fits.kept);
      same = same_but_counts c.args.self.now c.loop-place.self c.renew_tail-woken.new.self c.loop-place.invariant.same c.renew_tail-woken.ensures.same;
      sets = sets_next s k n (arm_group s u) (left_after o) old c.loop-place.self.curves _ _ row within there group
          (λ i m. arm_there s u i is c.requires.node (omega (arith, m, inside))) (λ i m. arm_apart s u i n is c.requires.node m inside)
          numbers c.loop-place.invariant.fits.curves c.loop-place.invariant.sets c.renew_tail-woken.ensures.row.sets;
      value = value_more n (arm_differs s old u k o) c.loop-place.any c.renew_tail-woken.result differs c.loop-place.invariant.value;
      cells = cells_more n (arm_differs s old u k o) (arm_group s u) k (down_of l) c.renew_tail-woken.result c.args.self.now.changed c.loop-place.self.changed c.renew_tail-woken.new.self.changed differs group c.loop-place.invariant.cells c.renew_tail-woken.ensures.row.cells;
      wakes = wakes_more n (arm_differs s old u k o) (λ i. wakes_tail s (s.in_link u i) k) (wakes_tail s l k) c.renew_tail-woken.result c.args.self.now.frontier c.loop-place.self.frontier c.renew_tail-woken.new.self.frontier differs
          (λ w v. ap (λ (z : ℕ). wakes_tail s z k w v) link_is) c.loop-place.invariant.wakes c.renew_tail-woken.ensures.wakes;
    }

pub returns : goal.returns
returns c = subst (λ (n : ℕ). RenewsTails (setting_of c.args.renewal.scenario.now) c.args.renewal.pair.node.0 (c.args.renewal.pair.slot + 1) (renewed_counts c.args.renewal c.args.self.now) n c.args.self.now c.loop-place.any c.loop-place.self)
    (omega (arith, c.loop-place-test.false, c.loop-place.auto.place-end, c.in_links-link-items.ensures.count)) c.loop-place.invariant
