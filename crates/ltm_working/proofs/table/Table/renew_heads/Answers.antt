use Rattle.std.proofs.Common.{◌≡◌, ◌<◌, ◌≤◌, ◌*◌, ℕ, ◌+◌, ap, sym, subst, arith, get_or, slice_index, ◌∙◌}
use Rattle.ltm_curve.specs.Table.{counts_of}
use Rattle.ltm_node.specs.declared.shape.NodeShape.{NodeShape}
use Rattle.ltm_node.specs.Outputs.{entered_after, entered_after_place}
use Rattle.ltm_loading.specs.Groups.{up_of, groups}
use Rattle.ltm_units.specs.Sums.{sum_below}
use Rattle.ltm_units.proofs.Sums.{sum_below-same}
use Rattle.ltm_setting.specs.Setting.{setting_of}
use Rattle.ltm_setting.proofs.Links.{link_item}
use Rattle.ltm_flows.specs.Applying.{out_group}
use Rattle.ltm_flows.proofs.Writing.{sets_next, still_shaped, out_there, out_apart}
use Rattle.ltm_index.specs.declared.read_index.ReadIndex.{ReadIndex}
use Rattle.ltm_working.specs.declared.table.Table.{Table}
use Rattle.ltm_working.specs.Ready.{FitsTable}
use Rattle.ltm_working.specs.Renewed.{renewed_counts, RenewsHeads}
use Rattle.ltm_working.specs.Counted.{counted_row, counts_by_form}
use Rattle.ltm_working.specs.Desks.{place_of}
use Rattle.ltm_working.specs.Waking.{row_differs, out_differs, wakes_head}
use Rattle.ltm_working.proofs.Noting.{cells_stay}
use Rattle.ltm_working.proofs.Wakings.{row_same, value_more, cells_more, wakes_more}
use Rattle.ltm_working.proofs.Renewals.{pairs_stay, fits_with, same_but_counts, row_unset, head_unset}
use Rattle.ltm_working.proofs.Counted.{out_row, begins_still, fits_row}
use Rattle.ltm_working.proofs.table.Table.renew_heads.Goals as goal

pub renew_head-woken-requires-clause-row : goal.renew_head-woken-requires-clause-row
renew_head-woken-requires-clause-row c =
    let s = setting_of c.args.renewal.scenario.now in
    let is = c.is_setting.ensures.setting in
    let old = counts_of c.args.self.now.curves in
    let links = c.out_links-link-items.result.now in
    let u : ℕ = c.args.renewal.pair.node.0 in
    let n : ℕ = c.loop-place.place in
    let shape : c.args.renewal.outputs.now.shape.destinations ≡ s.destinations = ap (λ (z : NodeShape). z.destinations) c.requires.outputs in
    let inside : n < s.outs u = omega (arith, c.loop-place-test.true, c.out_links-link-items.ensures.count) in
    let group : 2 * (get_or links n (record { 0 = 0 })).0 ≡ out_group s u n = omega (arith, link_item links n c.loop-place-test.true, c.out_links-link-items.ensures.links n c.loop-place-test.true) in
    fits_row c.args.renewal.given s c.loop-place.self (up_of (get_or links n (record { 0 = 0 })).0) c.args.renewal.pair.slot c.entered_row-numbers.result.now c.loop-place.invariant.fits
    (omega (arith, group, out_there s u n is c.requires.node inside)) c.requires.slot (c.entered_row-numbers.ensures.count ∙ shape)
    (λ d l.
    omega (
      arith,
      out_row c.args.renewal.given s old (counts_of c.loop-place.self.curves) u c.args.renewal.pair.slot n _ c.args.renewal.outputs.now c.entered_row-numbers.result.now is c.requires.node inside group c.requires.outputs c.entered_row-numbers.ensures.count
          c.entered_row-numbers.ensures.counts (begins_still s c.args.renewal.pair.slot n _ _ old (counts_of c.loop-place.self.curves) c.requires.slot c.loop-place.invariant.sets) d (omega (arith, l, shape, c.entered_row-numbers.ensures.count)),
      c.requires.small (entered_after_place (counts_by_form c.args.renewal.given s old u c.args.renewal.pair.slot c.args.renewal.outputs.now).shape n d),
    ))

pub loop-place-preserved : goal.loop-place-preserved
loop-place-preserved c =
    let s = setting_of c.args.renewal.scenario.now in
    let is = c.is_setting.ensures.setting in
    let old = counts_of c.args.self.now.curves in
    let now = counts_of c.loop-place.self.curves in
    let places = place_of c.args.self.now.index in
    let links = c.out_links-link-items.result.now in
    let u : ℕ = c.args.renewal.pair.node.0 in
    let k : ℕ = c.args.renewal.pair.slot + 1 in
    let n : ℕ = c.loop-place.place in
    let l : ℕ = (get_or links n (record { 0 = 0 })).0 in
    let o = counts_by_form c.args.renewal.given s old u c.args.renewal.pair.slot c.args.renewal.outputs.now in
    let row = counted_row c.args.renewal.given now (up_of l) c.args.renewal.pair.slot c.entered_row-numbers.result.now in
    let units : ℕ = sum_below s.destinations (slice_index row) in
    let inside : n < s.outs u = omega (arith, c.loop-place-test.true, c.out_links-link-items.ensures.count) in
    let within : k ≤ s.slots = omega (arith, c.requires.slot) in
    let link : s.out_link u n ≡ l = omega (arith, link_item links n c.loop-place-test.true, c.out_links-link-items.ensures.links n c.loop-place-test.true) in
    let group : 2 * l ≡ out_group s u n = omega (arith, link) in
    let there : 2 * l < groups s = omega (arith, group, out_there s u n is c.requires.node inside) in
    let numbers = out_row c.args.renewal.given s old now u c.args.renewal.pair.slot n (up_of l) c.args.renewal.outputs.now c.entered_row-numbers.result.now is c.requires.node inside group c.requires.outputs c.entered_row-numbers.ensures.count
    c.entered_row-numbers.ensures.counts (begins_still s c.args.renewal.pair.slot n _ _ old now c.requires.slot c.loop-place.invariant.sets) in
    let differs : c.renew_head-woken.result ≡ out_differs s old u k o n =
    c.renew_head-woken.ensures.row.value
    ∙ (ap (λ (m : ℕ). row_differs m now (up_of l) k (slice_index row)) c.loop-place.invariant.fits.curves.same_destinations
    ∙ (row_unset s k n (out_group s u) (entered_after o) old now (up_of l) (slice_index row) c.loop-place.invariant.sets there (λ i m e. out_apart s u i n is c.requires.node m inside (e ∙ group))
    ∙ row_same s.destinations old (up_of l) (out_group s u n) k (slice_index row) (entered_after o n) group numbers)) in
    let lists : c.loop-place.self.index ≡ c.args.self.now.index = ap (λ (z : Table). z.index) c.loop-place.invariant.same in
    record {
      fits = subst (λ (z : Table). FitsTable s z) (sym c.renew_head-woken.ensures.same)
          (fits_with s c.loop-place.self _ _ _ c.loop-place.self.kept c.loop-place.invariant.fits (still_shaped s c.loop-place.self.curves _ _ _ _ c.loop-place.invariant.fits.curves c.renew_head-woken.ensures.row.sets)
          (cells_stay c.loop-place.self.changed _ _ _ _ c.loop-place.invariant.fits.changed c.renew_head-woken.ensures.row.cells) (pairs_stay s _ _ _ c.loop-place.invariant.fits.frontier c.renew_head-woken.ensures.wakes) c.loop-place.invariant.fits.kept);
      same = same_but_counts c.args.self.now c.loop-place.self c.renew_head-woken.new.self c.loop-place.invariant.same c.renew_head-woken.ensures.same;
      sets = sets_next s k n (out_group s u) (entered_after o) old c.loop-place.self.curves _ _ row within there group
          (λ i m. out_there s u i is c.requires.node (omega (arith, m, inside))) (λ i m. out_apart s u i n is c.requires.node m inside)
          numbers c.loop-place.invariant.fits.curves c.loop-place.invariant.sets c.renew_head-woken.ensures.row.sets;
      value = value_more n (out_differs s old u k o) c.loop-place.any c.renew_head-woken.result differs c.loop-place.invariant.value;
      cells = cells_more n (out_differs s old u k o) (out_group s u) k (up_of l) c.renew_head-woken.result c.args.self.now.changed c.loop-place.self.changed c.renew_head-woken.new.self.changed differs group c.loop-place.invariant.cells c.renew_head-woken.ensures.row.cells;
      wakes = wakes_more n (out_differs s old u k o) (λ i. wakes_head s old places (s.out_link u i) k (sum_below s.destinations (entered_after o i))) (wakes_head s now (place_of c.loop-place.self.index) l k units)
          c.renew_head-woken.result c.args.self.now.frontier c.loop-place.self.frontier c.renew_head-woken.new.self.frontier differs
          (λ w v. ap (λ (x : ReadIndex). wakes_head s now (place_of x) l k units w v) lists
          ∙ (head_unset s k n (out_group s u) (entered_after o) old now places l units w v c.loop-place.invariant.sets there (omega arith) within
          ∙ (ap (λ (z : ℕ). wakes_head s old places l k z w v) (sum_below-same s.destinations (slice_index row) (entered_after o n) numbers)
          ∙ ap (λ (z : ℕ). wakes_head s old places z k (sum_below s.destinations (entered_after o n)) w v) (sym link)))) c.loop-place.invariant.wakes c.renew_head-woken.ensures.wakes;
    }

pub returns : goal.returns
returns c = subst (λ (n : ℕ). RenewsHeads (setting_of c.args.renewal.scenario.now) c.args.renewal.pair.node.0 (c.args.renewal.pair.slot + 1) (renewed_counts c.args.renewal c.args.self.now) n c.args.self.now c.loop-place.any c.loop-place.self)
    (omega (arith, c.loop-place-test.false, c.loop-place.auto.place-end, c.out_links-link-items.ensures.count)) c.loop-place.invariant
