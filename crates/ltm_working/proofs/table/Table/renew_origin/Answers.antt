use Rattle.std.proofs.Common.{◌≡◌, ℕ, ◌+◌, ◌<◌, ◌≤◌, ◌&&◌, ap, refl, sym, ◌∙◌, arith, length, slice_index, subst}
use Rattle.ltm_curve.specs.Table.{counts_of}
use Rattle.ltm_node.specs.declared.shape.NodeShape.{NodeShape}
use Rattle.ltm_node.specs.Outputs.{left_after, left_after_place}
use Rattle.ltm_loading.specs.Pairs.{arms_of, arm_group}
use Rattle.ltm_loading.specs.Groups.{dep_of, groups}
use Rattle.ltm_setting.specs.Setting.{setting_of}
use Rattle.ltm_frontier.specs.Frontier.{is_pair}
use Rattle.ltm_setting.proofs.Links.{some_out}
use Rattle.ltm_flows.proofs.Writing.{sets_none, sets_next, still_shaped}
use Rattle.ltm_working.specs.Counted.{counts_by_form}
use Rattle.ltm_working.specs.Waking.{row_differs, PutsCells}
use Rattle.ltm_working.specs.Rewriting.{row_at_end}
use Rattle.ltm_working.proofs.Noting.{cells_stay}
use Rattle.ltm_working.proofs.Wakings.{row_same, arm_origin}
use Rattle.ltm_working.proofs.Renewals.{fits_with}
use Rattle.ltm_working.proofs.Counted.{arm_row, fits_row}
use Rattle.ltm_working.proofs.table.Table.renew_origin.Goals as goal

pub renew-requires : goal.renew-requires
renew-requires c =
    let s = setting_of c.args.renewal.scenario.now in
    let counts = counts_of c.args.self.now.curves in
    let u : ℕ = c.args.renewal.pair.node.0 in
    let shape : c.args.renewal.outputs.now.shape.destinations ≡ s.destinations = ap (λ (z : NodeShape). z.destinations) c.requires.outputs in
    let some : 0 < s.outs u = some_out c.is_empty.result (length c.out_links.result.now) (s.outs u) c.if-is_empty.false c.is_empty.ensures c.out_links.ensures.count in
    let inside : s.ins u < arms_of s u = omega (arith, some) in
    fits_row c.args.renewal.given s c.args.self.now c.dep_of-group.result c.args.renewal.pair.slot c.left_row-numbers.result.now c.requires.fits
    (omega (arith, c.dep_of-group.ensures.group, c.requires.node)) c.requires.slot (c.left_row-numbers.ensures.count ∙ shape)
    (λ d l. omega (
      arith,
      arm_row c.args.renewal.given s counts counts u c.args.renewal.pair.slot (s.ins u) c.dep_of-group.result c.args.renewal.outputs.now c.left_row-numbers.result.now c.is_setting.ensures.setting c.requires.node inside (c.dep_of-group.ensures.group ∙ sym (arm_origin s u))
          c.requires.outputs c.left_row-numbers.ensures.count (λ e m. c.left_row-numbers.ensures.counts e m ∙ ap (λ (n : ℕ). left_after c.args.renewal.outputs.now n e) (omega (arith, c.in_links.ensures.count)))
          (λ g e x m. refl) d (omega (arith, l, shape, c.left_row-numbers.ensures.count)),
      c.requires.small (left_after_place (counts_by_form c.args.renewal.given s counts u c.args.renewal.pair.slot c.args.renewal.outputs.now).shape (s.ins u) d),
    ))

pub returns : goal.returns
returns c =
    let s = setting_of c.args.renewal.scenario.now in
    let old = counts_of c.args.self.now.curves in
    let u : ℕ = c.args.renewal.pair.node.0 in
    let k : ℕ = c.args.renewal.pair.slot + 1 in
    let o = counts_by_form c.args.renewal.given s old u c.args.renewal.pair.slot c.args.renewal.outputs.now in
    let some : 0 < s.outs u = some_out c.is_empty.result (length c.out_links.result.now) (s.outs u) c.if-is_empty.false c.is_empty.ensures c.out_links.ensures.count in
    let within : k ≤ s.slots = omega (arith, c.requires.slot) in
    let group = c.dep_of-group.ensures.group in
    let there : c.dep_of-group.result < groups s = omega (arith, group, c.requires.node) in
    let row = row_at_end c.args.renewal.given c.args.self.now.curves c.dep_of-group.result c.args.renewal.pair.slot c.left_row-numbers.result.now in
    let numbers = arm_row c.args.renewal.given s old old u c.args.renewal.pair.slot (s.ins u) c.dep_of-group.result c.args.renewal.outputs.now c.left_row-numbers.result.now c.is_setting.ensures.setting c.requires.node (omega (arith, some)) (group ∙ sym (arm_origin s u)) c.requires.outputs c.left_row-numbers.ensures.count
    (λ e m. c.left_row-numbers.ensures.counts e m ∙ ap (λ (n : ℕ). left_after c.args.renewal.outputs.now n e) (omega (arith, c.in_links.ensures.count))) (λ g e x m. refl) in
    let shaped = still_shaped s c.args.self.now.curves _ _ _ _ c.requires.fits.curves c.renew.ensures.sets in
    record {
      fits = fits_with s c.args.self.now c.renew.new.curves c.renew.new.changed c.args.self.now.frontier c.args.self.now.kept c.requires.fits shaped (cells_stay c.args.self.now.changed _ _ _ _ c.requires.fits.changed c.renew.ensures.cells) c.requires.fits.frontier c.requires.fits.kept;
      same = refl;
      origin = λ any.
          c.renew.ensures.value
          ∙ (ap (λ (m : ℕ). row_differs m old c.dep_of-group.result k (slice_index row)) c.requires.fits.curves.same_destinations
          ∙ row_same s.destinations old c.dep_of-group.result (arm_group s u (s.ins u)) k (slice_index row) (left_after o (s.ins u)) (group ∙ sym (arm_origin s u)) numbers);
      none = λ e. absurd (omega (arith, e, some));
      sets = λ any.
          sets_next s k 0 (λ i. dep_of s u) (λ i. left_after o (s.ins u)) old c.args.self.now.curves c.renew.new.curves _ _ within there group
          (λ i l. absurd (omega arith)) (λ i l. absurd (omega arith)) numbers c.requires.fits.curves
          (sets_none s k (λ i. dep_of s u) (λ i. left_after o (s.ins u)) old) c.renew.ensures.sets;
      stays = λ e. absurd (omega (arith, e, some));
      cells = subst (λ (g : ℕ). PutsCells c.args.self.now.changed c.renew.new.changed (λ h b. c.renew.result && is_pair g k h b)) group c.renew.ensures.cells;
    }
