use Rattle.std.proofs.Common.{◌≡◌, ℕ, ◌+◌, List, Bool, slice_index, ap, sym, ◌∙◌, arith, subst}
use Rattle.ltm_units.specs.Sums.{sum_below}
use Rattle.ltm_units.proofs.Sums.{sum_below-same}
use Rattle.ltm_curve.specs.Table.{counts_of, total_of}
use Rattle.ltm_loading.specs.Groups.{up_of}
use Rattle.ltm_setting.specs.Setting.{setting_of}
use Rattle.ltm_frontier.specs.Frontier.{Activates}
use Rattle.ltm_working.specs.Desks.{place_of}
use Rattle.ltm_working.specs.Waking.{wakes_head}
use Rattle.ltm_working.specs.Rewriting.{row_at_end, FitsRow, RenewsRow}
use Rattle.ltm_working.proofs.Activating.{act_as}
use Rattle.ltm_working.proofs.Renewals.{head_set}
use Rattle.ltm_working.proofs.table.Table.renew_head.Goals as goal

pub renew-requires : goal.renew-requires
renew-requires c = subst (λ (g : ℕ). FitsRow c.args.row.given c.args.self.now.curves c.args.self.now.changed g c.args.row.slot c.args.row.numbers.now) (sym c.up_of.ensures) c.requires.row

-- the row that is set
abbrev row_of : (c : goal.After-mark_head) → List ℕ
row_of c = row_at_end c.args.row.given c.args.self.now.curves (up_of c.args.row.link.0) c.args.row.slot c.args.row.numbers.now

is_set : (c : goal.After-mark_head) → RenewsRow c.args.row.given c.args.self.now.curves c.args.self.now.changed (up_of c.args.row.link.0) c.args.row.slot c.args.row.numbers.now c.renew.result c.renew.new.curves c.renew.new.changed
is_set c = subst (λ (g : ℕ). RenewsRow c.args.row.given c.args.self.now.curves c.args.self.now.changed g c.args.row.slot c.args.row.numbers.now c.renew.result c.renew.new.curves c.renew.new.changed) c.up_of.ensures c.renew.ensures

-- the units that have entered are its sum
entered : (c : goal.After-mark_head) → c.total-units.result ≡ sum_below (setting_of c.args.scenario.now).destinations (slice_index (row_of c))
entered c =
    let s = setting_of c.args.scenario.now in
    let l : ℕ = c.args.row.link.0 in
    let k : ℕ = c.args.row.slot + 1 in
    c.total-units.ensures.total
    ∙ (ap (λ (g : ℕ). total_of c.renew.new.curves g k) c.up_of-2.ensures
    ∙ (ap (λ (m : ℕ). sum_below m (λ d. counts_of c.renew.new.curves (up_of l) d k)) (omega (arith, (is_set c).sets.shape.destinations, c.requires.fits.curves.same_destinations))
    ∙ sum_below-same s.destinations (λ d. counts_of c.renew.new.curves (up_of l) d k) (slice_index (row_of c)) (λ d m. (is_set c).sets.here d (omega (arith, m, c.requires.fits.curves.same_destinations)))))

pub returns-clause-row : goal.returns-clause-row
returns-clause-row c = subst (λ (b : Bool). RenewsRow c.args.row.given c.args.self.now.curves c.args.self.now.changed (up_of c.args.row.link.0) c.args.row.slot c.args.row.numbers.now b c.renew.new.curves c.renew.new.changed) c.if-not-renew.false (is_set c)

pub returns-clause-wakes : goal.returns-clause-wakes
returns-clause-wakes c =
    let s = setting_of c.args.scenario.now in
    let places = place_of c.args.self.now.index in
    let l = c.args.row.link.0 in
    let k : ℕ = c.args.row.slot + 1 in
    let x : ℕ = c.total-units.result in
    subst (λ (z : ℕ). Activates c.args.self.now.frontier c.mark_head.new.frontier (wakes_head s (counts_of c.args.self.now.curves) places l k z)) (entered c)
    (act_as c.args.self.now.frontier c.mark_head.new.frontier (wakes_head s (counts_of c.renew.new.curves) places l k x) (wakes_head s (counts_of c.args.self.now.curves) places l k x) c.mark_head.ensures
    (λ w v p q. head_set s k c.args.self.now.curves c.renew.new.curves (row_of c) places l x w v c.requires.fits.curves (is_set c).sets (omega (arith, c.requires.link, c.requires.fits.curves.same_groups)) (omega arith) (omega (arith, c.requires.row.slot, c.requires.fits.curves.same_slots))))
