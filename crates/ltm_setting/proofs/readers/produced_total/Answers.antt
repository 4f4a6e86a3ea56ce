use Rattle.std.proofs.Common.{◌-◌, arith, ap, sym, ◌∙◌}
use Rattle.ltm_demand.specs.Rows.{DemandData}
use Rattle.ltm_demand.specs.Produced.{origin_by_end}
use Rattle.ltm_setting.specs.Setting.{setting_of}
use Rattle.ltm_setting.proofs.Totals.{total_first, total_later}
use Rattle.ltm_setting.proofs.readers.produced_total.Goals as goal

pub returns-then-boundary-eq0-clause-value : goal.returns-then-boundary-eq0-clause-value
unfolding setting_of
returns-then-boundary-eq0-clause-value c = sym (total_first c.args.scenario.now c.args.node.0 c.args.boundary c.if-boundary-eq0.true)

pub returns-clause-value : goal.returns-clause-value
unfolding setting_of
returns-clause-value c =
    let s = c.args.scenario.now in
    let u = c.args.node.0 in
    let k = c.args.boundary in
    c.origin_by_end.ensures ∙ (ap (λ (d : DemandData). origin_by_end d.rows u (k - 1)) c.demand.ensures.demand ∙ sym (total_later s u k c.setup-setup.ensures.scenario c.destinations_add_up.ensures.sum (omega arith)))

pub returns-clause-small : goal.returns-clause-small
unfolding setting_of
returns-clause-small c =
    let s = c.args.scenario.now in
    omega (
      arith,
      c.origin_by_end.ensures,
      ap (λ (d : DemandData). origin_by_end d.rows c.args.node.0 (c.args.boundary - 1)) c.demand.ensures.demand,
      c.destinations_add_up.ensures.within s.demand c.args.node.0 (c.args.boundary - 1),
      c.production_never_falls.ensures.small s.setup.slots s.setup.most_demand_rows s.demand c.setup-setup.ensures.scenario.demand_rows,
    )
