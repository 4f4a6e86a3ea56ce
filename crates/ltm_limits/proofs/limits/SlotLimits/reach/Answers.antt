use Rattle.std.proofs.Common.{◌≡◌, ◌*◌, length, ap, sym, ◌∙◌, arith}
use Rattle.ltm_limits.specs.Limits.{LimitsState}
use Rattle.ltm_limits.proofs.Rows.{limits_long, limits_reach}
use Rattle.ltm_limits.proofs.limits.SlotLimits.reach.Goals as goal

pub returns-in_ok-resize-clause-limits : goal.returns-in_ok-resize-clause-limits
returns-in_ok-resize-clause-limits c =
    limits_reach c.self.inside.table.items c.resize.new.self.items c.self.inside.links c.self.inside.slots _ (c.args.to * c.self.inside.links) (omega (arith, c.self.inside.table.ok.0)) c.in_ok-resize.ensures.items
    ∙ ap (λ (v : LimitsState). v.limits) c.self.view_is

pub returns-in_ok-resize-clause-ok : goal.returns-in_ok-resize-clause-ok
returns-in_ok-resize-clause-ok c =
    let long : length c.args.self.now.limits ≡ c.self.inside.links = ap (λ (v : LimitsState). length v.limits) (sym c.self.view_is) ∙ limits_long c.self.inside.table.items c.self.inside.links c.self.inside.slots in
    rw long (omega (arith, c.in_ok-resize.ensures.len))

pub returns-else-len-count-clause-ok : goal.returns-else-len-count-clause-ok
returns-else-len-count-clause-ok c =
    let long : length c.args.self.now.limits ≡ c.self.inside.links = ap (λ (v : LimitsState). length v.limits) (sym c.self.view_is) ∙ limits_long c.self.inside.table.items c.self.inside.links c.self.inside.slots in
    let places : c.self.inside.table.len ≡ c.args.self.now.places = ap (λ (v : LimitsState). v.places) c.self.view_is in
    rw long (omega arith)
