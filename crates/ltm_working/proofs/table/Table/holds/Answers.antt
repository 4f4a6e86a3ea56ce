use Rattle.std.proofs.Common.{refl, sym, ◌∙◌, arith}
use Rattle.ltm_setting.specs.Setting.{setting_of}
use Rattle.ltm_rows.specs.Claims.{claim_row}
use Rattle.ltm_working.proofs.Giving.{held, not_held}
use Rattle.ltm_working.proofs.table.Table.holds.Goals as goal

pub returns-then-not-is_claimed : goal.returns-then-not-is_claimed
returns-then-not-is_claimed c =
    not_held (setting_of c.args.scenario.now) c.args.self.now c.args.pair.node.0 c.args.pair.slot c.args.row.now (λ x l. sym c.is_claimed.ensures.value ∙ c.if-not-is_claimed.true)

pub returns : goal.returns
returns c =
    held (setting_of c.args.scenario.now) c.args.self.now c.args.pair.node.0 c.args.pair.slot c.args.row.now (claim_row c.args.self.now.claims c.args.pair.node.0) c.is_still_row.result
    (omega (arith, c.if-pair-node_count.false, c.node_count.ensures.value)) (omega (arith, c.if-pair-slot_count.false, c.slot_count.ensures.value))
    (sym c.is_claimed.ensures.value ∙ c.if-not-is_claimed.false) refl c.is_still_row.ensures
