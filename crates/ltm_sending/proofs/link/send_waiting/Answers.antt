use Rattle.std.proofs.Common.{◌≡◌, ◌<◌, arith, ap, get_or-set_same, sym, ◌∙◌, slice_index, slice_set}
use Rattle.ltm_curve.specs.Table.{counts_of, destinations_of}
use Rattle.ltm_setting.specs.Setting.{setting_of}
use Rattle.ltm_sending.proofs.Links.{sends_nothing, sends_one}
use Rattle.ltm_sending.proofs.Waiting.{is_one}
use Rattle.ltm_sending.proofs.link.send_waiting.Goals as goal

pub returns-then-whole-eq0 : goal.returns-then-whole-eq0
returns-then-whole-eq0 g c d x =
    let inside : d < destinations_of c.args.curves.now = omega (arith, c.requires.ready.shape.same_destinations) in
    c.send_none.ensures d (omega arith)
    ∙ sym (sends_nothing (setting_of c.args.scenario.now) (counts_of c.args.curves.now) c.args.link.0 c.args.slot (destinations_of c.args.curves.now) _ _ _ d c.requires.waiting (omega arith) inside)

pub returns-then-is_alone : goal.returns-then-is_alone
returns-then-is_alone g c d x =
    let one : destinations_of c.args.curves.now ≡ 1 = is_one c.is_alone.result (destinations_of c.args.curves.now) c.if-is_alone.true c.is_alone.ensures in
    let inside : d < destinations_of c.args.curves.now = omega (arith, c.requires.ready.shape.same_destinations) in
    let first : d ≡ 0 = omega (arith, one, inside) in
    ap (slice_index (slice_set c.args.into.now 0 c.min.result)) first
    ∙ (get_or-set_same c.args.into.now 0 c.min.result 0 (omega (arith, one, inside))
    ∙ (c.min.ensures
    ∙ sym (sends_one (setting_of c.args.scenario.now) (counts_of c.args.curves.now) c.args.link.0 c.args.slot (destinations_of c.args.curves.now) _ _ _ c.exit_limit.result d c.requires.waiting one (omega arith) c.exit_limit.ensures inside)))
