use Rattle.std.proofs.Common.{arith}
use Rattle.ltm_units.specs.declared.quantities.Millis.{Millis}
use Rattle.ltm_setting.specs.Setting.{setting_of}
use Rattle.ltm_flows.proofs.Places.{written}
use Rattle.ltm_flows.proofs.tables.write_free_times.Goals as goal

pub loop-link-preserved : goal.loop-link-preserved
loop-link-preserved c =
    written (λ (time : Millis). time.0) c.loop-link.into c.loop-link.link _ (setting_of c.args.scenario.now).free_time (omega (arith, c.loop-link.auto.into, c.requires, c.loop-link-test.true, c.link_count-link-end.ensures.value)) c.limits.ensures.free_time c.loop-link.invariant
