use Rattle.ltm_setting.specs.Setting.{setting_of}
use Rattle.ltm_lean_threads.proofs.Runs.{filled_more}
use Rattle.ltm_lean_threads.proofs.sharing.parts_of.Goals as goal

pub loop-part-preserved : goal.loop-part-preserved
loop-part-preserved c =
    let h = filled_more (setting_of c.args.scenario.now) c.args.tables.now c.loop-part.part c.loop-part.parts.items c.push.new.self.items _ c.in_ok-push.ensures.items c.in_ok-room.ensures c.loop-part.invariant.count c.loop-part.invariant.room in
    record { count = h.0; room = h.1 }
