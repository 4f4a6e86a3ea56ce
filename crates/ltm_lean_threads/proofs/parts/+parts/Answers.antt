use Rattle.std.proofs.lemmas.Result.{on_ok_weaker}
use Rattle.std.proofs.lemmas.List.Elements.{All-append}
use Rattle.ltm_setting.specs.Setting.{setting_of}
use Rattle.ltm_lean_threads.specs.Runs.{HasMoved}
use Rattle.ltm_lean_threads.proofs.Runs.{join_same}
use Rattle.ltm_lean_threads.proofs.parts.+parts.Goals as goal

pub move_parts-returns-clause-same : goal.move_parts-returns-clause-same
move_parts-returns-clause-same g t c =
    join_same (setting_of c.args.scenario.now) c.args.tables.now c.args.parts.now c.split_at_mut-low.result.0.now c.split_at_mut-low.result.1.now c.move_both.new.low c.move_both.new.high
    c.args.nodes.now c.split_at_mut-front.result.0.now c.split_at_mut-front.result.1.now c.move_both.new.front c.move_both.new.back
    c.split_at_mut-low.ensures.value c.split_at_mut-front.ensures.value c.move_both.ensures.front c.move_both.ensures.back

pub move_parts-returns-clause-moved : goal.move_parts-returns-clause-moved
move_parts-returns-clause-moved g t c =
    on_ok_weaker c.move_both.result (λ h. All-append (HasMoved (setting_of c.args.scenario.now) c.args.tables.now c.args.slot) c.move_both.new.front c.move_both.new.back h.0 h.1) c.move_both.ensures.moved
