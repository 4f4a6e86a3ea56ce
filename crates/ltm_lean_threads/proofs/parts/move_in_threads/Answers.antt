use Rattle.std.proofs.Common.{arith}
use Rattle.ltm_setting.specs.Setting.{setting_of}
use Rattle.ltm_lean_threads.proofs.Runs.{numbered}
use Rattle.ltm_lean_threads.proofs.parts.move_in_threads.Goals as goal

pub move_parts-requires-after_bounds : goal.move_parts-requires-after_bounds
move_parts-requires-after_bounds g c κs within = record {
  begun = record { slot = c.requires.slot; tables = c.requires.tables; frozen = c.requires.frozen };
  filled = c.requires.some;
  rooms = c.requires.room;
  nodes = λ u d l. record {
    node = c.requires.nodes.each u d (omega (arith, l, c.requires.nodes.count));
    stands = λ counts load. c.requires.stands counts load u d (omega (arith, l, c.requires.nodes.count));
  };
}

pub returns-clause-nodes : goal.returns-clause-nodes
returns-clause-nodes g c = numbered (setting_of c.args.scenario.now) c.args.tables.now c.args.nodes.now c.move_parts.new.nodes c.requires.nodes c.move_parts.ensures.same.nodes c.move_parts.ensures.same.numbers
