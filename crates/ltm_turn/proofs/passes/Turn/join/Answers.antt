use Rattle.std.proofs.Common.{rules}
use Rattle.ltm_turn.specs.Boxes.{boxed}
use Rattle.ltm_turn.proofs.Workers.{joins}
use Rattle.ltm_turn.proofs.passes.Turn.join.Goals as goal

pub join_seat-requires : goal.join_seat-requires
join_seat-requires g c = let e = c.args.editor.now in let w = c.open-other.result in
    (search rules, search rules, search rules, search rules, joins (boxed g.T.Told.entries) (boxed g.T.Told.number) _ e.seat.me.0 _ w.me.0 e.edits.1 e.edits.2 e.edits.3 (search rules) (search rules) (search rules))
