use Rattle.std.proofs.Common.{rules}
use Rattle.ltm_turn.specs.Boxes.{boxed}
use Rattle.ltm_turn.proofs.Workers.{splits}
use Rattle.ltm_turn.proofs.passes.Turn.split.Goals as goal

pub split_seat-seat-requires : goal.split_seat-seat-requires
split_seat-seat-requires g c = let e = c.args.editor.now in
    (search rules, search rules, splits (boxed g.T.Told.entries) (boxed g.T.Told.number) _ e.seat.me.0 e.edits.1 e.edits.2 e.edits.3)
