use Rattle.std.proofs.Common.{rules, ◌≡◌, [], drop, fold, ap, ◌∙◌}
use Rattle.left_right.specs.Sides.{view}
use Rattle.ltm_board.proofs.Posts.{shown_of, applied, opens_right}
use Rattle.ltm_board.proofs.Rules.{first, shows_same}
use Rattle.ltm_board.proofs.opening.open.Goals as goal

pub publish_as-writer-requires : goal.publish_as-writer-requires
publish_as-writer-requires g c next is =
    let w = c.in_ok-writer.writer in
    let none : drop w.behind w.log.items ≡ [] = search rules in
    shows_same w.desk.place.id (view w.desk.place) w.desk.shown.value next (is ∙ ap (fold applied (shown_of w.desk.shown.value)) none)

pub new-requires-clause-rule : goal.new-requires-clause-rule
new-requires-clause-rule g c =
    let x = c.panel_of-first.result in
    let (opening, none, zero, same) = c.panel_of-first.ensures in
    first x (opens_right c.args.opening.now x c.args.sheet opening none zero same c.requires.right)
