use Rattle.std.proofs.Common.{◌≡◌, arith}
use Rattle.ltm_flows.specs.Shown.{version_of}
use Rattle.ltm_core.specs.Log.{version_now}
use Rattle.ltm_session_viewers.proofs.Posts.{shows_now, opens_board}
use Rattle.ltm_session_viewers.proofs.hanging.hang_one.Goals as goal

pub create-requires-3 : goal.create-requires-3
create-requires-3 g c =
    let few = c.shown.ensures.is_shown.is_version in
    let fresh = c.requires in
    let up : version_of c.args.core.now.shown ≡ version_now c.args.core.now.log = omega (arith, few, fresh) in
    shows_now c.logs_tell_all.ensures c.args.core.now c.shown.result.now c.scenario-2.result.now c.shown.ensures.loading c.shown.ensures.is_shown up c.scenario-2.ensures.scenario

pub returns-clause-list : goal.returns-clause-list
returns-clause-list g c =
    let few = c.shown.ensures.is_shown.is_version in
    let fresh = c.requires in
    let none : version_of c.args.core.now.shown ≡ 0 = omega (arith, few, fresh) in
    opens_board c.logs_tell_all.ensures c.args.core.now c.scenario-2.result.now _ c.in_ok-board.ensures.list.0 c.scenario-2.ensures.scenario c.requires none
