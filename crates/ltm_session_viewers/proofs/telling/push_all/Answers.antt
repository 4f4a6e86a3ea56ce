use Rattle.std.proofs.Common.{◌≡◌, ◌++◌, ℕ, List, sym, ap, subst}
use Rattle.std.specs.Prelude.{Option}
use Rattle.std.specs.Option.{option_map}
use Rattle.ltm_board.specs.Boards.{BoardData}
use Rattle.ltm_session.specs.Analysts.{state_of}
use Rattle.ltm_session_viewers.specs.Hung.{board_hook, one_or_two}
use Rattle.ltm_session_viewers.specs.Lines.{ViewersTell}
use Rattle.ltm_session_viewers.proofs.Told.{on_ok_map, two_tell}
use Rattle.ltm_session_viewers.proofs.telling.push_all.Goals as goal

pub returns-in-Some-Some : goal.returns-in-Some-Some
returns-in-Some-Some g c =
    let s = state_of c.args.core.now in
    let old : List ℕ = c.args.into.now.items in
    let new : List ℕ = c.push_one-in-Some-Some.new.into.items in
    let two = ap (λ (b : Option BoardData). one_or_two (option_map board_hook b)) c.in-Some-Some.is-0 in
    on_ok_map c.push_one-in-Some-Some.result _ _
    (λ wrote. subst (λ (n : ℕ). (x : List ℕ) × ViewersTell n s x × (new ≡ old ++ x)) (sym two) (two_tell s old c.push_one.new.into.items new c.in_ok-push_one.ensures wrote))
    c.push_one-in-Some-Some.ensures
