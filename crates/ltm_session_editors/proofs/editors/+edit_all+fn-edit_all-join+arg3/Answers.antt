use Rattle.std.proofs.Common.{rules, ap, ◌≡◌, ◌∙◌, ◌∷◌, length, List, arith}
use Rattle.std.specs.Prelude.{All}
use denote.Param.Send.{sendable}
use Rattle.std.proofs.Crossing.{crosses}
use Rattle.ltm_scenario.specs.declared.edit.Edit.{Edit}
use Rattle.ltm_scenario.specs.Edits.{HaveAmounts}
use Rattle.ltm_editors.proofs.desk.Seat.TheSendSync as seat
use Rattle.ltm_editors.proofs.desk.Desk.TheSendSync as desk
use Rattle.ltm_session_editors.proofs.script.Script.TheSendSync as script
use Rattle.ltm_editors.specs.Seats.{seat_place, seat_seen}
use Rattle.ltm_session_editors.proofs.Calls.{all_split}
use Rattle.ltm_session_editors.proofs.Crews.{taken_out, owns_next, crew_made}
use Rattle.ltm_editors.proofs.Crosses.{office_sends}
use Rattle.ltm_session_editors.proofs.editors.+edit_all+fn-edit_all-join+arg3.Goals as goal

pub join-seat-requires-send-A : goal.join-seat-requires-send-A
join-seat-requires-send-A g t c κs within = search (rules, sendable, crosses, seat.the_send, office_sends) depth 30

pub join-seat-requires-send-F : goal.join-seat-requires-send-F
join-seat-requires-send-F g t c κs within = search (rules, sendable, crosses, seat.the_send, desk.the_sync, script.the_send, office_sends) depth 40

pub join-seat-requires-after_bounds : goal.join-seat-requires-after_bounds
join-seat-requires-after_bounds g t c κs within =
    let whole : c.args.scripts.items ≡ c.remove-script.result ∷ c.remove-script.new.self.items =
    taken_out c.args.scripts.items c.remove-script.result c.remove-script.new.self.items (omega (arith, c.requires.count, c.if-editors-eq0.false)) c.remove-script.ensures.value c.remove-script.ensures.items in
    let short = ap (λ (xs : List (List (List Edit))). length xs) whole in
    let own = owns_next (seat_place c.split-seat.result) (seat_place c.args.first) c.split-seat.ensures.next in
    let amounts = all_split (All HaveAmounts) c.args.scripts.items c.remove-script.result c.remove-script.new.self.items whole c.requires.amounts in
    let his : All HaveAmounts c.remove-script.result = amounts.0 in
    let theirs : All (All HaveAmounts) c.remove-script.new.self.items = amounts.1 in search (rules, own, his, theirs)

pub returns-clause-all : goal.returns-clause-all
returns-clause-all g t c =
    let whole : c.args.scripts.items ≡ c.remove-script.result ∷ c.remove-script.new.self.items =
    taken_out c.args.scripts.items c.remove-script.result c.remove-script.new.self.items (omega (arith, c.requires.count, c.if-editors-eq0.false)) c.remove-script.ensures.value c.remove-script.ensures.items in
    let h = c.join-seat.ensures.first in let k = c.join-seat.ensures.second in
    crew_made c.both.result c.join-seat.result.0.1 c.join-seat.result.1.1 tt tt c.remove-script.result c.remove-script.new.self.items c.args.scripts.items (seat_place c.args.first) (seat_place c.split-seat.new.first)
    (seat_place c.split-seat.result) (seat_place c.join-seat.result.0.0) (seat_place c.join-seat.result.1.0) (seat_place c.join.new.first) (seat_seen c.split-seat.result) (seat_seen c.join-seat.result.0.0)
    (seat_seen c.join-seat.result.1.0) (seat_seen c.join.new.first) whole c.split-seat.ensures.first c.split-seat.ensures.next h.0 c.join.ensures.place (c.split-seat.ensures.next_seen ∙ c.requires.fresh) c.both.ensures.one c.both.ensures.other
    h.1 k.1.1.1.1.1 c.join.ensures.seen
