use Rattle.std.proofs.Common.{◌≡◌, ℕ, ◌*◌, List, length, arith, sym, ap, subst, ◌∙◌}
use Rattle.ltm_units.specs.declared.places.NodeId.{NodeId}
use Rattle.ltm_node.specs.declared.shape.NodeShape.{NodeShape}
use Rattle.ltm_loading.specs.Pairs.{arms_of}
use Rattle.ltm_setting.specs.Setting.{setting_of}
use Rattle.ltm_used.specs.Lists.{list_of}
use Rattle.ltm_lean_node.specs.Rows.{AreSent}
use Rattle.ltm_lean.specs.Nodes.{IsMoving}
use Rattle.ltm_lean.specs.Still.{IsStill}
use Rattle.ltm_lean.proofs.Passed.{renewed_stands}
use Rattle.ltm_lean.proofs.Still.{still, zeros}
use Rattle.ltm_lean.proofs.slot.move_node.Goals as goal

pub step_node-requires-clause-sent : goal.step_node-requires-clause-sent
step_node-requires-clause-sent c = λ counts load.
    let s = setting_of c.args.scenario.now in
    subst (λ (n : NodeId). AreSent s counts n.0 c.args.slot (list_of c.args.tables.now.nodes n.0) c.send_all.new.row) (sym (c.renew.ensures.same.node ∙ c.send_all.ensures.same.node))
    (c.in_ok-send_all.ensures.sent counts load (c.requires.frozen counts load) (c.requires.stands counts load))

pub returns-then-are_zero-clause-stands : goal.returns-then-are_zero-clause-stands
returns-then-are_zero-clause-stands c = λ counts load.
    let s = setting_of c.args.scenario.now in
    let u : ℕ = c.send_all.new.node.node.0 in
    let us : List ℕ = list_of c.args.tables.now.nodes u in
    let sent : AreSent (setting_of c.args.scenario.now) counts c.send_all.new.node.node.0 c.args.slot (list_of c.args.tables.now.nodes c.send_all.new.node.node.0) c.send_all.new.row =
    subst (λ (n : NodeId). AreSent s counts n.0 c.args.slot (list_of c.args.tables.now.nodes n.0) c.send_all.new.row) (sym c.send_all.ensures.same.node)
    (c.in_ok-send_all.ensures.sent counts load (c.requires.frozen counts load) (c.requires.stands counts load)) in
    let many : arms_of (setting_of c.args.scenario.now) c.send_all.new.node.node.0 * length (list_of c.args.tables.now.nodes c.send_all.new.node.node.0) ≡ length c.args.row.now =
    ap (λ (n : NodeId). arms_of s n.0 * length (list_of c.args.tables.now.nodes n.0)) c.send_all.ensures.same.node ∙ sym c.requires.width in
    let idle : IsStill (setting_of c.args.scenario.now) counts c.send_all.new.node.node.0 c.args.slot =
    still s counts u c.args.slot us c.send_all.new.row (c.requires.tables.node_listed counts u load c.send_all.ensures.node.there) c.requires.slot sent
    (zeros (arms_of s u) (length us) c.send_all.new.row (λ k l. c.are_zero.ensures c.if-are_zero.true k (omega (arith, l, many, c.send_all.auto.row)))) in
    c.rest.ensures.stands s c.args.tables.now counts c.args.slot c.args.slot c.is_setting.ensures.setting c.requires.tables c.send_all.ensures.node idle
    (c.in_ok-send_all.ensures.stands counts load (c.requires.frozen counts load) (c.requires.stands counts load))

pub returns-then-are_zero-clause-moved : goal.returns-then-are_zero-clause-moved
returns-then-are_zero-clause-moved c = λ counts load.
    let s = setting_of c.args.scenario.now in
    let u : ℕ = c.send_all.new.node.node.0 in
    let us : List ℕ = list_of c.args.tables.now.nodes u in
    let sent : AreSent (setting_of c.args.scenario.now) counts c.send_all.new.node.node.0 c.args.slot (list_of c.args.tables.now.nodes c.send_all.new.node.node.0) c.send_all.new.row =
    subst (λ (n : NodeId). AreSent s counts n.0 c.args.slot (list_of c.args.tables.now.nodes n.0) c.send_all.new.row) (sym c.send_all.ensures.same.node)
    (c.in_ok-send_all.ensures.sent counts load (c.requires.frozen counts load) (c.requires.stands counts load)) in
    let many : arms_of (setting_of c.args.scenario.now) c.send_all.new.node.node.0 * length (list_of c.args.tables.now.nodes c.send_all.new.node.node.0) ≡ length c.args.row.now =
    ap (λ (n : NodeId). arms_of s n.0 * length (list_of c.args.tables.now.nodes n.0)) c.send_all.ensures.same.node ∙ sym c.requires.width in
    let idle : IsStill (setting_of c.args.scenario.now) counts c.send_all.new.node.node.0 c.args.slot =
    still s counts u c.args.slot us c.send_all.new.row (c.requires.tables.node_listed counts u load c.send_all.ensures.node.there) c.requires.slot sent
    (zeros (arms_of s u) (length us) c.send_all.new.row (λ k l. c.are_zero.ensures c.if-are_zero.true k (omega (arith, l, many, c.send_all.auto.row)))) in
    c.rest.ensures.moved s c.args.tables.now counts c.args.slot c.send_all.ensures.node idle

pub returns-clause-stands : goal.returns-clause-stands
returns-clause-stands c = λ counts load.
    let s = setting_of c.args.scenario.now in
    let moving : IsMoving (setting_of c.args.scenario.now) counts c.args.tables.now c.renew.new.self.node.0 c.args.slot c.step_node.new.outputs = record {
      tables = c.requires.tables;
      there = c.renew.ensures.node.there;
      in_time = c.requires.slot;
      loading = load;
      wide = ap (λ (z : NodeShape). z.destinations) c.step_node.ensures.shape;
      moves = c.step_node.ensures.moves counts load (c.requires.frozen counts load);
    } in
    c.pass.ensures.stands s c.args.tables.now counts c.args.slot c.args.slot c.renew.ensures.node moving
    (renewed_stands s counts c.args.tables.now c.args.slot c.args.slot c.send_all.new.node c.renew.new.self c.renew.ensures.same
    (c.in_ok-send_all.ensures.stands counts load (c.requires.frozen counts load) (c.requires.stands counts load)))

pub returns-clause-moved : goal.returns-clause-moved
returns-clause-moved c = λ counts load.
    let s = setting_of c.args.scenario.now in
    let moving : IsMoving (setting_of c.args.scenario.now) counts c.args.tables.now c.renew.new.self.node.0 c.args.slot c.step_node.new.outputs = record {
      tables = c.requires.tables;
      there = c.renew.ensures.node.there;
      in_time = c.requires.slot;
      loading = load;
      wide = ap (λ (z : NodeShape). z.destinations) c.step_node.ensures.shape;
      moves = c.step_node.ensures.moves counts load (c.requires.frozen counts load);
    } in
    c.pass.ensures.moved s c.args.tables.now counts c.args.slot c.renew.ensures.node moving
