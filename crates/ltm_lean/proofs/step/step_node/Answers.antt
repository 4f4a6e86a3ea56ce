use Rattle.std.proofs.Common.{ℕ, ◌≤◌, List, length, arith, sym, ap, subst, ◌∙◌}
use Rattle.ltm_existence.specs.Existence.{HasLoading}
use Rattle.ltm_setting.specs.Setting.{setting_of}
use Rattle.ltm_standing.specs.Listed.{Ascends}
use Rattle.ltm_standing.proofs.Thin.{ascends_before}
use Rattle.ltm_thin.specs.NodeLists.{IsNodeList, MovesInLoading}
use Rattle.ltm_thin.proofs.Thinning.{ascends_few}
use Rattle.ltm_lean_node.specs.Rows.{listed_shape, AreSent}
use Rattle.ltm_lean.proofs.Arms.{sent_within}
use Rattle.ltm_lean.proofs.step.step_node.Goals as goal

pub step_listed-requires-clause-few : goal.step_listed-requires-clause-few
step_listed-requires-clause-few c =
    let order : Ascends 0 (setting_of c.args.scenario.now).destinations c.on-list.result.now =
    subst (Ascends 0 (setting_of c.args.scenario.now).destinations) (sym c.on-list.ensures) (c.requires.tables.node_order c.args.node.now.node.0 c.requires.node.there) in
    let few : length c.on-list.result.now ≤ (setting_of c.args.scenario.now).destinations = ascends_few (setting_of c.args.scenario.now).destinations c.on-list.result.now order in
    omega (arith, few, c.destination_count-destinations.ensures.value, c.destination_count-destinations.ensures.few)

pub step_listed-requires-clause-below : goal.step_listed-requires-clause-below
step_listed-requires-clause-below c =
    ascends_before 0 (setting_of c.args.scenario.now).destinations c.on-list.result.now
    (subst (Ascends 0 (setting_of c.args.scenario.now).destinations) (sym c.on-list.ensures) (c.requires.tables.node_order c.args.node.now.node.0 c.requires.node.there))

pub step_listed-requires-clause-fits : goal.step_listed-requires-clause-fits
step_listed-requires-clause-fits c =
    let s = setting_of c.args.scenario.now in
    let u : ℕ = c.args.node.now.node.0 in
    let has : HasLoading (setting_of c.args.scenario.now) = c.there_is_a_loading.ensures s c.is_setting.ensures.setting in
    sent_within s has.counts u c.args.slot c.on-list.result.now c.args.sends.now
    (subst (IsNodeList s has.counts u) (sym c.on-list.ensures) (c.requires.tables.node_listed has.counts u has.loading c.requires.node.there)) c.requires.slot
    (subst (λ (xs : List ℕ). AreSent s has.counts u c.args.slot xs c.args.sends.now) (sym c.on-list.ensures) (c.requires.sent has.counts has.loading))

pub returns-clause-moves : goal.returns-clause-moves
returns-clause-moves c = λ counts load frozen.
    let s = setting_of c.args.scenario.now in
    let u : ℕ = c.args.node.now.node.0 in
    subst (λ (xs : List ℕ). MovesInLoading s counts u c.args.slot xs c.step_listed.new.outputs) c.on-list.ensures
    (c.step_listed.ensures.moves counts (subst (IsNodeList s counts u) (sym c.on-list.ensures) (c.requires.tables.node_listed counts u load c.requires.node.there))
    (subst (λ (xs : List ℕ). AreSent s counts u c.args.slot xs c.args.sends.now) (sym c.on-list.ensures) (c.requires.sent counts load)) (c.put_takes.ensures.taken counts frozen))

pub returns-clause-shape : goal.returns-clause-shape
returns-clause-shape c = c.step_listed.ensures.shape ∙ ap (λ (xs : List ℕ). listed_shape (setting_of c.args.scenario.now) c.args.node.now.node.0 (length xs) c.args.node.now.own) c.on-list.ensures
