use Rattle.std.proofs.Common.{◌∙◌}
use Rattle.ltm_session.proofs.Reported.{on_ok_map, links_there, nodes_there, question_replied}
use Rattle.ltm_session.proofs.questions.push_told.Goals as goal

pub push_asked-requires-clause-links : goal.push_asked-requires-clause-links
push_asked-requires-clause-links c =
    links_there c.args.core.now c.network.result.now c.shown.result.now (c.network.ensures ∙ c.scenario.ensures.network) c.shown.ensures.loading c.shown.ensures.is_shown

pub push_asked-requires-clause-nodes : goal.push_asked-requires-clause-nodes
push_asked-requires-clause-nodes c =
    nodes_there c.args.core.now c.network.result.now c.shown.result.now (c.network.ensures ∙ c.scenario.ensures.network) c.shown.ensures.loading c.shown.ensures.is_shown

pub returns-clause-ok : goal.returns-clause-ok
returns-clause-ok c =
    on_ok_map c.push_asked.result _ _
    (question_replied c.args.core.now c.network.result.now c.shown.result.now c.args.asks.now _ _ (c.network.ensures ∙ c.scenario.ensures.network) c.shown.ensures.loading c.shown.ensures.is_shown)
    c.push_asked.ensures.ok
